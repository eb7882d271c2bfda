-- The files of tables: with a faulty header, and without a file.
use Rattle.std.specs.Prelude.{◌≡◌, ℕ, List, [], ◌∷◌, Option, Some, None, length}
use Rattle.std.proofs.Common.{refl, ap, arith}
use Rattle.oim_records.specs.Grids.{Record}
use Rattle.oim_report.specs.ReportValue.{ReportValue}
use Rattle.oim_rows.specs.Header.{file_header_fault}
use Rattle.oim_rows.specs.Streams.{ending, stream_of}
use Rattle.oim_rows.specs.declared.fault.TableFault.{TableFault}
use Rattle.oim_records.specs.Reads.{IsFileOf}

-- The stream of a table with a faulty header is only that fault.
pub refused_header : (report : ReportValue) (table limit : ℕ) (rs : List Record) (e : TableFault) → file_header_fault report table rs ≡ Some e → stream_of report table limit rs ≡ ending (Some e)
refused_header report table limit [] e is = ap ending is
refused_header report table limit (r ∷ rs) e is = rw is refl

pub has_file : {R : Type 0} → (told : R → Option (List ℕ)) (r : R) (file : Option (List ℕ)) (P : Option (List ℕ) → Type 0)
    → IsFileOf told (Some r) file → ((bytes : List ℕ) → told r ≡ Some bytes → P (Some bytes)) → P file
has_file told r None P h f = absurd h
has_file told r (Some bytes) P h f = f bytes h

pub has_no_file : {R : Type 0} → (told : R → Option (List ℕ)) (file : Option (List ℕ)) (P : Option (List ℕ) → Type 0) → IsFileOf told None file → P None → P file
has_no_file told None P h p = p
has_no_file told (Some bytes) P h p = absurd h

pub nothing_left : {X : Type 0} → (xs : List X) → length xs ≡ 0 → xs ≡ []
nothing_left [] e = refl
nothing_left (x ∷ xs) e = absurd (omega (arith, e))
