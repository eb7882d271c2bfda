-- A CSV file (RFC 4180) of entries, described by all its records at once.
use Rattle.std.specs.Prelude.{ℕ, ◌+◌, ◌≡◌, ◌&&◌, if◌then◌else◌, List, [], ◌∷◌, zero, suc, Option, Some, None, Ok, Err, take}
use Rattle.std.specs.Option.{option_and_then, option_or}
use Rattle.std.specs.Str.{bytes_eq}
use Rattle.std.specs.Result.{result_ok}
use Rattle.oim_entries.specs.CsvFiles.{EntryFile, all_of, one_more}
use Rattle.oim_records.specs.Grids.{Record}
use Rattle.oim_entries.specs.TypeWords.{Table, TypeTexts, kind_given, texts_in}
use Rattle.oim_entries.specs.declared.fault.MetaFault.{MetaFault}
use Rattle.oim_report.specs.declared.kind.Kind.{Kind}

-- The record at an index.
abbrev pub record_at : List Record → ℕ → Option Record
record_at [] m = None
record_at (r ∷ rs) zero = Some r
record_at (r ∷ rs) (suc m) = record_at rs m

-- All records before an index are good, and the record at it has this fault after them.
abbrev pub IsEarliestBad : {S : Type 0} → EntryFile S → ℕ → S → List Record → MetaFault → Type 0
IsEarliestBad {S} f n s rs e = (m : ℕ) × (r : Record) × (t : S) × (record_at rs m ≡ Some r) × (all_of f n s (take m rs) ≡ Ok t) × (one_more f (n + m) t r ≡ Err e)

-- The kind that a record gives to a name in a namespace.
abbrev pub kind_by : Table → List ℕ → List ℕ → TypeTexts → Option Kind
kind_by table uri local p = if bytes_eq p.0 uri && bytes_eq p.1 local then result_ok (kind_given table p) else None

-- The kind of a name in a namespace, from the first record that gives it one.
abbrev pub kind_said : Table → List Record → List ℕ → List ℕ → Option Kind
kind_said table [] uri local = None
kind_said table (r ∷ rs) uri local = option_or (option_and_then (kind_by table uri local) (texts_in table r)) (kind_said table rs uri local)
