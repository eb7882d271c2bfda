-- The head of a table's file, and the pieces after it.
use Rattle.std.proofs.Common.{◌≡◌, ◌⊎◌, ◌++◌, ◌≤◌, ℕ, List, [], ◌∷◌, Bool, true, false, length, drop, Option, Some, None, Result, Ok, Err, IfOk, IfErr, IfSome, refl, sym, ap, subst, ◌∙◌, arith, inl, inr}
use Rattle.csv.specs.Reading.{strip_bom}
use Rattle.csv.specs.declared.parser.State.TheVariants as state
use Rattle.oim_records.specs.Grids.{Record, grid, records_left}
use Rattle.oim_records.specs.Pieces.{Piece, TakesNext}
use Rattle.oim_records.specs.PieceTaking.{TakesBytes}
use Rattle.oim_records.specs.Reads.{KeepsLeft, StartsFile, left_known}
use Rattle.oim_records.proofs.FileReads.{piece-behind}
use Rattle.oim_records.proofs.PieceReads.{no-record}
use Rattle.std.specs.Io.KnownBytes.{IsAtEnd}
use Rattle.oim_report.specs.ReportValue.{ReportValue}
use Rattle.oim_rows.specs.Header.{Header, file_header_fault}
use Rattle.oim_rows.specs.RowFacts.{TableHeaderValue}
use Rattle.oim_rows.specs.Streams.{IsOutside, TakesHeader}
use Rattle.oim_rows.specs.declared.fault.TableFault.{TableFault}
use Rattle.oim_decode.specs.Apart.{Apart, apart_from}
use Rattle.oim_decode.specs.Heads.{table_header_in}
use Rattle.oim_decode.specs.state.Heads.{mark}
use Rattle.oim_decode.specs.PieceAnswers.{IsPieceDecoded, refused}

-- BYTES

marked_text : (xs : List ℕ) → strip_bom (mark ++ xs) ≡ xs
unfolding strip_bom
marked_text xs = refl

-- The records of a head after a byte-order mark.
pub marked_records : (marked : List ℕ) (left : Option (List Record)) → marked ≡ mark ++ drop 3 marked → StartsFile (Some marked) left → left ≡ Some (records_left state.StartRecord (drop 3 marked))
marked_records marked left is starts =
    let text : strip_bom marked ≡ drop 3 marked = ap strip_bom is ∙ marked_text (drop 3 marked) in
    starts ∙ ap (λ t. some (records_left state.StartRecord t)) text
  where
    some : List Record → Option (List Record)
    some t = Some t

pub marked_more : (marked piece : List ℕ) → marked ≡ mark ++ piece → (marked ≡ mark ++ drop 3 marked) × (drop 3 marked ≡ piece)
marked_more marked piece is = let rest : drop 3 marked ≡ piece = ap (drop 3) is in (is ∙ ap (λ t. mark ++ t) (sym rest), rest)

-- HEADERS

module _ (report : ReportValue) (table limit : ℕ) where
  pub head_form : (rs : List Record) (left after : Option (List Record)) (h : Header) (header : TableHeaderValue) → left ≡ Some rs → TakesHeader report table left h after
      → header ≡ record { report = report; table = table; limit = limit; columns = h } → header ≡ table_header_in report table limit rs
  head_form rs left after h header is takes same = by rs (subst (λ o. TakesHeader report table o h after) is takes)
    where
      with-header : Header → TableHeaderValue
      with-header x = record { report = report; table = table; limit = limit; columns = x }

      by : (rs : List Record) → TakesHeader report table (Some rs) h after → header ≡ table_header_in report table limit rs
      by [] t = absurd t
      by (r ∷ rows) t = same ∙ ap with-header t.1

  pub head_fine : (rs : List Record) (left after : Option (List Record)) (h : Header) → left ≡ Some rs → TakesHeader report table left h after → file_header_fault report table rs ≡ None
  head_fine rs left after h is takes = by rs (subst (λ o. TakesHeader report table o h after) is takes)
    where
      by : (rs : List Record) → TakesHeader report table (Some rs) h after → file_header_fault report table rs ≡ None
      by [] t = absurd t
      by (r ∷ rows) t = t.0

  pub head_fault : (rs : List Record) (left : Option (List Record)) (e : TableFault) → left ≡ Some rs → IsOutside table e ⊎ IfSome left (λ all. file_header_fault report table all ≡ Some e)
      → IsOutside table e ⊎ (file_header_fault report table rs ≡ Some e)
  head_fault rs left e is (inl out) = inl out
  head_fault rs left e is (inr bad) = inr (subst (λ o. IfSome o (λ all. file_header_fault report table all ≡ Some e)) is bad)

  -- The same for an answer.
  pub head_forms : (rs : List Record) (left after : Option (List Record)) (r : Result TableHeaderValue TableFault) → left ≡ Some rs → IfOk r (λ f. TakesHeader report table left f.columns after)
      → IfOk r (λ f. f ≡ record { report = report; table = table; limit = limit; columns = f.columns }) → IfOk r (λ f. f ≡ table_header_in report table limit rs)
  head_forms rs left after (Err e) is takes same = tt
  head_forms rs left after (Ok f) is takes same = head_form rs left after f.columns f is takes same

  pub head_fines : (rs : List Record) (left after : Option (List Record)) (r : Result TableHeaderValue TableFault) → left ≡ Some rs → IfOk r (λ f. TakesHeader report table left f.columns after)
      → IfOk r (λ f. file_header_fault report table rs ≡ None)
  head_fines rs left after (Err e) is takes = tt
  head_fines rs left after (Ok f) is takes = head_fine rs left after f.columns is takes

  pub head_faults : (rs : List Record) (left : Option (List Record)) (r : Result TableHeaderValue TableFault) → left ≡ Some rs
      → IfErr r (λ e. IsOutside table e ⊎ IfSome left (λ all. file_header_fault report table all ≡ Some e)) → IfErr r (λ e. IsOutside table e ⊎ (file_header_fault report table rs ≡ Some e))
  head_faults rs left (Ok f) is bad = tt
  head_faults rs left (Err e) is bad = head_fault rs left e is bad

-- PIECES

pub starts_kept : (known : Option (List ℕ)) (a b : Option (List Record)) → StartsFile known a → KeepsLeft a b → StartsFile known b
starts_kept None a b starts keeps = tt
starts_kept (Some xs) None b starts keeps = let no : None ≡ Some (grid xs) = starts in cc no
starts_kept (Some xs) (Some rs) None starts keeps = absurd keeps
starts_kept (Some xs) (Some rs) (Some ts) starts keeps = ap (λ t. some t) keeps ∙ starts
  where
    some : List Record → Option (List Record)
    some t = Some t

-- A piece without a record was skipped.
pub none_passed : (first : Option (List Record)) (text after : Option (List ℕ)) (piece : List ℕ) → KeepsLeft first (left_known [] text) → TakesBytes text piece after
    → length (records_left state.StartRecord piece) ≤ 0 → KeepsLeft first (left_known [] after)
none_passed first text after piece keeps takes none =
    subst (λ rs. KeepsLeft first (left_known rs after)) (no_items (records_left state.StartRecord piece) none) (piece-behind first text after [] piece keeps refl takes)
  where
    no_items : (rs : List Record) → length rs ≤ 0 → rs ≡ []
    no_items [] h = refl
    no_items (r ∷ rs) h = absurd (omega (arith, h))

-- The first piece with a record.
pub first_found : (first : Option (List Record)) (text after : Option (List ℕ)) (piece : List ℕ) → KeepsLeft first (left_known [] text) → TakesBytes text piece after
    → KeepsLeft first (left_known (records_left state.StartRecord piece) after)
first_found first text after piece keeps takes = piece-behind first text after [] piece keeps refl takes

-- No record is left.
pub none_found : (first : Option (List Record)) (text : Option (List ℕ)) → KeepsLeft first (left_known [] text) → IsAtEnd text → IfSome first (λ rs. rs ≡ [])
none_found None text keeps end = tt
none_found (Some xs) None keeps end = absurd keeps
none_found (Some xs) (Some ys) keeps end = sym keeps ∙ ap (records_left state.StartRecord) end ∙ no-record

pub none_started : (known : Option (List ℕ)) (left : Option (List Record)) → StartsFile known left → IfSome left (λ rs. rs ≡ []) → IfSome known (λ bytes. grid bytes ≡ [])
none_started None left starts none = tt
none_started (Some xs) left starts none = subst (λ o. IfSome o (λ rs. rs ≡ [])) starts none

-- One record was read.
pub one_read : (old : List Record) (found : Bool) (new : Piece) → TakesNext old found new → new.left ≡ drop 1 old
one_read old true new takes = sym (ap (drop 1) takes)
one_read old false new takes = takes.1 ∙ sym (ap (drop 1) takes.0)

-- MEMORY

-- No row, because memory ran out.
pub refused_decoded : (g : TableHeaderValue) (n : ℕ) (rs : List Record) (a : Apart) → a ≡ refused g.table → IsPieceDecoded g n rs a
unfolding apart_from
refused_decoded g n rs a is = inr (record { front = []; rest = rs; split = refl; good = refl; is = is })
