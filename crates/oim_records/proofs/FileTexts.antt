-- A text as its file has it, and its records as the `csv` crate reads them.
use Rattle.std.proofs.Common.{◌≡◌, ℕ, ◌+◌, ◌-◌, ◌<◌, ◌≤◌, List, [], ◌∷◌, ◌++◌, length, take, drop, take-add, Option, Some, None, Bool, refl, sym, ap, subst, ◌∙◌, arith}
use Rattle.std.specs.Prelude.{slice_range}
use Rattle.std.proofs.lemmas.List.{drop_all, length-take-le}
use Rattle.csv.specs.Reading.{strip_bom}
use Rattle.csv.specs.declared.parser.State.TheVariants as state
use Rattle.oim_records.specs.Grids.{Record, grid, records_left}
use Rattle.oim_records.specs.Reads.{TakesRecord}
use Rattle.oim_records.specs.state.Fields.{IsFirstRecord}
use Rattle.oim_records.specs.state.KeptTexts.{BeginsWith, HoldsFile, IsKeptFileOf, IsFirstOf, KeepsFile, file_text}
use Rattle.oim_records.proofs.PieceReads.{line-before}
use Rattle.oim_records.proofs.Ranges.{same-behind}

-- The bytes before a part, and the part.
pub part-taken : (xs : List ℕ) (from to : ℕ) → from ≤ to → take from xs ++ slice_range xs from to ≡ take to xs
part-taken xs from to low = let sum : from + (to - from) ≡ to = omega arith in sym (take-add from (to - from) xs) ∙ ap (λ n. take n xs) sum

pub keeps-then : (a b c : Option (List ℕ)) → KeepsFile a b → KeepsFile b c → KeepsFile a c
keeps-then a b c first second file e = first file (second file e)

begins-none : (text : List ℕ) (current : Record) → current ≡ [] → BeginsWith text current
begins-none text current none some = let empty : length current ≡ 0 = ap length none in absurd (omega arith)

-- No record is current, and the text has not changed.
pub file-unread : (bytes : List ℕ) (end at start : ℕ) (current : Record) → start ≤ end → current ≡ [] → HoldsFile None bytes end at start current
file-unread bytes end at start current low none = (
  low,
  λ file e.
      let same : take end bytes ≡ file = cc in
      subst (λ xs. IsKeptFileOf (take end bytes) at start current xs) same (record { long = refl; left = refl; begins = begins-none (drop start (take end bytes)) current none }),
)

-- No record is left.
pub file-ended : (kept new : Option (Option (List ℕ))) (bytes : List ℕ) (end at start : ℕ) (current : Record) → HoldsFile kept bytes end at start current → end ≤ length bytes
    → KeepsFile (file_text kept (take end bytes)) (file_text new (take end bytes)) → HoldsFile new bytes end end start current
file-ended kept new bytes end at start current h high keeps = (
  h.0,
  λ file e.
      let f = h.1 file (keeps file e) in
      let long = f.long in
      let size : length (take end bytes) ≡ end = length-take-le end bytes high in
      record { long = f.long; left = drop_all end file (omega arith) ∙ sym (drop_all end (take end bytes) (omega arith)); begins = f.begins },
)

-- The next record is current.
pub file-next : (kept new : Option (Option (List ℕ))) (old now : List ℕ) (end at start next : ℕ) (before current : Record) → HoldsFile kept old end at start before → end ≤ length old → end ≤ length now
    → at ≤ end → at ≤ next → KeepsFile (file_text kept (take end old)) (file_text new (take end now)) → drop next (take end now) ≡ drop next (take end old)
    → IsFirstRecord (drop at (take end old)) current (drop next (take end now)) → HoldsFile new now end next at current
file-next kept new old now end at start next before current h high_old high within low keeps behind first =
    let found : IsFirstOf (records_left state.StartRecord (drop at (take end old))) current = subst (λ rs. IsFirstOf rs current) (sym first) refl in (
      within,
      λ file e.
          let f = h.1 file (keeps file e) in
          record {
            long = f.long ∙ length-take-le end old high_old ∙ sym (length-take-le end now high);
            left = same-behind file (take end old) at next f.left low ∙ sym behind;
            begins = λ some. subst (λ xs. IsFirstOf (records_left state.StartRecord xs) current) (sym f.left) found;
          },
    )

-- An empty line before a text keeps a byte-order mark at the text's start.
mark-stays : (xs : List ℕ) → strip_bom (10 ∷ xs) ≡ 10 ∷ xs
unfolding strip_bom
mark-stays [] = refl
mark-stays (a ∷ []) = refl
mark-stays (a ∷ b ∷ rest) = refl

grid-behind-line : (text : List ℕ) → grid (10 ∷ text) ≡ records_left state.StartRecord text
grid-behind-line text = ap (records_left state.StartRecord) (mark-stays text) ∙ line-before text

first-taken : (left : List Record) (current row : Record) (found : Bool) (after : Option (List Record)) → IsFirstOf left current → TakesRecord (Some left) found row after → row ≡ current
first-taken [] current row found after first took = absurd first
first-taken (x ∷ rest) current row found after first took = took.1 ∙ sym first

-- The `csv` crate reads the record with which a text begins.
pub read-again : (text : List ℕ) (current row : Record) (found : Bool) (left after : Option (List Record)) → BeginsWith text current → 0 < length current → left ≡ Some (grid (10 ∷ text))
    → TakesRecord left found row after → row ≡ current
read-again text current row found left after begins some known took =
    let same : left ≡ Some (records_left state.StartRecord text) = known ∙ ap (λ (rs : List Record). Some rs) (grid-behind-line text) in
    first-taken (records_left state.StartRecord text) current row found after (begins some) (subst (λ o. TakesRecord o found row after) same took)
