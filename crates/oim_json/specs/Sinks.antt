-- What a write does to a sink.
use Rattle.std.specs.Prelude.{◌≡◌, ℕ, ◌<◌, ◌≤◌, List, Option, Result, length, take, MatchResult}
use mathlib.Core.List.{IsPrefix}
use Rattle.std.specs.Io.KnownBytes.{Appends, Keeps}
use Rattle.oim_json.specs.declared.mark.Mark.{Mark}
use Rattle.oim_json.specs.declared.mark.Mark.TheVariants as «marks»
use Rattle.oim_json.specs.declared.mark.WriteFault.{WriteFault}
use Rattle.oim_json.specs.declared.mark.WriteFault.TheVariants as faults

-- The mark that a fault leaves.
abbrev pub mark_of : WriteFault → Mark
mark_of faults.Failed = «marks».Failed
mark_of faults.Zero = «marks».Zero

-- Known bytes grow by a prefix of `bs`, not by all of it.
abbrev pub AppendsPrefix : Option (List ℕ) → Option (List ℕ) → List ℕ → Type 0
AppendsPrefix old new bs = (written : List ℕ) × IsPrefix written bs × Appends old new written × (length written < length bs)

-- A sink: its mark and its bytes, if they are known.
pub record SinkView : Type 0 where
  pub mark : Mark
  pub told : Option (List ℕ)

abbrev pub sink_at : Mark → Option (List ℕ) → SinkView
sink_at mark told = record { mark = mark; told = told }

-- All of a text was written.
abbrev pub Wrote : SinkView → SinkView → List ℕ → Type 0
Wrote old new text = (new.mark ≡ old.mark) × Appends old.told new.told text

-- A write failed, and a prefix of the text was written.
abbrev pub Broke : SinkView → SinkView → List ℕ → WriteFault → Type 0
Broke old new text fault = (new.mark ≡ mark_of fault) × AppendsPrefix old.told new.told text

-- One write of `bs` took the `n` bytes that it returned and kept the mark, if `n` is not 0.
-- Otherwise it took nothing and left its mark.
abbrev pub WritesSome : {E : Type 0} → SinkView → SinkView → Result ℕ E → List ℕ → Type 0
WritesSome old new r bs =
    MatchResult r
    (λ n. (n ≤ length bs) × (n ≡ 0 → (new.mark ≡ «marks».Zero) × Keeps old.told new.told) × (0 < n → Wrote old new (take n bs)))
    (λ _. (new.mark ≡ «marks».Failed) × Keeps old.told new.told)

-- All of a text was written and the mark kept, or a prefix was written and the mark is the fault.
abbrev pub WritesAll : SinkView → SinkView → Result (Unit {0}) WriteFault → List ℕ → Type 0
WritesAll old new r text = MatchResult r (λ _. Wrote old new text) (λ e. Broke old new text e)

-- Nothing was written.
abbrev pub Unwritten : SinkView → SinkView → Type 0
Unwritten old new = (new.mark ≡ old.mark) × Keeps old.told new.told
