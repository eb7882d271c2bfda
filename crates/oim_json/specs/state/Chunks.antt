-- Bytes that are collected before they are written.
use Rattle.std.specs.Prelude.{◌≡◌, ℕ, List, ◌++◌, Result, Ok, Err}
use Rattle.oim_json.specs.Sinks.{SinkView, Broke, Wrote}
use Rattle.oim_json.specs.declared.mark.WriteFault.{WriteFault}

-- A text was added to the waiting bytes, and all was written but what waits now.
pub record IsPut (old new : SinkView) (waited waits text : List ℕ) : Type 0 where
  pub written : List ℕ
  pub wrote : Wrote old new written
  pub rest : waited ++ text ≡ written ++ waits

-- A text was added to the waiting bytes, or a write failed.
abbrev pub Puts : SinkView → SinkView → List ℕ → List ℕ → List ℕ → Result (Unit {0}) WriteFault → Type 0
Puts old new waited waits text (Ok u) = IsPut old new waited waits text
Puts old new waited waits text (Err fault) = Broke old new (waited ++ text) fault
