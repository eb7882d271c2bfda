-- The bytes that wait before a writer, the bytes that it holds, and how a run through a buffer
-- ends.
use Rattle.std.specs.Prelude.{◌≡◌, ◌⊎◌, ℕ, List, Option}
use mathlib.Core.List.{IsPrefix}
use Rattle.std.specs.Io.KnownBytes.{Appends, Keeps}
use Rattle.oim_convert.specs.declared.fault.ConvertFault.TheVariants as fault
use Rattle.oim_json.specs.Sinks.{SinkView}
use Rattle.oim_json.specs.declared.mark.Mark.TheVariants as «marks»
use Rattle.oim_json.specs.declared.mark.WriteFault.TheVariants as write
use Rattle.oim_run.specs.declared.outcome.Outcome.{Outcome}
use Rattle.oim_run.specs.declared.outcome.Outcome.TheVariants as outcome

-- A failed flush is a failed write, if a document was written before it.
abbrev pub flushed : Outcome → Outcome
flushed outcome.Done = outcome.Output write.Failed
flushed (outcome.Tables named) = outcome.Output write.Failed
flushed o = o

-- The writer holds, after its earlier bytes, all that was written to a sink between two views of
-- it.
abbrev pub HoldsAll : (before after : SinkView) (old new : Option (List ℕ)) → Type 0
HoldsAll before after old new = (text : List ℕ) → Appends before.told after.told text → Appends old new text

-- The writer holds a prefix of that.
abbrev pub HoldsSome : (before after : SinkView) (old new : Option (List ℕ)) → Type 0
HoldsSome before after old new = (text : List ℕ) → Appends before.told after.told text → (first : List ℕ) × IsPrefix first text × Appends old new first

-- A run through a buffer to a writer that held `old` and holds `new`: the run ended like this at
-- the buffer, and the writer holds all that was written there; or the outcome is as after a failed
-- flush, and the writer holds a prefix of that.
pub record EndsBehind (ends : SinkView → SinkView → Outcome → Type 0) (old new : Option (List ℕ)) (o : Outcome) : Type 0 where
  pub ended : Outcome
  pub before : SinkView
  pub after : SinkView
  pub fine : before.mark ≡ «marks».Fine
  pub run : ends before after ended
  pub last : ((o ≡ ended) × HoldsAll before after old new) ⊎ ((o ≡ flushed ended) × HoldsSome before after old new)

-- Such a run; or memory ran out for the buffer, and nothing is written.
abbrev pub Buffered : (SinkView → SinkView → Outcome → Type 0) → (old new : Option (List ℕ)) → Outcome → Type 0
Buffered ends old new o = ((o ≡ outcome.Run fault.Memory) × Keeps old new) ⊎ EndsBehind ends old new o
