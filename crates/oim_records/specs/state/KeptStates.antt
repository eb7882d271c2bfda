-- What is kept of a text as its file has it.
use Rattle.std.specs.Prelude.{ℕ, List, Option, Some, None}
use Rattle.oim_records.specs.declared.kept_text.Kept.{Kept}
use Rattle.oim_records.specs.declared.kept_text.Kept.TheVariants as kept

-- Nothing if the text has not changed, else its copy, unless that is lost.
abbrev pub kept_in : Kept → List ℕ → Option (Option (List ℕ))
kept_in kept.Unchanged bytes = None
kept_in kept.Copied bytes = Some (Some bytes)
kept_in kept.Lost bytes = Some None
