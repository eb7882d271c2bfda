-- What the references of a table give the texts of facts.
use Rattle.std.specs.Prelude.{ℕ, Bool, false, List, []}
use Rattle.std.specs.Option.{option_map_or}
use Rattle.std.specs.List.{slice_get}
use Rattle.oim_row.specs.Answers.{is_sound_for, json_for}
use Rattle.oim_row.specs.References.{ReferenceValue, meaning_at_hand}

-- What the reference at a place gives the text of a fact, and whether it has no fault.
abbrev pub given_by : List ReferenceValue → ℕ → List ℕ
given_by rs i = option_map_or (λ r. json_for r.report r.key.purpose (meaning_at_hand r)) (slice_get rs i) []

abbrev pub is_sound_by : List ReferenceValue → ℕ → Bool
is_sound_by rs i = option_map_or (λ r. is_sound_for r.report r.key.purpose (meaning_at_hand r)) (slice_get rs i) false
