-- One text under two names, as the program searches for it.
use Rattle.std.specs.Prelude.{⊤, ℕ, List, [], ◌∷◌, ◌++◌, Bool, false, ◌||◌, is_some}
use Rattle.serde_json.specs.Data.{Members, no_members, member}
use Rattle.oim_names.specs.Lookup.{value_at}
use Rattle.oim_meta.specs.Members.{text_of}

-- Some member has a text that was seen, or the text of an earlier member.
abbrev pub repeats_seen : List (List ℕ × ⊤) → Members → Bool
repeats_seen seen no_members = false
repeats_seen seen (member name d ms) = is_some (value_at (text_of d) seen) || repeats_seen (seen ++ (text_of d, tt) ∷ []) ms
