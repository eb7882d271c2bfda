-- The bytes of a block: the text of each fact after a comma, and where each of these texts ends.
use Rattle.std.specs.Prelude.{ℕ, ◌+◌, List, [], ◌∷◌, length}
use Rattle.std.specs.List.{flat_map}
use Rattle.oim_resolve.specs.FactParts.{FactParts as Fact}
use Rattle.oim_json.specs.JsonText.{member_text}

-- A comma, then the text of a fact.
abbrev pub behind_comma : Fact → List ℕ
behind_comma f = 44 ∷ member_text f

-- The texts of facts, each after a comma.
unfoldable pub behind_commas : List Fact → List ℕ
behind_commas fs = flat_map behind_comma fs

-- Where each of these texts ends, if they begin at position `n`.
unfoldable pub ends_from : ℕ → List Fact → List ℕ
ends_from n [] = []
ends_from n (f ∷ fs) = (n + length (behind_comma f)) ∷ ends_from (n + length (behind_comma f)) fs
