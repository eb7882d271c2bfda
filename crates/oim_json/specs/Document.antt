-- The parts of a document: head, the facts' members joined by commas, tail (xBRL-JSON 1.0, the
-- report object).
use Rattle.std.specs.Prelude.{ℕ, List, [], ◌∷◌, ◌++◌, map, codes, Bool, true, false}
use Rattle.oim_resolve.specs.FactParts.{FactParts as Fact}
use Rattle.oim_json.specs.JsonText.{joined, member_text}
use Rattle.oim_json.specs.declared.layout.Layout.{Layout}
use Rattle.oim_json.specs.declared.layout.Layout.TheVariants.{Compact, Lines}

-- The texts of facts, joined by commas.
unfoldable pub facts_text : List Fact → List ℕ
facts_text fs = joined (map member_text fs)

-- The text directly before each member and before the closing braces: nothing, or a line feed.
abbrev pub line_start : Layout → List ℕ
line_start Compact = []
line_start Lines = codes "\n"

-- The member of a fact as it is in a document.
abbrev pub placed_member : Layout → Fact → List ℕ
placed_member layout f = line_start layout ++ member_text f

-- The members of a document, joined by commas.
unfoldable pub members : Layout → List Fact → List ℕ
members layout fs = joined (map (placed_member layout) fs)

-- The text after the members.
abbrev pub tail_text : Layout → List ℕ
tail_text layout = line_start layout ++ codes "}}\n"

-- A document that ends after these facts.
abbrev pub text_after : Layout → List ℕ → List Fact → List ℕ
text_after layout head facts = head ++ members layout facts

-- A text, with a comma before it if others precede it.
abbrev pub piece : Bool → List ℕ → List ℕ
piece true bytes = 44 ∷ bytes
piece false bytes = bytes

-- The members of facts, after those that a document has already, if it has any.
abbrev pub more_members : Layout → Bool → List Fact → List ℕ
more_members layout any [] = []
more_members layout any (f ∷ fs) = piece any (placed_member layout f) ++ more_members layout true fs
