-- The parts of a metadata, and the keys that lead to them from the document.
use Rattle.std.specs.Prelude.{ℕ, List, [], ◌∷◌, ◌++◌, codes}

-- Keys, the outermost first.
abbrev pub Path : Type 0
Path = List (List ℕ)

abbrev pub document_path : Path
document_path = codes "documentInfo" ∷ []

abbrev pub template_path : List ℕ → Path
template_path t = codes "tableTemplates" ∷ t ∷ []

abbrev pub column_path : List ℕ → List ℕ → Path
column_path t c = template_path t ++ codes "columns" ∷ c ∷ []

abbrev pub group_path : List ℕ → List ℕ → List ℕ → Path
group_path t c g = column_path t c ++ codes "propertyGroups" ∷ g ∷ []

abbrev pub table_path : List ℕ → Path
table_path t = codes "tables" ∷ t ∷ []
