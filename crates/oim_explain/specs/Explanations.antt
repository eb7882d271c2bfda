-- The explanation of a fault for a person: its place, and what is there.
use Rattle.std.specs.Prelude.{ℕ, List, [], ◌∷◌, ◌++◌, Option, None, Some, codes}
use Rattle.oim_meta.specs.Paths.{Path}
use Rattle.oim_places.specs.Pointers.{pointer_of}
use Rattle.oim_places.specs.Shown.{shown}
use Rattle.oim_explain.specs.declared.explanation.Explanation.{Explanation}

-- ---- texts

-- A line for each text, with the first text before it.
abbrev pub lines_with : List ℕ → List (List ℕ) → List ℕ
lines_with before [] = []
lines_with before (t ∷ more) = (before ++ (t ++ 10 ∷ [])) ++ lines_with before more

-- The place to mend, what is there, and what is wrong there. It is that of the fault if the fault
-- does not come from elsewhere.
abbrev pub first_lines : Option (List ℕ) → Explanation → List ℕ
first_lines None e = codes "    " ++ (e.place ++ (10 ∷ codes "    " ++ (e.found ++ (10 ∷ codes "    " ++ (e.cause.now ++ 10 ∷ [])))))
first_lines (Some source) e = codes "    " ++ (source ++ (10 ∷ codes "    " ++ (e.cause.now ++ 10 ∷ [])))

-- The place of a fault that comes from elsewhere.
abbrev pub fact_lines : Option (List ℕ) → Explanation → List ℕ
fact_lines None e = []
fact_lines (Some source) e = codes "    for " ++ (e.found ++ (codes ": " ++ (e.place ++ 10 ∷ [])))

-- The lines of an explanation: last the places by which the source came to the fault.
abbrev pub explanation_of : Explanation → List ℕ
explanation_of e = ((first_lines e.source e ++ lines_with (codes "    ") e.advice) ++ fact_lines e.source e) ++ lines_with (codes "    by ") e.path

-- ---- the metadata

-- A place in the metadata file at this path; no keys lead to the file as a whole.
abbrev pub place_shown : List ℕ → Path → List ℕ
place_shown path [] = shown path
place_shown path (key ∷ keys) = pointer_of (key ∷ keys)
