-- The text of facts is on one line, because a line feed in a fact is written `\n`. So a document in
-- lines can be cut at its line feeds into whole members.
use Rattle.std.specs.Prelude.{◌≡◌, ◌==◌, ℕ, List, [], ◌∷◌, ◌++◌, map, codes}
use Rattle.std.specs.List.{slice_split}
use Rattle.oim_report.specs.ReportValue.{ReportValue}
use Rattle.oim_names.specs.QName.{Lacks}
use Rattle.oim_resolve.specs.FactParts.{FactParts as Fact}
use Rattle.oim_json.specs.JsonText.{head_text, member_text}
use Rattle.oim_json.specs.Document.{facts_text, tail_text, text_after}
use Rattle.oim_json.specs.declared.layout.Layout.TheVariants.{Lines}

-- No line feed.
abbrev pub IsOneLine : List ℕ → Type 0
IsOneLine = Lacks 10

abbrev pub FactsAreOneLine : Type 0
FactsAreOneLine = (f : Fact) → IsOneLine (member_text f)

-- The texts of facts joined by commas.
abbrev pub FactListsAreOneLine : Type 0
FactListsAreOneLine = (fs : List Fact) → IsOneLine (facts_text fs)

-- A text, cut at its line feeds: each line, then the rest after the last line feed.
abbrev pub cut_at_line_feeds : List ℕ → List (List ℕ)
cut_at_line_feeds text = slice_split (λ b. b == 10) text

-- Texts, each but the last with a comma after it.
abbrev pub with_commas : List (List ℕ) → List (List ℕ)
with_commas [] = []
with_commas (t ∷ []) = t ∷ []
with_commas (t ∷ u ∷ ts) = (t ++ codes ",") ∷ with_commas (u ∷ ts)

-- The lines of a document that ends after these facts: its head, and each fact's text, all but the
-- last with a comma.
abbrev pub lines_after : ReportValue → List Fact → List (List ℕ)
lines_after report facts = head_text report ∷ with_commas (map member_text facts)

-- A document in lines is cut into these lines. If it is finished, the closing braces are its last
-- line.
abbrev pub LinesAreMembers : Type 0
LinesAreMembers =
    (report : ReportValue) (facts : List Fact)
    → (cut_at_line_feeds (text_after Lines (head_text report) facts) ≡ lines_after report facts)
    × (cut_at_line_feeds (text_after Lines (head_text report) facts ++ tail_text Lines) ≡ lines_after report facts ++ codes "}}" ∷ [] ∷ [])
