-- Examples of the rules for one fact's text (`specs/state/FactTexts.antt`).
use Rattle.std.proofs.Common.{◌≡◌, ◌∙◌, ◌++◌, ℕ, List, true, false, [], Some, None, get_or, codes, refl, sym, ap, arith}
use Rattle.std.specs.Fmt.{decimal, digits}
use Rattle.oim_cells.specs.declared.cells.Accuracy.TheVariants as accuracy
use Rattle.oim_cells.specs.declared.cells.NumberKind.TheVariants as number
use Rattle.oim_json.specs.JsonText.{decimals_text, value_text}
use Rattle.oim_report.specs.declared.kind.Kind.{Kind}
use Rattle.oim_report.specs.declared.kind.Kind.TheVariants as kind
use Rattle.oim_rows.specs.RowFacts.{TableHeaderValue, id_place_of}
use Rattle.oim_fast.specs.state.CellWriters.{IsNumbered}
use Rattle.oim_fast.specs.state.FactTexts.{are_sound_decimals, cut, object_text, opening_decimals}
use Rattle.oim_fast.specs.state.Facts.{fact_text, lead_text}
use Rattle.oim_fast.specs.state.FrameTexts.{FrameValue}
use Rattle.oim_fast.specs.declared.frame.frame_decimals.FrameDecimals.{FrameDecimals}
use Rattle.oim_fast.specs.declared.frame.frame_decimals.FrameDecimals.TheVariants as decimals
use Rattle.oim_fast.specs.declared.frame.value.Value.{Value}

abbrev frame : Kind → FrameDecimals → FrameValue
frame k d = record { kind = k; lead = codes ".c\":{"; settled = codes "\"decimals\":2,"; decimals = d; segments = []; rest = codes "\"concept\":\"eg:A\"," }

abbrev number_frame : FrameValue
number_frame = frame (kind.Number number.Integer) decimals.Settled

-- `cut`: the last comma is taken off, and nothing from the empty text.
without_comma : (cut (codes "a,") ≡ codes "a") × (cut [] ≡ [])
without_comma = (refl, refl)

-- `fact_text`: a cell without a fact writes nothing.
no_fact : fact_text None ≡ []
no_fact = refl

-- `opening_decimals`: a number without a suffix has the frame's decimals. Nil has none, and a text
-- has none.
frame_s_decimals : (v : Value) → v.is_nil ≡ false → v.accuracy ≡ None → opening_decimals [] number_frame v ≡ codes "\"decimals\":2,"
frame_s_decimals v some plain = rw (some, plain)

nil_has_no_decimals : (v : Value) → v.is_nil ≡ true → opening_decimals [] number_frame v ≡ []
nil_has_no_decimals v nil = rw nil

text_has_no_decimals : (v : Value) → opening_decimals [] (frame kind.Text decimals.Settled) v ≡ []
text_has_no_decimals v = refl

-- `opening_decimals`: a suffix counts before the frame's decimals, which are then not needed.
suffix_first : (v : Value) → v.is_nil ≡ false → v.accuracy ≡ Some accuracy.Infinite → opening_decimals [] number_frame v ≡ []
unfolding decimals_text
suffix_first v some exact = rw (some, exact)

unknown_is_not_asked : (v : Value) → v.is_nil ≡ true → are_sound_decimals [] (frame (kind.Number number.Integer) decimals.Unknown) v ≡ true
unknown_is_not_asked v nil = rw nil

unknown_is_asked : (v : Value) → v.is_nil ≡ false → v.accuracy ≡ None → are_sound_decimals [] (frame (kind.Number number.Integer) decimals.Unknown) v ≡ false
unknown_is_asked v some plain = rw (some, plain)

-- `object_text`: the text of a fact that is nil.
nil_text : (v : Value) → v.is_nil ≡ true → object_text [] (frame kind.Text decimals.Settled) v ≡ codes ".c\":{\"dimensions\":{\"concept\":\"eg:A\"},\"value\":null}"
unfolding value_text
nil_text v nil = rw nil

-- `IsNumbered`: without a column of identifiers, a text ends with "r_" and the number of its row,
-- and of no other row.
abbrev numbered_text : List ℕ → ℕ → List ℕ
numbered_text lead n = (lead ++ codes "r_") ++ decimal n

numbered : (f : TableHeaderValue) → id_place_of f ≡ None → lead_text f ≡ codes ",\"t1." → IsNumbered f (codes ",\"t1.r_12") 12
unfolding digits
numbered f none lead = (none, sym (ap (λ t. numbered_text t 12) lead))

number_of_another : (f : TableHeaderValue) → lead_text f ≡ codes ",\"t1." → IsNumbered f (codes ",\"t1.r_12") 13 → ⊥
unfolding digits
number_of_another f lead is =
    let texts : codes ",\"t1.r_12" ≡ codes ",\"t1.r_13" = is.1 ∙ ap (λ t. numbered_text t 13) lead in
    let last : 50 ≡ 51 = ap (λ (t : List ℕ). get_or t 8 0) texts in absurd (omega (arith, last))

named_by_a_column : (f : TableHeaderValue) (place : ℕ) → id_place_of f ≡ Some place → IsNumbered f (codes ",\"t1.r_12") 12 → ⊥
named_by_a_column f place named is = absurd (cc (sym named ∙ is.0))
