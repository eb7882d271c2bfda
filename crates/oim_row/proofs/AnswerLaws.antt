-- What an answer asserts: nothing if it is silent, and a text in a typed dimension.
use Rattle.std.proofs.Common.{◌≡◌, ℕ, true, List, ◌++◌, Option, Some, None, IfSome, codes, refl, ◌∙◌}
use Rattle.oim_cells.specs.Cells.{Meaning, Text}
use Rattle.oim_json.specs.JsonText.{quoted, value_text}
use Rattle.oim_report.specs.ReportValue.{ReportValue}
use Rattle.oim_report.specs.declared.data.Side.{Side}
use Rattle.oim_report.specs.declared.kind.Kind.{Kind}
use Rattle.oim_resolve.specs.declared.role.Role.TheVariants.{Concept, Entity, Period, Unit as AUnit, Language, Explicit, Typed, TypedBy}
use Rattle.oim_row.specs.Answers.{IsAnswer, IsSilent, is_sound_for, json_for, kind_read}
use Rattle.oim_row.specs.state.Reading.{is_typed_purpose}
use Rattle.oim_row.specs.declared.answer.Answer.{Answer}
use Rattle.oim_row.specs.declared.purpose.Purpose.{Purpose}
use Rattle.oim_row.specs.declared.purpose.Purpose.TheVariants.{Dimension, Decimals, WantedUnit, WantedPeriod}

no_kind : (P : Kind → Type 0) (o : Option Kind) → o ≡ None → IfSome o P
no_kind P None e = tt
no_kind P (Some k) e = absurd (cc)

-- A silent answer is an answer to any value.
pub silent : (r : ReportValue) (p : Purpose) (v : Meaning) (a : Answer) → IsSilent a → IsAnswer r p v a
silent r p v a s = record {
  sound = λ h. absurd (cc (s.sound, h));
  json = λ h. absurd (cc (s.sound, h));
  concept = no_kind (λ k. kind_read r v ≡ Some k) a.kind s.concept;
}

typed_sound : (r : ReportValue) (s : Side) (t : List ℕ) → is_sound_for r (Dimension Typed s) (Text t) ≡ true
typed_sound r s t = refl

typed_json : (r : ReportValue) (s : Side) (t : List ℕ) → quoted t ++ codes "," ≡ json_for r (Dimension Typed s) (Text t)
unfolding value_text
typed_json r s t = refl

-- The answer to a text in a typed dimension.
pub typed_said : (r : ReportValue) (s : Side) (t : List ℕ) (a : Answer) → a.json.items ≡ quoted t ++ codes "," → a.kind ≡ None → IsAnswer r (Dimension Typed s) (Text t) a
typed_said r s t a json kind = record {
  sound = λ h. typed_sound r s t;
  json = λ h. json ∙ typed_json r s t;
  concept = no_kind (λ k. kind_read r (Text t) ≡ Some k) a.kind kind;
}

-- What holds for each side of a typed dimension.
pub for_typed : (P : Purpose → Type 0) (p : Purpose) → is_typed_purpose p ≡ true → ((s : Side) → P (Dimension Typed s)) → P p
for_typed P (Dimension Typed s) e h = h s
for_typed P (Dimension Concept s) e h = absurd (cc)
for_typed P (Dimension Entity s) e h = absurd (cc)
for_typed P (Dimension Period s) e h = absurd (cc)
for_typed P (Dimension AUnit s) e h = absurd (cc)
for_typed P (Dimension Language s) e h = absurd (cc)
for_typed P (Dimension Explicit s) e h = absurd (cc)
for_typed P (Dimension (TypedBy y) s) e h = absurd (cc)
for_typed P Decimals e h = absurd (cc)
for_typed P (WantedUnit y) e h = absurd (cc)
for_typed P (WantedPeriod p s) e h = absurd (cc)
