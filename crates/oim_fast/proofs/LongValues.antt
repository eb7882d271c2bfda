-- A fact whose value is long, from the fact of the empty text.
use Rattle.std.proofs.Common.{◌≡◌, ◌-◌, ◌≤◌, ℕ, Bool, true, false, List, ◌++◌, length, take, codes, refl, sym, ap, ◌∙◌, arith, append_assoc, length-append, take_at}
use Rattle.std.specs.Prelude.{None, Some, Result, Ok, Err, if◌then◌else◌}
use Rattle.std.specs.List.{flat_map}
use mathlib.Core.List.{IsPrefix}
use Rattle.oim_json.specs.JsonText.{escaped_byte, quoted, value_text}
use Rattle.oim_fast.specs.state.FactTexts.{AddsFact, EndsInstead, PutsFact, cut, object_text, opening_decimals, value_of}
use Rattle.oim_fast.specs.state.FrameTexts.{FrameValue, dimensions_start, frame_dimensions}
use Rattle.oim_row.specs.References.{ReferenceValue}
use Rattle.oim_fast.specs.state.GivenTexts.{given_by}
use Rattle.oim_fast.specs.declared.frame.value.Value.{Value}

abbrev emptied : Value → Value
emptied v = record v { len = 0 }

-- The text of a fact up to the quote before its value.
abbrev lead_of : List ReferenceValue → FrameValue → Value → List ℕ
lead_of rs t v = t.lead ++ opening_decimals rs t v ++ dimensions_start ++ cut (frame_dimensions (given_by rs) t) ++ codes "},\"value\":" ++ codes "\""

regroup : (b q x e : List ℕ) → (b ++ (q ++ x ++ q)) ++ e ≡ (b ++ q) ++ (x ++ (q ++ e))
regroup b q x e = simp append_assoc

object_is : (rs : List ReferenceValue) (t : FrameValue) (v : Value) → v.is_nil ≡ false → object_text rs t v ≡ lead_of rs t v ++ (flat_map escaped_byte (take v.len v.bytes.now) ++ codes "\"}")
unfolding value_text quoted
object_is rs t v some =
    let front = t.lead ++ opening_decimals rs t v ++ dimensions_start ++ cut (frame_dimensions (given_by rs) t) ++ codes "},\"value\":" in
    let text = flat_map escaped_byte (take v.len v.bytes.now) in
    let is : value_text (value_of v) ≡ codes "\"" ++ text ++ codes "\"" = ap (λ e. value_text (if e then None else Some (take v.len v.bytes.now))) some in
    ap (λ q. (front ++ q) ++ codes "}") is ∙ regroup front (codes "\"") text (codes "}")

-- A fact that was put was appended.
pub put_true : {E : Type 0} {rs : List ReferenceValue} {t : FrameValue} {v : Value} {start old new : List ℕ} (r : Result Bool E) (b : Bool) → r ≡ Ok b → b ≡ true → PutsFact rs t v start old new r
    → AddsFact rs t v start old new
put_true (Ok true) b e k h = h
put_true (Ok false) b e k h = absurd (cc (e, k))
put_true (Err x) b e k h = absurd (cc e)

-- The end of a text is taken off.
without_end : (a b : List ℕ) → length b ≡ 2 → take (length (a ++ b) - 2) (a ++ b) ≡ a
without_end a b two =
    let n : length (a ++ b) - 2 ≡ length a = omega (arith, length-append a b) in
    ap (λ m. take m (a ++ b)) n ∙ take_at a b (length a) refl

module _ (rs : List ReferenceValue) (t : FrameValue) (v : Value) (start old mid : List ℕ) (some : v.is_nil ≡ false) (so : AddsFact rs t (emptied v) start old mid) where
  middle : mid ≡ (old ++ (start ++ lead_of rs t v)) ++ codes "\"}"
  middle = so.text ∙ ap (λ q. old ++ (start ++ q)) (object_is rs t (emptied v) some)
      ∙ ap (λ q. old ++ q) (sym (append_assoc start (lead_of rs t v) (codes "\"}"))) ∙ sym (append_assoc old (start ++ lead_of rs t v) (codes "\"}"))

  pub front_is : take (length mid - 2) mid ≡ old ++ (start ++ lead_of rs t v)
  front_is = ap (λ m. take (length m - 2) m) middle ∙ without_end (old ++ (start ++ lead_of rs t v)) (codes "\"}") refl

  pub two_there : 2 ≤ length mid
  two_there = omega (arith, ap length middle, length-append (old ++ (start ++ lead_of rs t v)) (codes "\"}"))

  pub long_added : {new : List ℕ} → EndsInstead v mid new → AddsFact rs t v start old new
  long_added {new} is =
      let text = flat_map escaped_byte (take v.len v.bytes.now) ++ codes "\"}" in
      record {
        dimensions = so.dimensions;
        decimals = so.decimals;
        text = is ∙ ap (λ q. q ++ text) front_is ∙ append_assoc old (start ++ lead_of rs t v) text ∙ ap (λ q. old ++ q) (append_assoc start (lead_of rs t v) text ∙ ap (λ q. start ++ q) (sym (object_is rs t v some)));
      }

  pub old_kept : {new : List ℕ} → IsPrefix (take (length mid - 2) mid) new → take (length old) new ≡ old
  old_kept {new} p =
      let whole = sym p.1 ∙ ap (λ q. q ++ p.0) front_is ∙ append_assoc old (start ++ lead_of rs t v) p.0 in
      ap (take (length old)) whole ∙ take_at old _ (length old) refl
