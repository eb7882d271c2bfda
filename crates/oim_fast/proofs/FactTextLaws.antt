-- The text of a fact from its frame.
use Rattle.std.proofs.Common.{◌≡◌, ◌<◌, ◌≤◌, ◌+◌, ◌-◌, ◌*◌, ℕ, zero, suc, Bool, true, false, not, ◌&&◌, ◌||◌, List, [], ◌∷◌, ◌++◌, length, take, drop, Option, Some, None, codes, is_none, refl, sym, ap, subst, ◌∙◌, arith, append_assoc, length-append, length-take-le, length-drop, take-add, take-append-drop, drop-drop}
use Rattle.std.specs.Prelude.{ℤ, MatchOption, if◌then◌else◌, slice_range}
use Rattle.std.specs.Fmt.{signed_decimal}
use Rattle.std.specs.List.{All, flat_map, sum_by}
use Rattle.std.proofs.lemmas.List.Sums.{sum_by-cons}
use Rattle.std.specs.Option.{option_map_or}
use Rattle.std.proofs.lemmas.List.{drop-take}
use Rattle.oim_cells.specs.declared.cells.Accuracy.{Accuracy}
use Rattle.oim_json.specs.JsonText.{decimals_text, escaped_byte, quoted, value_text}
use Rattle.oim_report.specs.declared.kind.Kind.{Kind}
use Rattle.oim_resolve.specs.Facts.{is_numeric, places}
use Rattle.oim_fast.specs.state.FactTexts.{TriesFact, WritesObject, WritesOpening, are_settled, are_sound_decimals, cut, fact_room, frame_decimals, frame_length, has_decimals, has_settled, opening_decimals, value_of}
use Rattle.oim_fast.specs.state.FrameTexts.{AreRuns, FrameValue, IsLaidOut, Segment, dimensions_start, frame_dimensions, rest_from, segment_text, segments_from}
use Rattle.oim_fast.specs.state.Pieces.{behind}
use Rattle.oim_text.specs.Places.{Placed}
use Rattle.oim_text.specs.state.Rooms.{Stays}
use Rattle.oim_row.specs.References.{ReferenceValue}
use Rattle.oim_fast.specs.state.GivenTexts.{given_by, is_sound_by}
use Rattle.oim_fast.specs.state.Writing.{WritesRuns}
use Rattle.oim_fast.specs.declared.frame.frame_decimals.FrameDecimals.{FrameDecimals}
use Rattle.oim_fast.specs.declared.frame.frame_decimals.FrameDecimals.TheVariants as decimals
use Rattle.oim_fast.specs.declared.frame.frame_text.TextRun.{TextRun}
use Rattle.oim_fast.specs.declared.frame.value.Value.{Value}
use Rattle.oim_fast.proofs.FrameTextLaws.{runs_within, seen}
use Rattle.oim_text.proofs.PlacedBytes.{Placed-less, Placed-stays, Placed-then, Stays-then}
use Rattle.oim_fast.proofs.WriteLaws.{range_split}

-- DECIMALS

abbrev opening_by : List ReferenceValue → FrameValue → Bool → Bool → Option Accuracy → FrameDecimals → List ℕ
opening_by rs t number nil suffix d = if number && not nil then option_map_or (λ a. decimals_text (places a)) suffix (frame_decimals rs t d) else []

abbrev sound_by : List ReferenceValue → Bool → Bool → Option Accuracy → FrameDecimals → Bool
sound_by rs number nil suffix d = if number && not nil && is_none suffix then has_decimals rs d else true

-- The decimals have this text and no fault.
pub record AreThese (rs : List ReferenceValue) (t : FrameValue) (v : Value) (text : List ℕ) : Type 0 where
  pub sound : are_sound_decimals rs t v ≡ true
  pub is : text ≡ opening_decimals rs t v

settled_by : (rs : List ReferenceValue) (t : FrameValue) (number nil : Bool) (suffix : Option Accuracy) (d : FrameDecimals)
    → (not number || (not nil && is_none suffix && are_settled d)) ≡ true → (number ≡ false → t.settled ≡ []) → (t.settled ≡ opening_by rs t number nil suffix d) × (sound_by rs number nil suffix d ≡ true)
settled_by rs t false nil suffix d e others = (others refl, refl)
settled_by rs t true true suffix d e others = absurd (cc e)
settled_by rs t true false (Some a) d e others = absurd (cc e)
settled_by rs t true false None decimals.Settled e others = (refl, refl)
settled_by rs t true false None (decimals.Reference i) e others = absurd (cc e)
settled_by rs t true false None decimals.Unknown e others = absurd (cc e)

-- Settled decimals.
pub settled_decimals : (rs : List ReferenceValue) (t : FrameValue) (v : Value) → has_settled t v ≡ true → (is_numeric t.kind ≡ false → t.settled ≡ []) → AreThese rs t v t.settled
settled_decimals rs t v e others =
    let so = settled_by rs t (is_numeric t.kind) v.is_nil v.accuracy t.decimals e others in
    record { sound = so.1; is = so.0 }

nil_by : (rs : List ReferenceValue) (t : FrameValue) (number nil : Bool) (suffix : Option Accuracy) (d : FrameDecimals) → nil ≡ true → ([] ≡ opening_by rs t number nil suffix d) × (sound_by rs number nil suffix d ≡ true)
nil_by rs t number false suffix d e = absurd (cc e)
nil_by rs t true true suffix d e = (refl, refl)
nil_by rs t false true suffix d e = (refl, refl)

-- Nil has no decimals.
pub nil_decimals : (rs : List ReferenceValue) (t : FrameValue) (v : Value) → v.is_nil ≡ true → AreThese rs t v []
nil_decimals rs t v e =
    let so = nil_by rs t (is_numeric t.kind) v.is_nil v.accuracy t.decimals e in
    record { sound = so.1; is = so.0 }

suffix_by : (rs : List ReferenceValue) (t : FrameValue) (number nil : Bool) (suffix : Option Accuracy) (d : FrameDecimals) (a : Accuracy) → number ≡ true → nil ≡ false → suffix ≡ Some a
    → (decimals_text (places a) ≡ opening_by rs t number nil suffix d) × (sound_by rs number nil suffix d ≡ true)
suffix_by rs t false nil suffix d a p q r = absurd (cc p)
suffix_by rs t true true suffix d a p q r = absurd (cc q)
suffix_by rs t true false None d a p q r = absurd (cc r)
suffix_by rs t true false (Some b) d a p q r = (ap (λ o. option_map_or (λ x. decimals_text (places x)) o []) (sym r), refl)

-- The decimals of a suffix.
pub suffix_decimals : (rs : List ReferenceValue) (t : FrameValue) (v : Value) (a : Accuracy) → is_numeric t.kind ≡ true → v.is_nil ≡ false → v.accuracy ≡ Some a → AreThese rs t v (decimals_text (places a))
suffix_decimals rs t v a p q r =
    let so = suffix_by rs t (is_numeric t.kind) v.is_nil v.accuracy t.decimals a p q r in
    record { sound = so.1; is = so.0 }

referred_by : (rs : List ReferenceValue) (t : FrameValue) (number nil : Bool) (suffix : Option Accuracy) (d : FrameDecimals) (i : ℕ) → number ≡ true → nil ≡ false → suffix ≡ None
    → d ≡ decimals.Reference i → is_sound_by rs i ≡ true → (given_by rs i ≡ opening_by rs t number nil suffix d) × (sound_by rs number nil suffix d ≡ true)
referred_by rs t false nil suffix d i p q r e s = absurd (cc p)
referred_by rs t true true suffix d i p q r e s = absurd (cc q)
referred_by rs t true false (Some b) d i p q r e s = absurd (cc r)
referred_by rs t true false None d i p q r e s = (sym (ap (frame_decimals rs t) e), ap (has_decimals rs) e ∙ s)

-- The decimals of a reference.
pub referred_decimals : (rs : List ReferenceValue) (t : FrameValue) (v : Value) (i : ℕ) → is_numeric t.kind ≡ true → v.is_nil ≡ false → v.accuracy ≡ None → t.decimals ≡ decimals.Reference i
    → is_sound_by rs i ≡ true → AreThese rs t v (given_by rs i)
referred_decimals rs t v i p q r e s =
    let so = referred_by rs t (is_numeric t.kind) v.is_nil v.accuracy t.decimals i p q r e s in
    record { sound = so.1; is = so.0 }

number_by : (number rest : Bool) → (not number || rest) ≡ false → number ≡ true
number_by true rest e = refl
number_by false rest e = absurd (cc e)

-- If they are not settled, the fact is a number.
pub is_number : (t : FrameValue) (v : Value) → has_settled t v ≡ false → is_numeric t.kind ≡ true
is_number t v e = number_by (is_numeric t.kind) (not v.is_nil && is_none v.accuracy && are_settled t.decimals) e

-- THE LENGTH OF A FRAME

range_length : (text : List ℕ) (i j : ℕ) → i ≤ j → j ≤ length text → length (slice_range text i j) ≡ j - i
range_length text i j le within = length-take-le (j - i) (drop i text) (omega (arith, length-drop i text))

abbrev segment_length : Segment → ℕ
segment_length s = length s.alone + length s.name

runs_length : (text : List ℕ) (from : ℕ) (rs : List TextRun) → AreRuns (length text) from rs
    → from + (sum_by segment_length (segments_from text from rs) + length (rest_from text from rs)) ≡ length text
runs_length text from [] h = omega (arith, h, length-drop from text)
runs_length text from (r ∷ rs) h =
    let within = runs_within (length text) r.named rs h.2 in
    let more = segments_from text r.named rs in
    let one : Segment = record { alone = slice_range text from r.alone; name = slice_range text r.alone r.named; reference = r.reference } in
    let all : sum_by segment_length (one ∷ more) ≡ (length (slice_range text from r.alone) + length (slice_range text r.alone r.named)) + sum_by segment_length more = sum_by-cons segment_length one more in
    omega (arith, all, h.0, h.1, within, runs_length text r.named rs h.2, range_length text from r.alone h.0 (omega (arith, h.1, within)), range_length text r.alone r.named h.1 within)

pub segments_length : (text : List ℕ) (from : ℕ) (rs : List TextRun) → length (segments_from text from rs) ≡ length rs
segments_length text from [] = refl
segments_length text from (r ∷ rs) = ap suc (segments_length text r.named rs)

-- What holds of the references of segments holds of those of runs, and the reverse.
pub runs_hold : (P : ℕ → Type 0) (text : List ℕ) (from : ℕ) (rs : List TextRun) → All (λ (s : Segment). P s.reference) (segments_from text from rs) → All (λ (r : TextRun). P r.reference) rs
runs_hold P text from [] h k d lt = absurd (omega arith)
runs_hold P text from (r ∷ rs) h zero d lt = h 0 (record { alone = []; name = []; reference = 0 }) (omega arith)
runs_hold P text from (r ∷ rs) h (suc k) d lt = runs_hold P text r.named rs (λ j e b. h (suc j) e (omega arith)) k d (omega arith)

pub segments_hold : (P : ℕ → Type 0) (text : List ℕ) (from : ℕ) (rs : List TextRun) → All (λ (r : TextRun). P r.reference) rs → All (λ (s : Segment). P s.reference) (segments_from text from rs)
segments_hold P text from [] h k d lt = absurd (omega arith)
segments_hold P text from (r ∷ rs) h zero d lt = h 0 r (omega arith)
segments_hold P text from (r ∷ rs) h (suc k) d lt = segments_hold P text r.named rs (λ j e b. h (suc j) e (omega arith)) k d (omega arith)

-- RUNS FROM AN EARLIER PLACE

pub runs_earlier : (long from body : ℕ) (rs : List TextRun) → from ≤ body → AreRuns long body rs → AreRuns long from rs
runs_earlier long from body [] le h = omega (arith, h)
runs_earlier long from body (r ∷ rs) le h = (omega (arith, h.0), h.1, h.2)

regroup : (a b c d e : List ℕ) → (((a ++ b) ++ c) ++ d) ++ e ≡ a ++ (((b ++ c) ++ d) ++ e)
regroup a b c d e = simp append_assoc

module _ (gives : ℕ → List ℕ) (text : List ℕ) where
  abbrev dimensions_from : ℕ → List TextRun → List ℕ
  dimensions_from from rs = flat_map (segment_text gives) (segments_from text from rs) ++ rest_from text from rs

  pub text_earlier : (from body : ℕ) (rs : List TextRun) → from ≤ body → AreRuns (length text) body rs → dimensions_from from rs ≡ slice_range text from body ++ dimensions_from body rs
  text_earlier from body [] le h =
      let at : from + (body - from) ≡ body = omega arith in
      sym (take-append-drop (body - from) (drop from text)) ∙ ap (λ q. slice_range text from body ++ q) (drop-drop (body - from) from text ∙ ap (λ n. drop n text) at)
  text_earlier from body (r ∷ rs) le h =
      let given = behind (slice_range text r.alone r.named) (gives r.reference) in
      let later = flat_map (segment_text gives) (segments_from text r.named rs) in
      let last = rest_from text r.named rs in
      ap (λ q. ((q ++ given) ++ later) ++ last) (range_split text from body r.alone le h.0) ∙ regroup (slice_range text from body) (slice_range text body r.alone) given later last

-- THE OPENING

module _ (text : List ℕ) (lead opening body : ℕ) (rs : List TextRun) (h : IsLaidOut text lead opening body rs) where
  body_within : body ≤ length text
  body_within = runs_within (length text) body rs h.dimensions

  pub lead_length : length (take lead text) ≡ lead
  lead_length = length-take-le lead text (omega (arith, body_within, h.settled, h.starts))

  pub settled_length : length (slice_range text lead opening) ≡ opening - lead
  settled_length = range_length text lead opening h.settled (omega (arith, body_within, h.starts))

  pub frame_length_is : (k : Kind) (d : FrameDecimals) → frame_length (seen k d lead opening body text rs) ≡ length text
  frame_length_is k d = omega (arith, lead_length, settled_length, h.settled, h.starts, runs_length text body rs h.dimensions)

  front : take opening text ≡ take lead text ++ slice_range text lead opening
  front = let at : opening ≡ lead + (opening - lead) = omega (arith, h.settled) in ap (λ n. take n text) at ∙ take-add lead (opening - lead) text

  -- The text from a place before the dimensions' name up to the first dimension.
  pub opening_from : (from : ℕ) → from ≤ opening → slice_range text from body ≡ drop from (take lead text ++ slice_range text lead opening) ++ dimensions_start
  opening_from from le =
      let at : opening ≡ from + (opening - from) = omega arith in
      let cut : drop from (take opening text) ≡ slice_range text from opening = ap (λ n. drop from (take n text)) at ∙ drop-take from (opening - from) text in
      range_split text from opening body le (omega (arith, h.starts)) ∙ ap (λ q. slice_range text from opening ++ q) h.start
      ∙ ap (λ q. q ++ dimensions_start) (sym cut ∙ ap (drop from) front)

-- THE END OF THE DIMENSIONS

pub take_behind : (a p : List ℕ) (n : ℕ) → take (length a + n) (a ++ p) ≡ a ++ take n p
take_behind [] p n = let e : 0 + n ≡ n = omega arith in ap (λ m. take m p) e
take_behind (x ∷ a) p n =
    let e : length (x ∷ a) + n ≡ suc (length a + n) = omega arith in
    ap (λ m. take m (x ∷ (a ++ p))) e ∙ ap (λ t. x ∷ t) (take_behind a p n)

-- The comma after the last dimension is taken back.
pub closed : {a c d : List ℕ} {from end last : ℕ} (front dims closing : List ℕ) (body : ℕ) → from ≤ length a → Placed a c from (front ++ dims) end → body ≡ from + length front
    → Placed c d (body + ((end - body) - 1)) closing last → Placed a d from ((front ++ cut dims) ++ closing) last
closed {a} {c} {d} {from} {end} {last} front dims closing body within p is q =
    let n = length front + (length dims - 1) in
    let less : Placed a c from (take n (front ++ dims)) (from + n) = Placed-less n within (omega (arith, length-append front dims)) p in
    let at : body + ((end - body) - 1) ≡ from + n = omega (arith, p.moved, length-append front dims) in
    Placed-then (subst (λ (t : List ℕ). Placed a c from t (from + n)) (take_behind front dims (length dims - 1)) less) (subst (λ (i : ℕ). Placed c d i closing last) at q)

-- THE VALUE

pub value_some : {a b c d : List ℕ} {i j k l : ℕ} (v : Value) → v.is_nil ≡ false → Placed a b i (codes "\"") j → Placed b c j (flat_map escaped_byte (take v.len v.bytes.now)) k → Placed c d k (codes "\"}") l
    → Placed a d i (value_text (value_of v) ++ codes "}") l
unfolding value_text quoted
value_some {a} {b} {c} {d} {i} {j} {k} {l} v some p q r =
    let text = flat_map escaped_byte (take v.len v.bytes.now) in
    let is : value_text (value_of v) ≡ codes "\"" ++ text ++ codes "\"" = ap (λ e. value_text (if e then None else Some (take v.len v.bytes.now))) some in
    let whole : (codes "\"" ++ text) ++ codes "\"}" ≡ value_text (value_of v) ++ codes "}" = sym (append_assoc (codes "\"" ++ text) (codes "\"") (codes "}")) ∙ ap (λ t. t ++ codes "}") (sym is) in
    subst (λ (t : List ℕ). Placed a d i t l) whole (Placed-then (Placed-then p q) r)

pub value_none : {a b : List ℕ} {i j : ℕ} (v : Value) → v.is_nil ≡ true → Placed a b i (codes "null}") j → Placed a b i (value_text (value_of v) ++ codes "}") j
unfolding value_text
value_none {a} {b} {i} {j} v none p =
    let whole : codes "null}" ≡ value_text (value_of v) ++ codes "}" = ap (λ e. value_text (if e then None else Some (take v.len v.bytes.now)) ++ codes "}") (sym none) in
    subst (λ (t : List ℕ). Placed a b i t j) whole p

pub places_placed : {a b c d : List ℕ} {i j k l : ℕ} (n : ℤ) → Placed a b i (codes "\"decimals\":") j → Placed b c j (signed_decimal n) k → Placed c d k (codes ",") l → Placed a d i (decimals_text (Some n)) l
unfolding decimals_text
places_placed n p q r = Placed-then (Placed-then p q) r

-- THE WHOLE OBJECT

module _ {rs : List ReferenceValue} {t : FrameValue} {v : Value} {text : List ℕ} {lead opening body : ℕ} {runs : List TextRun} {k : Kind} {d : FrameDecimals} {from at rest : ℕ} {old mid : List ℕ}
    (h : IsLaidOut text lead opening body runs) (view : seen k d lead opening body text runs ≡ t) (w : WritesOpening rs t v old mid from at rest) where
  rest_le : rest ≤ opening
  rest_le =
      omega (arith, w.within, ap (λ (q : FrameValue). length q.lead) view, ap (λ (q : FrameValue). length q.settled) view, lead_length text lead opening body runs h, settled_length text lead opening body runs h, h.settled)

  rest_body : rest ≤ body
  rest_body = omega (arith, rest_le, h.starts)

  whole_length : frame_length t ≡ length text
  whole_length = ap frame_length (sym view) ∙ frame_length_is text lead opening body runs h k d

  products : (most : ℕ) → length t.segments * most ≡ length runs * most
  products most = ap (λ (q : FrameValue). length q.segments * most) (sym view) ∙ ap (λ n. n * most) (segments_length text body runs)

  pub runs_there : AreRuns (length text) rest runs
  runs_there = runs_earlier (length text) rest body runs rest_body h.dimensions

  pub runs_within_references : (n : ℕ) → All (λ (s : Segment). s.reference < n) t.segments → All (λ (r : TextRun). r.reference < n) runs
  runs_within_references n all = runs_hold (λ i. i < n) text body runs (subst (λ (q : FrameValue). All (λ (s : Segment). s.reference < n) q.segments) (sym view) all)

  pub runs_fit : (most size : ℕ) → from + fact_room t most size ≤ length old → at + (length text - rest) + length runs * most + 32 ≤ length mid
  runs_fit most size memory = omega (arith, memory, w.few, w.bytes.len, whole_length, products most, rest_le, h.starts, runs_within (length text) body runs h.dimensions)

  module _ {new : List ℕ} {end most : ℕ} (r : WritesRuns rs text rest most runs mid new at end) where
    earlier : dimensions_from (given_by rs) text rest runs ≡ slice_range text rest body ++ dimensions_from (given_by rs) text body runs
    earlier = text_earlier (given_by rs) text rest body runs rest_body h.dimensions

    slice_length : length (slice_range text rest body) ≡ body - rest
    slice_length = range_length text rest body rest_body (runs_within (length text) body runs h.dimensions)

    pub body_before : at + (body - rest) ≤ end
    body_before =
        let long : length (dimensions_from (given_by rs) text rest runs) ≡ length (slice_range text rest body) + length (dimensions_from (given_by rs) text body runs) =
        ap length earlier ∙ length-append (slice_range text rest body) (dimensions_from (given_by rs) text body runs) in
        omega (arith, r.bytes.moved, long, slice_length)

    pub end_fits : (size : ℕ) → from + fact_room t most size ≤ length old → end + 6 * size + 96 ≤ length new
    end_fits size memory = omega (arith, memory, w.few, w.bytes.len, r.few, r.bytes.len, whole_length, products most, rest_le, h.starts, runs_within (length text) body runs h.dimensions)

    opened : w.written ++ slice_range text rest body ≡ t.lead ++ opening_decimals rs t v ++ dimensions_start
    opened =
        ap (λ q. w.written ++ q) (opening_from text lead opening body runs h rest rest_le ∙ ap (λ (q : FrameValue). drop rest (q.lead ++ q.settled) ++ dimensions_start) view)
        ∙ sym (append_assoc w.written (drop rest (t.lead ++ t.settled)) dimensions_start) ∙ ap (λ q. q ++ dimensions_start) w.whole

    both : Placed old new from ((t.lead ++ opening_decimals rs t v ++ dimensions_start) ++ frame_dimensions (given_by rs) t) end
    both =
        let all : w.written ++ dimensions_from (given_by rs) text rest runs ≡ (t.lead ++ opening_decimals rs t v ++ dimensions_start) ++ frame_dimensions (given_by rs) t =
        ap (λ q. w.written ++ q) earlier ∙ sym (append_assoc w.written (slice_range text rest body) (dimensions_from (given_by rs) text body runs))
        ∙ ap (λ q. q ++ dimensions_from (given_by rs) text body runs) opened
        ∙ ap (λ (q : FrameValue). (t.lead ++ opening_decimals rs t v ++ dimensions_start) ++ frame_dimensions (given_by rs) q) view in
        subst (λ (q : List ℕ). Placed old new from q end) all (Placed-then w.bytes r.bytes)

    pub object_written : {close last : List ℕ} {closed_at done : ℕ} → from ≤ length old
        → Placed new close ((at + (body - rest)) + ((end - (at + (body - rest))) - 1)) (codes "},\"value\":") closed_at
        → Placed close last closed_at (value_text (value_of v) ++ codes "}") done → WritesObject rs t v old last from done
    object_written {close} {last} {closed_at} {done} within p q =
        let start = t.lead ++ opening_decimals rs t v ++ dimensions_start in
        let long : length (w.written ++ slice_range text rest body) ≡ length w.written + length (slice_range text rest body) = length-append w.written (slice_range text rest body) in
        let here : at + (body - rest) ≡ from + length start = omega (arith, w.bytes.moved, slice_length, ap length opened, long) in
        let shut = closed start (frame_dimensions (given_by rs) t) (codes "},\"value\":") (at + (body - rest)) within both here p in
        record {
          dimensions = subst (λ (g : FrameValue). All (λ (s : Segment). is_sound_by rs s.reference ≡ true) g.segments) view (segments_hold (λ i. is_sound_by rs i ≡ true) text body runs r.sound);
          decimals = w.decimals;
          bytes = subst (λ (g : List ℕ). Placed old last from g done) (sym (append_assoc (start ++ cut (frame_dimensions (given_by rs) t) ++ codes "},\"value\":") (value_text (value_of v)) (codes "}"))) (Placed-then shut q);
        }

-- THE FACT

pub fact_written : (rs : List ReferenceValue) (t : FrameValue) (v : Value) {old mid : List ℕ} (new : List ℕ) {from at : ℕ} (start : List ℕ) (o : Option ℕ) → from ≤ length old → Placed old mid from start at
    → MatchOption o (Stays mid new at) (λ end. WritesObject rs t v mid new at end) → TriesFact rs t v start old new from o
fact_written rs t v new start None within p h = Stays-then (omega (arith, p.moved)) (Placed-stays within p) h
fact_written rs t v new start (Some end) within p h = record { dimensions = h.dimensions; decimals = h.decimals; bytes = Placed-then p h.bytes }
