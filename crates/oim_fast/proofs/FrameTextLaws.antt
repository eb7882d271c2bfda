-- How the text of a frame is laid out as it grows.
use Rattle.std.proofs.Common.{◌≡◌, ℕ, ◌-◌, ◌≤◌, false, List, [], ◌∷◌, ◌++◌, length, take, drop, refl, sym, ap, subst, ◌∙◌, arith, length-append, length-drop, take_all}
use Rattle.std.specs.Prelude.{slice_range}
use Rattle.std.proofs.Math.Seq.{drop-append_seam}
use Rattle.std.proofs.lemmas.List.{drop_all, drop-append-le, take-append-le}
use Rattle.oim_report.specs.declared.kind.Kind.{Kind}
use Rattle.oim_resolve.specs.Facts.{is_dropped}
use Rattle.oim_fast.specs.state.FrameTexts.{AreRuns, FrameValue, IsFilled, IsLaidOut, Segment, rest_from, segments_from, with_part, with_segment, with_value}
use Rattle.oim_fast.specs.declared.frame.frame_decimals.FrameDecimals.{FrameDecimals}
use Rattle.oim_fast.specs.declared.frame.part.FramePart.{FramePart}
use Rattle.oim_fast.specs.declared.frame.part.PartValue.{PartValue}
use Rattle.oim_fast.specs.declared.frame.part.PartValue.TheVariants as part
use Rattle.oim_fast.specs.declared.frame.frame_text.TextRun.{TextRun}
use Rattle.oim_fast.specs.declared.frame.value_form.ValueForm.{ValueForm}

-- A range of a text stays as the text grows.
pub range_more : (text more : List ℕ) (i j : ℕ) → i ≤ j → j ≤ length text → slice_range (text ++ more) i j ≡ slice_range text i j
range_more text more i j le within =
    ap (take (j - i)) (drop-append-le i text more (omega arith)) ∙ take-append-le (j - i) (drop i text) more (omega (arith, length-drop i text))

-- Runs stay.
pub runs_within : (long from : ℕ) (rs : List TextRun) → AreRuns long from rs → from ≤ long
runs_within long from [] h = h
runs_within long from (r ∷ rs) h = let more = runs_within long r.named rs h.2 in omega (arith, h.0, h.1, more)

pub runs_more : (long longer from : ℕ) (rs : List TextRun) → long ≤ longer → AreRuns long from rs → AreRuns longer from rs
runs_more long longer from [] le h = omega (arith, h)
runs_more long longer from (r ∷ rs) le h = (h.0, h.1, runs_more long longer r.named rs le h.2)

pub segments_more : (text more : List ℕ) (from : ℕ) (rs : List TextRun) → AreRuns (length text) from rs → segments_from (text ++ more) from rs ≡ segments_from text from rs
segments_more text more from [] h = refl
segments_more text more from (r ∷ rs) h =
    let within = runs_within (length text) r.named rs h.2 in
    let segment : List ℕ → List ℕ → List Segment → List Segment = λ alone name later. record { alone = alone; name = name; reference = r.reference } ∷ later in
    rw (range_more text more from r.alone h.0 (omega (arith, h.1, within)), range_more text more r.alone r.named h.1 within, segments_more text more r.named rs h.2) refl

pub rest_more : (text more : List ℕ) (from : ℕ) (rs : List TextRun) → AreRuns (length text) from rs → rest_from (text ++ more) from rs ≡ rest_from text from rs ++ more
rest_more text more from [] h = drop-append-le from text more h
rest_more text more from (r ∷ rs) h = rest_more text more r.named rs h.2

front_range : (text name : List ℕ) (from : ℕ) → from ≤ length text → slice_range (text ++ name) from (length text) ≡ drop from text
front_range text name from h = range_more text name from (length text) h (omega arith) ∙ take_all (length text - from) (drop from text) (omega (arith, length-drop from text))

back_range : (text name : List ℕ) → slice_range (text ++ name) (length text) (length (text ++ name)) ≡ name
back_range text name = ap (take (length (text ++ name) - length text)) (drop-append_seam text name) ∙ take_all (length (text ++ name) - length text) name (omega (arith, length-append text name))

-- What contracts see of a text with this layout.
abbrev pub seen : Kind → FrameDecimals → ℕ → ℕ → ℕ → List ℕ → List TextRun → FrameValue
seen k d lead opening body t runs = record { kind = k; lead = take lead t; settled = slice_range t lead opening; decimals = d; segments = segments_from t body runs; rest = rest_from t body runs }

-- One more run at the end.
abbrev pub run_at_end : List ℕ → List ℕ → ℕ → TextRun
run_at_end text name i = record { alone = length text; named = length (text ++ name); reference = i }

runs_push : (text name : List ℕ) (i from : ℕ) (rs : List TextRun) → AreRuns (length text) from rs → AreRuns (length (text ++ name)) from (rs ++ run_at_end text name i ∷ [])
runs_push text name i from [] h = (h, omega (arith, length-append text name), omega arith)
runs_push text name i from (r ∷ rs) h = (h.0, h.1, runs_push text name i r.named rs h.2)

segments_push : (text name : List ℕ) (i from : ℕ) (rs : List TextRun) → AreRuns (length text) from rs
    → segments_from (text ++ name) from (rs ++ run_at_end text name i ∷ []) ≡ segments_from text from rs ++ record { alone = rest_from text from rs; name = name; reference = i } ∷ []
segments_push text name i from [] h = rw (front_range text name from h, back_range text name) refl
segments_push text name i from (r ∷ rs) h =
    let within = runs_within (length text) r.named rs h.2 in
    rw (range_more text name from r.alone h.0 (omega (arith, h.1, within)), range_more text name r.alone r.named h.1 within, segments_push text name i r.named rs h.2) refl

rest_push : (text name : List ℕ) (i from : ℕ) (rs : List TextRun) → rest_from (text ++ name) from (rs ++ run_at_end text name i ∷ []) ≡ []
rest_push text name i from [] = drop_all (length (text ++ name)) (text ++ name) (omega arith)
rest_push text name i from (r ∷ rs) = rest_push text name i r.named rs

module _ (text : List ℕ) (lead opening body : ℕ) (rs : List TextRun) (h : IsLaidOut text lead opening body rs) where
  within : body ≤ length text
  within = runs_within (length text) body rs h.dimensions

  pub laid_out_more : (more : List ℕ) → IsLaidOut (text ++ more) lead opening body rs
  laid_out_more more = record {
    settled = h.settled;
    starts = h.starts;
    start = range_more text more opening body (omega (arith, h.starts)) within ∙ h.start;
    dimensions = runs_more (length text) (length (text ++ more)) body rs (omega (arith, length-append text more)) h.dimensions;
  }

  pub laid_out_run : (name : List ℕ) (i : ℕ) → IsLaidOut (text ++ name) lead opening body (rs ++ run_at_end text name i ∷ [])
  laid_out_run name i = record {
    settled = h.settled;
    starts = h.starts;
    start = range_more text name opening body (omega (arith, h.starts)) within ∙ h.start;
    dimensions = runs_push text name i body rs h.dimensions;
  }

  pub value_more : (k : Kind) (d : FrameDecimals) (more : List ℕ) → seen k d lead opening body (text ++ more) rs ≡ with_value (seen k d lead opening body text rs) more part.Text
  value_more k d more = rw (
    take-append-le lead text more (omega (arith, h.settled, h.starts, within)),
    range_more text more lead opening h.settled (omega (arith, h.starts, within)),
    segments_more text more body rs h.dimensions,
    rest_more text more body rs h.dimensions,
  ) refl

  pub value_run : (k : Kind) (d : FrameDecimals) (name : List ℕ) (i : ℕ) → seen k d lead opening body (text ++ name) (rs ++ run_at_end text name i ∷ []) ≡ with_value (seen k d lead opening body text rs) name (part.Reference i)
  value_run k d name i = rw (
    take-append-le lead text name (omega (arith, h.settled, h.starts, within)),
    range_more text name lead opening h.settled (omega (arith, h.starts, within)),
    segments_push text name i body rs h.dimensions,
    rest_push text name i body rs,
  ) refl

-- WHAT IS ADDED

module _ (k : Kind) (by : ValueForm) (text : List ℕ) (lead opening body : ℕ) (rs : List TextRun) (h : IsFilled k by text lead opening body rs) where
  -- More text.
  pub filled_more : (more new : List ℕ) → new ≡ text ++ more → IsFilled k by new lead opening body rs
  filled_more more new e = subst (λ (t : List ℕ). IsFilled k by t lead opening body rs) (sym e) (record { form = h.form; laid = laid_out_more text lead opening body rs h.laid more })

  -- One more run.
  module _ (name new : List ℕ) (i : ℕ) (run : TextRun) (runs : List TextRun) (last : run ≡ run_at_end text name i) (is : new ≡ text ++ name) (pushed : runs ≡ rs ++ run ∷ []) where
    all : runs ≡ rs ++ run_at_end text name i ∷ []
    all = pushed ∙ ap (λ r. rs ++ r ∷ []) last

    pub filled_run : IsFilled k by new lead opening body runs
    filled_run = record {
      form = h.form;
      laid = subst (λ (t : List ℕ). IsLaidOut t lead opening body runs) (sym is)
          (subst (λ (q : List TextRun). IsLaidOut (text ++ name) lead opening body q) (sym all) (laid_out_run text lead opening body rs h.laid name i));
    }

    pub seen_run : (d : FrameDecimals) (t : FrameValue) → seen k d lead opening body text rs ≡ t → seen k d lead opening body new runs ≡ with_segment t name i
    seen_run d t view =
        ap (λ q. seen k d lead opening body q runs) is ∙ ap (λ q. seen k d lead opening body (text ++ name) q) all
        ∙ value_run text lead opening body rs h.laid k d name i ∙ ap (λ q. with_segment q name i) view

-- A part that the facts have is added as it was prepared.
pub with_it : (old new : FrameValue) (p : FramePart) (v : PartValue) → is_dropped old.kind p.role ≡ false → p.value ≡ v → new ≡ with_value old p.text.items v → new ≡ with_part old p
with_it old new p v kept is e = rw kept (e ∙ ap (with_value old p.text.items) (sym is))
