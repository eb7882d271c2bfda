-- Prepared dimensions stay right as references are added.
use Rattle.std.proofs.Common.{◌≡◌, ℕ, List, ◌++◌, codes, map, get_or, sym, ap, subst, ◌∙◌}
use Rattle.std.specs.Prelude.{MatchOption, Option, Some, None}
use Rattle.std.specs.List.{All, slice_get}
use Rattle.std.proofs.lemmas.List.{map-append}
use Rattle.oim_report.specs.declared.data.Written.{Written}
use Rattle.oim_report.specs.declared.data.WrittenDecimals.{WrittenDecimals}
use Rattle.oim_rows.specs.RowFacts.{TableHeaderValue}
use Rattle.oim_report.specs.declared.data.Level.{Level}
use Rattle.oim_report.specs.declared.kind.Kind.{Kind}
use Rattle.oim_resolve.specs.Written.{written, written_decimals}
use Rattle.oim_fast.specs.state.Frames.{AreFrameDecimals, AreKindDecimals, HasReferredKind, IsPeriodTest, IsTest, IsTextOf, IsUnitTest, levels_chosen, period_wanted, side_written, unit_wanted}
use Rattle.oim_fast.specs.state.KeptFrames.{IsBody, IsFrame}
use Rattle.oim_fast.specs.state.FrameParts.{AreDecimals, IsPart, IsPartValue, IsReferred}
use Rattle.oim_row.specs.References.{Grows, Key, ReferenceValue, key_of}
use Rattle.oim_fast.specs.state.FrameTexts.{FrameValue}
use Rattle.oim_fast.specs.declared.frame.frame.FrameBody.{FrameBody}
use Rattle.oim_fast.specs.declared.frame.frame.FrameBody.TheVariants as body
use Rattle.oim_fast.specs.declared.frame.frame.Frame.{Frame}
use Rattle.oim_fast.specs.declared.frame.frame_decimals.FrameDecimals.{FrameDecimals}
use Rattle.oim_fast.specs.declared.frame.frame_decimals.FrameDecimals.TheVariants as decimals
use Rattle.oim_fast.specs.declared.frame.part.FramePart.{FramePart}
use Rattle.oim_fast.specs.declared.frame.part.PartValue.{PartValue}
use Rattle.oim_fast.specs.declared.frame.part.PartValue.TheVariants as part
use Rattle.oim_row.specs.declared.group_cells.Choice.{Choice}
use Rattle.oim_row.specs.declared.purpose.Purpose.{Purpose}
use Rattle.oim_row.specs.declared.purpose.Purpose.TheVariants.{WantedPeriod, WantedUnit}
use Rattle.oim_row.proofs.Growth.{slice_get-append}

module _ (f : TableHeaderValue) (keys more : List Key) where
  pub referred_more : (n : List ℕ) (w : Written) (i : ℕ) → IsReferred f keys n w i → IsReferred f (keys ++ more) n w i
  referred_more n w i h = record { source = h.source; written = h.written; there = slice_get-append keys more i _ h.there }

  value_more : (n : List ℕ) (w : Written) (text : List ℕ) (v : PartValue) → IsPartValue f keys n w text v → IsPartValue f (keys ++ more) n w text v
  value_more n w text part.Nothing h = h
  value_more n w text part.Text h = h
  value_more n w text (part.Reference i) h = (referred_more n w i h.0, h.1)
  value_more n w text part.Unknown h = h

  pub part_more : (p : FramePart) → IsPart f keys p → IsPart f (keys ++ more) p
  part_more p h = record { role = h.role; value = value_more p.name.now p.written.now p.text.items p.value h.value; same = h.same; concept = h.concept }

  decimals_more : (w : WrittenDecimals) (text : List ℕ) (d : FrameDecimals) → AreDecimals f keys w text d → AreDecimals f (keys ++ more) w text d
  decimals_more w text decimals.Settled h = h
  decimals_more w text (decimals.Reference i) h = (h.0, h.1, h.2, slice_get-append keys more i _ h.3)
  decimals_more w text decimals.Unknown h = h

  pub frame_decimals_more : (o : Option WrittenDecimals) (text : List ℕ) (d : FrameDecimals) → AreFrameDecimals f keys o text d → AreFrameDecimals f (keys ++ more) o text d
  frame_decimals_more None text d h = h
  frame_decimals_more (Some w) text d h = decimals_more w text d h

-- The keys of the references that were added to.
pub keys_more : (rs later : List ReferenceValue) → (g : Grows rs later) → map key_of later ≡ map key_of rs ++ map key_of g.more
keys_more rs later g = ap (map key_of) g.is ∙ map-append key_of rs g.more

module _ (f : TableHeaderValue) (rs later : List ReferenceValue) (g : Grows rs later) where
  pub part_grows : (p : FramePart) → IsPart f (map key_of rs) p → IsPart f (map key_of later) p
  part_grows p h = subst (λ (ks : List Key). IsPart f ks p) (sym (keys_more rs later g)) (part_more f (map key_of rs) (map key_of g.more) p h)

  pub parts_grow : (ps : List FramePart) → All (IsPart f (map key_of rs)) ps → All (IsPart f (map key_of later)) ps
  parts_grow ps all k d lt = part_grows (get_or ps k d) (all k d lt)

  pub referred_grows : (n : List ℕ) (w : Written) (i : ℕ) → IsReferred f (map key_of rs) n w i → IsReferred f (map key_of later) n w i
  referred_grows n w i h = subst (λ (ks : List Key). IsReferred f ks n w i) (sym (keys_more rs later g)) (referred_more f (map key_of rs) (map key_of g.more) n w i h)

  pub frame_decimals_grow : (o : Option WrittenDecimals) (text : List ℕ) (d : FrameDecimals) → AreFrameDecimals f (map key_of rs) o text d → AreFrameDecimals f (map key_of later) o text d
  frame_decimals_grow o text d h =
      subst (λ (ks : List Key). AreFrameDecimals f ks o text d) (sym (keys_more rs later g)) (frame_decimals_more f (map key_of rs) (map key_of g.more) o text d h)

  pub kind_decimals_grow : (ls : List Level) (k : Kind) (text : List ℕ) (d : FrameDecimals) → AreKindDecimals f (map key_of rs) ls k text d → AreKindDecimals f (map key_of later) ls k text d
  kind_decimals_grow ls k text d h = record { numbers = λ e. frame_decimals_grow (written_decimals ls) text d (h.numbers e); others = h.others }

  pub test_grows : (o : Option Written) (p : Purpose) (test : Option ℕ) → IsTest f (map key_of rs) o p test → IsTest f (map key_of later) o p test
  test_grows o p None h = h
  test_grows o p (Some i) (source, is, at) = (source, is, subst (λ (ks : List Key). slice_get ks i ≡ Some (record { purpose = p; source = source })) (sym (keys_more rs later g)) (slice_get-append (map key_of rs) (map key_of g.more) i _ at))

  wanted_by : {A : Type 0} (wanted : Option A) (o : Option Written) (purpose : A → Purpose) (test : Option ℕ)
      → MatchOption wanted (test ≡ None) (λ y. IsTest f (map key_of rs) o (purpose y) test) → MatchOption wanted (test ≡ None) (λ y. IsTest f (map key_of later) o (purpose y) test)
  wanted_by None o purpose test h = h
  wanted_by (Some y) o purpose test h = test_grows o (purpose y) test h

  pub unit_grows : (ls : List Level) (k : Kind) (test : Option ℕ) → IsUnitTest f (map key_of rs) ls k test → IsUnitTest f (map key_of later) ls k test
  unit_grows ls k test h = wanted_by (unit_wanted k) (written ls (codes "unit")) WantedUnit test h

  pub period_grows : (ls : List Level) (k : Kind) (test : Option ℕ) → IsPeriodTest f (map key_of rs) ls k test → IsPeriodTest f (map key_of later) ls k test
  period_grows ls k test h = wanted_by (period_wanted k) (written ls (codes "period")) (λ p. WantedPeriod p (side_written (written ls (codes "period")))) test h

  pub text_grows : (ls : List Level) (lead : List ℕ) (t : FrameValue) → IsTextOf f (map key_of rs) ls lead t → IsTextOf f (map key_of later) ls lead t
  text_grows ls lead t h = record {
    parts = h.parts;
    unit = h.unit;
    period = h.period;
    entries = h.entries;
    are = parts_grow h.parts h.are;
    ready = h.ready;
    text = h.text;
    has_unit = unit_grows ls t.kind h.unit h.has_unit;
    has_period = period_grows ls t.kind h.period h.has_period;
    lead = h.lead;
    decimals = kind_decimals_grow ls t.kind t.settled t.decimals h.decimals;
  }

  pub referred_kind_grows : (ls : List Level) (i : ℕ) → HasReferredKind f (map key_of rs) ls i → HasReferredKind f (map key_of later) ls i
  referred_kind_grows ls i h = record { concept = h.concept; written = h.written; referred = referred_grows (codes "concept") h.concept i h.referred }

  pub body_grows : (c : ℕ) (os : List Choice) (k : Option Kind) (b : FrameBody) → IsBody f (map key_of rs) c os k b → IsBody f (map key_of later) c os k b
  body_grows c os k (body.Text t) h = (text_grows (levels_chosen f c os) _ t h.0, h.1)
  body_grows c os k (body.ByConcept i) h = referred_kind_grows (levels_chosen f c os) i h
  body_grows c os k body.Unknown h = h

  pub frames_grow : (vs : List Frame) → All (IsFrame f (map key_of rs)) vs → All (IsFrame f (map key_of later)) vs
  frames_grow vs all k d lt = let v = get_or vs k d in body_grows v.column v.choices.items v.kind v.body (all k d lt)
