-- How the text of a frame is made from the parts of its entries.
use Rattle.std.proofs.Common.{◌≡◌, ◌<◌, ◌+◌, ℕ, zero, suc, true, List, [], ◌∷◌, ◌++◌, codes, length, map, take, get_or, Option, Some, None, IfSome, refl, sym, ap, subst, ◌∙◌, append-nil, arith}
use Rattle.std.specs.Prelude.{◌⊎◌, MatchOption, if◌then◌else◌, Bool, false}
use Rattle.std.proofs.Common.{inr}
use Rattle.std.specs.Borrow.{Bor}
use Rattle.std.specs.List.{All, flat_map, slice_get}
use Rattle.std.specs.Option.{option_map}
use Rattle.std.proofs.lemmas.Grind.{flat_map-append}
use Rattle.std.proofs.lemmas.List.{map-append, take_more}
use Rattle.std.proofs.lemmas.Option.{slice_get_read}
use Rattle.oim_report.specs.declared.data.Level.{Level}
use Rattle.oim_report.specs.declared.data.Side.{Side}
use Rattle.oim_report.specs.declared.data.Written.{Written}
use Rattle.oim_report.specs.declared.kind.Kind.{Kind}
use Rattle.oim_report.specs.declared.kind.PeriodType.{PeriodType}
use Rattle.oim_report.specs.declared.kind.ValueType.{ValueType}
use Rattle.oim_resolve.specs.Facts.{is_dropped}
use Rattle.oim_resolve.specs.ProgramCell.{held}
use Rattle.oim_resolve.specs.Written.{written}
use Rattle.oim_rows.specs.RowFacts.{TableHeaderValue}
use Rattle.oim_fast.specs.state.FrameTexts.{FrameValue, is_ready, with_part, with_value}
use Rattle.oim_fast.specs.state.Frames.{AreKindDecimals, HasConstantKind, HasReferredKind, IsPeriodTest, IsTest, IsTextOf, IsUnitTest, are_ready, entry_of, levels_chosen, no_dimensions, period_wanted, side_written, unit_wanted, with_parts, with_test}
use Rattle.oim_fast.specs.state.Facts.{column_lead}
use Rattle.oim_fast.specs.state.KeptFrames.{IsBody}
use Rattle.oim_fast.specs.state.Making.{AddsEntries, AddsPeriod, AddsTest, AddsUnit, IsBodyOf, IsConcept, IsOpening, SaysConcept}
use Rattle.oim_fast.specs.state.FrameParts.{IsPart, IsPartValue, IsReferred}
use Rattle.oim_fast.specs.state.Pieces.{constant_meaning}
use Rattle.oim_resolve.specs.state.ProgramLevels.{named, written_entries}
use Rattle.oim_row.specs.Sources.{source_written}
use Rattle.oim_row.specs.Answers.{kind_read}
use Rattle.oim_row.specs.References.{Grows, Key, ReferenceValue, key_of}
use Rattle.oim_fast.specs.declared.frame.frame.FrameBody.{FrameBody}
use Rattle.oim_fast.specs.declared.frame.frame_maker.FrameConcept.{FrameConcept}
use Rattle.oim_fast.specs.declared.frame.frame_maker.FrameConcept.TheVariants as concept
use Rattle.oim_fast.specs.declared.frame.part.FramePart.{FramePart}
use Rattle.oim_row.specs.declared.group_cells.Choice.{Choice}
use Rattle.oim_row.specs.declared.purpose.Purpose.TheVariants.{WantedPeriod, WantedUnit}
use Rattle.oim_fast.specs.declared.frame.part.PartValue.{PartValue}
use Rattle.oim_fast.specs.declared.frame.part.PartValue.TheVariants as part
use Rattle.oim_row.proofs.Growth.{all_append, grows_twice}
use Rattle.oim_fast.proofs.KeyLaws.{kind_decimals_grow, parts_grow, unit_grows}

-- PARTS

pub parts_append : (t : FrameValue) (ps qs : List FramePart) → with_parts t (ps ++ qs) ≡ with_parts (with_parts t ps) qs
parts_append t [] qs = refl
parts_append t (p ∷ ps) qs = parts_append (with_part t p) ps qs

pub ready_append : (t : FrameValue) (ps qs : List FramePart) → are_ready t ps → are_ready (with_parts t ps) qs → are_ready t (ps ++ qs)
ready_append t [] qs h more = more
ready_append t (p ∷ ps) qs h more = (h.0, ready_append (with_part t p) ps qs h.1 more)

-- The entry of the part at a place.
pub entry_there : (xs : List FramePart) (i : ℕ) (p : FramePart) (e : List ℕ × Written) → i < length xs → p ≡ get_or xs i p → option_map entry_of (slice_get xs i) ≡ Some e → entry_of p ≡ e
entry_there xs i p e lt is at =
    let same : Some (entry_of p) ≡ Some e = sym (ap (option_map entry_of) (slice_get_read xs (length xs) i p refl lt is)) ∙ at in
    cc

pub entry_known : (xs : List FramePart) (i : ℕ) (p : FramePart) (n : List ℕ) (w : Written) → i < length xs → p ≡ get_or xs i p → p.name.now ≡ n → p.written.now ≡ w → option_map entry_of (slice_get xs i) ≡ Some (n, w)
entry_known xs i p n w lt is name same =
    ap (option_map entry_of) (slice_get_read xs (length xs) i p refl lt is) ∙ ap (λ (q : List ℕ). Some (q, p.written.now)) name ∙ ap (λ (q : Written). Some (n, q)) same

pub there_in : {A B : Type 0} (f : A → B) (xs : List A) (i : ℕ) (y : B) → option_map f (slice_get xs i) ≡ Some y → i < length xs
there_in f [] i y e = absurd (cc)
there_in f (x ∷ xs) zero y e = omega arith
there_in f (x ∷ xs) (suc i) y e = let more = there_in f xs i y e in omega (arith, more)

module _ (f : TableHeaderValue) where
  pub adds_none : (keys : List Key) (t : FrameValue) → AddsEntries f keys [] t t
  adds_none keys t = record { parts = []; entries = refl; are = λ k d lt. absurd (omega arith); ready = tt; text = refl }

  pub adds_one : (keys : List Key) (n : List ℕ) (w : Written) (o : Option Written) (p : FramePart) (old new : FrameValue) → o ≡ Some w → entry_of p ≡ (n, w) → IsPart f keys p
      → is_ready old p ≡ true → new ≡ with_part old p → AddsEntries f keys (named n o) old new
  adds_one keys n w o p old new e is part ready text =
      subst (λ q. AddsEntries f keys (named n q) old new) (sym e) (record {
        parts = p ∷ [];
        entries = ap (λ q. q ∷ []) is;
        are = single;
        ready = (ready, tt);
        text = text;
      })
    where
      single : All (IsPart f keys) (p ∷ [])
      single zero d lt = part
      single (suc k) d lt = absurd (omega arith)

  pub adds_more : (keys : List Key) (es ds : List (List ℕ × Written)) (old mid new : FrameValue) → AddsEntries f keys es old mid → AddsEntries f keys ds mid new → AddsEntries f keys (es ++ ds) old new
  adds_more keys es ds old mid new a b =
      record {
        parts = a.parts ++ b.parts;
        entries = map-append entry_of a.parts b.parts ∙ ap (λ q. q ++ map entry_of b.parts) a.entries ∙ ap (λ q. es ++ q) b.entries;
        are = all_append (IsPart f keys) a.parts b.parts a.are b.are;
        ready = ready_append old a.parts b.parts a.ready (subst (λ (t : FrameValue). are_ready t b.parts) a.text b.ready);
        text = b.text ∙ ap (λ (t : FrameValue). with_parts t b.parts) a.text ∙ sym (parts_append old a.parts b.parts);
      }

  pub adds_grow : (rs later : List ReferenceValue) (g : Grows rs later) (es : List (List ℕ × Written)) (old new : FrameValue) → AddsEntries f (map key_of rs) es old new → AddsEntries f (map key_of later) es old new
  adds_grow rs later g es old new a = record { parts = a.parts; entries = a.entries; are = parts_grow f rs later g a.parts a.are; ready = a.ready; text = a.text }

-- One more name.
pub entries_more : (ls : List Level) (ns : List (Bor (List ℕ))) (i : ℕ) (n : Bor (List ℕ)) → i < length ns → n ≡ get_or ns i n
    → flat_map (λ q. named q (written ls q)) (held (take (i + 1) ns)) ≡ flat_map (λ q. named q (written ls q)) (held (take i ns)) ++ named n.now (written ls n.now)
entries_more ls ns i n lt is =
    let entry : List ℕ → List (List ℕ × Written) = λ q. named q (written ls q) in
    ap (λ xs. flat_map entry (held xs)) (take_more ns i n lt ∙ ap (λ x. take i ns ++ x ∷ []) (sym is))
    ∙ ap (flat_map entry) (map-append (λ (x : Bor (List ℕ)). x.now) (take i ns) (n ∷ []))
    ∙ flat_map-append entry (held (take i ns)) (n.now ∷ [])
    ∙ ap (λ es. flat_map entry (held (take i ns)) ++ es) (append-nil (entry n.now))

-- THE TEXT

-- A frame before its dimensions.
abbrev head_of : FrameValue → FrameValue
head_of t = no_dimensions t.kind t.lead t.settled t.decimals

by_value : (t : FrameValue) (text : List ℕ) (v : PartValue) → head_of (with_value t text v) ≡ head_of t
by_value t text part.Nothing = refl
by_value t text part.Text = refl
by_value t text (part.Reference i) = refl
by_value t text part.Unknown = refl

head_kept : (t : FrameValue) (p : FramePart) → head_of (with_part t p) ≡ head_of t
head_kept t p = by (is_dropped t.kind p.role)
  where
    by : (b : Bool) → head_of (if b then t else with_value t p.text.items p.value) ≡ head_of t
    by true = refl
    by false = by_value t p.text.items p.value

heads_kept : (t : FrameValue) (ps : List FramePart) → head_of (with_parts t ps) ≡ head_of t
heads_kept t [] = refl
heads_kept t (p ∷ ps) = heads_kept (with_part t p) ps ∙ head_kept t p

test_kept : (t : FrameValue) (test : Option ℕ) → head_of (with_test t test) ≡ head_of t
test_kept t None = refl
test_kept t (Some i) = refl

-- With the parts of all that the levels write, and the tests, the frame is their text.
pub text_made : (f : TableHeaderValue) (rs mid later last : List ReferenceValue) (ls : List Level) (k : Kind) (lead : List ℕ) (old added unit new : FrameValue) → Grows rs mid → Grows mid later → Grows later last
    → IsOpening f (map key_of rs) ls k lead old → AddsEntries f (map key_of mid) (written_entries ls) old added → AddsUnit f (map key_of later) ls k added unit
    → AddsPeriod f (map key_of last) ls k unit new → (new.kind ≡ k) × IsTextOf f (map key_of last) ls lead new
text_made f rs mid later last ls k lead old added unit new g more most start adds has_unit has_period =
    let far = grows_twice mid later last more most in
    let head : head_of new ≡ old =
    ap head_of has_period.text ∙ test_kept unit has_period.test ∙ ap head_of has_unit.text ∙ test_kept added has_unit.test
    ∙ ap head_of adds.text ∙ heads_kept old adds.parts ∙ ap head_of start.start ∙ sym start.start in
    let kind : new.kind ≡ old.kind = ap (λ (t : FrameValue). t.kind) head in
    let is : new.kind ≡ k = kind ∙ ap (λ (t : FrameValue). t.kind) start.start in
    let decimals : AreKindDecimals f (map key_of last) ls old.kind old.settled old.decimals =
    subst (λ (q : Kind). AreKindDecimals f (map key_of last) ls q old.settled old.decimals) (sym (ap (λ (t : FrameValue). t.kind) start.start))
    (kind_decimals_grow f rs last (grows_twice rs mid last g far) ls k old.settled old.decimals start.decimals) in
    let whole : new ≡ with_test (with_test (with_parts old adds.parts) has_unit.test) has_period.test =
    has_period.text ∙ ap (λ (t : FrameValue). with_test t has_period.test) (has_unit.text ∙ ap (λ (t : FrameValue). with_test t has_unit.test) adds.text) in (
      is,
      record {
        parts = adds.parts;
        unit = has_unit.test;
        period = has_period.test;
        entries = adds.entries;
        are = parts_grow f mid last far adds.parts adds.are;
        ready = subst (λ (t : FrameValue). are_ready t adds.parts) (sym head) adds.ready;
        text = whole ∙ ap (λ (t : FrameValue). with_test (with_test (with_parts t adds.parts) has_unit.test) has_period.test) (sym head);
        has_unit = subst (λ (q : Kind). IsUnitTest f (map key_of last) ls q has_unit.test) (sym is) (unit_grows f later last most ls k has_unit.test has_unit.is);
        has_period = subst (λ (q : Kind). IsPeriodTest f (map key_of last) ls q has_period.test) (sym is) has_period.is;
        lead = ap (λ (t : FrameValue). t.lead) head ∙ ap (λ (t : FrameValue). t.lead) start.start;
        decimals = subst (λ (t : FrameValue). AreKindDecimals f (map key_of last) ls t.kind t.settled t.decimals) (sym head) decimals;
      },
    )

-- THE TESTS

none_wanted : {A : Type 0} (o : Option A) (test : Option ℕ) (S : A → Type 0) → o ≡ None → test ≡ None → MatchOption o (test ≡ None) S
none_wanted None test S e is = is
none_wanted (Some x) test S e is = absurd (cc e)

some_wanted : {A : Type 0} (o : Option A) (x : A) (N : Type 0) (S : A → Type 0) → o ≡ Some x → S x → MatchOption o N S
some_wanted None x N S e h = absurd (cc e)
some_wanted (Some y) x N S e h = let same : x ≡ y = cc e in subst S same h

module _ (f : TableHeaderValue) (keys : List Key) (ls : List Level) (k : Kind) where
  abbrev unit_written : Option Written
  unit_written = written ls (codes "unit")

  abbrev period_written : Option Written
  period_written = written ls (codes "period")

  -- A kind that wants nothing has no test.
  pub no_unit : (t : FrameValue) → unit_wanted k ≡ None → AddsUnit f keys ls k t t
  no_unit t e = record { test = None; is = none_wanted (unit_wanted k) None (λ y. IsTest f keys unit_written (WantedUnit y) None) e refl; text = refl }

  pub no_period : (t : FrameValue) → period_wanted k ≡ None → AddsPeriod f keys ls k t t
  no_period t e = record { test = None; is = none_wanted (period_wanted k) None (λ p. IsTest f keys period_written (WantedPeriod p (side_written period_written)) None) e refl; text = refl }

  pub a_unit : (y : ValueType) (o : Option Written) (old new : FrameValue) → unit_wanted k ≡ Some y → o ≡ unit_written → AddsTest f keys o (WantedUnit y) old new → AddsUnit f keys ls k old new
  a_unit y o old new e is h = record {
    test = h.test;
    is = some_wanted (unit_wanted k) y (h.test ≡ None) (λ z. IsTest f keys unit_written (WantedUnit z) h.test) e (subst (λ q. IsTest f keys q (WantedUnit y) h.test) is h.is);
    text = h.text;
  }

  pub a_period : (p : PeriodType) (s : Side) (o : Option Written) (old new : FrameValue) → period_wanted k ≡ Some p → o ≡ period_written → s ≡ side_written o → AddsTest f keys o (WantedPeriod p s) old new
      → AddsPeriod f keys ls k old new
  a_period p s o old new e is side h = record {
    test = h.test;
    is = some_wanted (period_wanted k) p (h.test ≡ None) (λ q. IsTest f keys period_written (WantedPeriod q (side_written period_written)) h.test) e
        (subst (λ q. IsTest f keys q (WantedPeriod p (side_written q)) h.test) is (subst (λ d. IsTest f keys o (WantedPeriod p d) h.test) side h.is));
    text = h.text;
  }

-- A concept's kind that was given, or is the same in each row, is the text's.
pub kind_made : (f : TableHeaderValue) (ls : List Level) (n : Option Kind) (k c : Kind) → k ≡ c → (n ≡ Some c) ⊎ HasConstantKind f ls c → (n ≡ Some k) ⊎ HasConstantKind f ls k
kind_made f ls n k c e h = subst (λ (q : Kind). (n ≡ Some q) ⊎ HasConstantKind f ls q) (sym e) h

-- THE CONCEPT

pub part_there : (f : TableHeaderValue) (keys : List Key) (xs : List FramePart) (i : ℕ) (p : FramePart) → All (IsPart f keys) xs → i < length xs → p ≡ get_or xs i p → IsPart f keys p
part_there f keys xs i p all lt is = subst (IsPart f keys) (sym is) (all i p lt)

pub referred_made : (f : TableHeaderValue) (keys : List Key) (ls : List Level) (p : FramePart) (w : Written) (i : ℕ) → entry_of p ≡ (codes "concept", w) → IsPart f keys p → p.value ≡ part.Reference i
    → written ls (codes "concept") ≡ Some w → HasReferredKind f keys ls i
referred_made f keys ls p w i e is v there =
    let value : IsPartValue f keys p.name.now p.written.now p.text.items (part.Reference i) = subst (IsPartValue f keys p.name.now p.written.now p.text.items) v is.value in
    let name : p.name.now ≡ codes "concept" = ap (λ (q : List ℕ × Written). q.0) e in
    let same : p.written.now ≡ w = ap (λ (q : List ℕ × Written). q.1) e in
    record { concept = w; written = there; referred = subst (λ (n : List ℕ). IsReferred f keys n w i) name (subst (λ (q : Written). IsReferred f keys p.name.now q i) same value.0) }

pub constant_made : (f : TableHeaderValue) (keys : List Key) (ls : List Level) (p : FramePart) (w : Written) (k : Kind) (n : List ℕ) → entry_of p ≡ (n, w) → IsPart f keys p → p.kind ≡ Some k
    → written ls (codes "concept") ≡ Some w → HasConstantKind f ls k
constant_made f keys ls p w k n e is v there =
    let written_same : p.written.now ≡ w = ap (λ (q : List ℕ × Written). q.1) e in
    let same : source_written f p.written.now ≡ None = subst (λ (o : Option Kind). IfSome o (λ q. source_written f p.written.now ≡ None)) v is.same in
    let kind : kind_read f.report (constant_meaning f p.written.now) ≡ Some k = subst (λ (o : Option Kind). IfSome o (λ q. kind_read f.report (constant_meaning f p.written.now) ≡ Some q)) v is.concept in
    record {
      concept = w;
      written = there;
      same = ap (source_written f) (sym written_same) ∙ same;
      kind = ap (λ (q : Written). kind_read f.report (constant_meaning f q)) (sym written_same) ∙ kind;
    }

pub concept_made : (f : TableHeaderValue) (keys : List Key) (ls : List Level) (p : FramePart) (w : Written) (n : Option Kind) (v : FrameConcept) → entry_of p ≡ (codes "concept", w) → IsPart f keys p → SaysConcept p v
    → written ls (codes "concept") ≡ Some w → IsConcept f keys ls n v
concept_made f keys ls p w n (concept.Constant k) e is says there = inr (constant_made f keys ls p w k (codes "concept") e is says there)
concept_made f keys ls p w n (concept.Reference i) e is says there = referred_made f keys ls p w i e is says there
concept_made f keys ls p w n concept.Unknown e is says there = tt

-- THE BODY

pub body_made : (f : TableHeaderValue) (keys : List Key) (c : ℕ) (os : List Choice) (n : Option Kind) (k : Kind) (o : Option FrameValue) (b : FrameBody) → IfSome o (λ t. (t.kind ≡ k) × IsTextOf f keys (levels_chosen f c os) (column_lead f c) t)
    → (n ≡ Some k) ⊎ HasConstantKind f (levels_chosen f c os) k → IsBodyOf o b → IsBody f keys c os n b
body_made f keys c os n k None b h by is = subst (IsBody f keys c os n) (sym is) tt
body_made f keys c os n k (Some t) b h by is = subst (IsBody f keys c os n) (sym is) (h.1, kind_made f (levels_chosen f c os) n t.kind k h.0 by)
