-- A cell has no fault in its groups, its concept, its dimensions and its decimals, if its frame is
-- known and no reference of the frame has a fault.
use Rattle.std.proofs.Common.{◌≡◌, ◌<◌, ◌^◌, ℕ, zero, suc, Bool, true, false, cond, not, ◌||◌, List, [], ◌∷◌, ◌++◌, length, map, codes, Option, Some, None, Ok, is_ok, refl, sym, ap, subst, ◌∙◌, arith}
use Rattle.std.specs.List.{All, flat_map, list_any, slice_get}
use Rattle.std.specs.Option.{option_and_then, option_map_or}
use Rattle.std.specs.Prelude.{MatchOption, if◌then◌else◌}
use Rattle.oim_cells.specs.Cells.{Meaning, meaning_of}
use Rattle.oim_cells.specs.Cells as m
use Rattle.oim_json.specs.JsonText.{decimals_text}
use Rattle.oim_report.specs.ReportValue.{ReportValue}
use Rattle.oim_report.specs.declared.data.Column.{Column as AColumn}
use Rattle.oim_report.specs.declared.data.Side.{Side}
use Rattle.oim_report.specs.declared.data.Side.TheVariants as side
use Rattle.oim_report.specs.declared.data.Written.{Written}
use Rattle.oim_report.specs.declared.data.WrittenDecimals.{WrittenDecimals}
use Rattle.oim_report.specs.declared.kind.Kind.{Kind}
use Rattle.oim_report.specs.declared.kind.Kind.TheVariants as kind
use Rattle.oim_report.specs.declared.kind.PeriodType.{PeriodType}
use Rattle.oim_report.specs.declared.kind.ValueType.{ValueType}
use Rattle.oim_report.specs.declared.kind.ValueType.TheVariants as item
use Rattle.oim_resolve.specs.Cell.{Cell, meaning_at}
use Rattle.oim_resolve.specs.Facts.{dimension_faults, entry_given, is_dropped, is_unknown, lacks_period, lacks_unit, names_no_group, places, role_of, stated_accuracy, stated_by, stated_faults, stated_read, value_faults_of, value_read, wanted_faults}
use Rattle.oim_resolve.specs.Faults.{fault_if, least, unless}
use Rattle.oim_resolve.specs.Values.{Read, Stated, side_of, value}
use Rattle.oim_resolve.specs.Written.{levels, written}
use Rattle.oim_resolve.specs.declared.fact.CellFault.{CellFault}
use Rattle.oim_resolve.specs.declared.fact.CellFault.TheVariants.{BadUnit, WrongPeriod}
use Rattle.oim_resolve.specs.declared.role.Role.{Role}
use Rattle.oim_resolve.specs.declared.role.Role.TheVariants as role
use Rattle.oim_rows.specs.RowFacts.{field_or_empty, source_of_column}
use Rattle.oim_row.specs.Answers.{is_sound_for, kind_in}
use Rattle.oim_fast.specs.state.FactTexts.{frame_decimals, has_decimals}
use Rattle.oim_fast.specs.state.FrameTexts.{FrameValue, Segment, is_known, is_ready, with_part, with_value}
use Rattle.oim_fast.specs.state.Frames.{AreFrameDecimals, Chooses, IsPeriodTest, IsTest, IsUnitTest, are_ready, entry_of, is_known_choice, side_written, unit_type, with_parts, with_test}
use Rattle.oim_row.specs.Groups.{Names, Says}
use Rattle.oim_fast.specs.state.FrameParts.{IsPart, IsPartValue}
use Rattle.oim_fast.specs.state.Pieces.{AreSound, constant_stated, is_sound_dimension}
use Rattle.oim_resolve.specs.state.ProgramLevels.{named}
use Rattle.oim_row.specs.References.{IsFresh, Key, ReferenceValue, key_of, meaning_at_hand}
use Rattle.oim_fast.specs.state.GivenTexts.{given_by, is_sound_by}
use Rattle.oim_row.specs.Rows.{RowValue, column_in, columns_in}
use Rattle.oim_row.specs.state.Rows.{cell_in}
use Rattle.oim_row.specs.Sources.{source_text}
use Rattle.oim_fast.specs.declared.frame.frame_decimals.FrameDecimals.{FrameDecimals}
use Rattle.oim_fast.specs.declared.frame.frame_decimals.FrameDecimals.TheVariants as decimals
use Rattle.oim_fast.specs.declared.frame.part.FramePart.{FramePart}
use Rattle.oim_fast.specs.declared.frame.part.PartValue.{PartValue}
use Rattle.oim_fast.specs.declared.frame.part.PartValue.TheVariants as part
use Rattle.oim_row.specs.declared.group_cells.Choice.{Choice}
use Rattle.oim_row.specs.declared.group_cells.Choice.TheVariants as choice
use Rattle.oim_row.specs.declared.purpose.Purpose.{Purpose}
use Rattle.oim_row.specs.declared.purpose.Purpose.TheVariants.{WantedPeriod, WantedUnit}
use Rattle.oim_fast.proofs.FrameLaws.{kind_kept}
use Rattle.oim_fast.proofs.PieceLaws.{all_at, found, given_at}
use Rattle.oim_fast.proofs.RowLaws.{stated_constant, stated_referred, text_is, value_constant, value_referred}

-- FAULTS

no_least : {A : Type 0} (o : Option CellFault) (x : A) → is_ok (unless o (Ok x)) ≡ true → o ≡ None
no_least None x e = refl
no_least (Some f) x e = absurd (cc e)

none_least : (fs : List CellFault) → least fs ≡ None → fs ≡ []
none_least [] e = refl
none_least (f ∷ fs) e = absurd (cc e)

read_sound : (r : ReportValue) (o : Role) (s : Side) (v : Meaning) → is_ok (value_read r o s v) ≡ true → value_faults_of r o s v ≡ []
read_sound r o s v e = none_least (value_faults_of r o s v) (no_least (least (value_faults_of r o s v)) (entry_given r o s v) e)

stated_sound : (s : Stated) → is_ok (stated_read s) ≡ true → stated_faults s ≡ []
stated_sound s e = none_least (stated_faults s) (no_least (least (stated_faults s)) (stated_accuracy s) e)

-- THE CONCEPT

-- A concept's value has no fault and this kind.
pub record IsRead (o : Option CellFault) (k j : Kind) : Type 0 where
  pub none : o ≡ None
  pub kind : j ≡ k

pub concept_sound : (o : Option CellFault) (k j : Kind) → kind_in (unless o (Ok k)) ≡ Some j → IsRead o k j
concept_sound (Some f) k j e = absurd (cc e)
concept_sound None k j e = record { none = refl; kind = cc e }

not_true : (b : Bool) → not b ≡ true → b ≡ false
not_true false e = refl
not_true true e = absurd (cc e)

no_wanted : (a b : Bool) → a ≡ false → b ≡ false → fault_if BadUnit a ++ fault_if WrongPeriod b ≡ []
no_wanted false false p q = refl
no_wanted true b p q = absurd (cc p)
no_wanted false true p q = absurd (cc q)

-- GROUPS

named_by : (k : AColumn) (v : Meaning) (o : Choice) → is_known_choice o ≡ true → Says k v o → Names k v o
named_by k v choice.Nothing e h = h
named_by k v (choice.Group g) e h = h
named_by k v choice.Unknown e h = absurd (cc e)

neither : (a b : Bool) → a ≡ false → b ≡ false → (a || b) ≡ false
neither false false p q = refl
neither true b p q = absurd (cc p)
neither false true p q = absurd (cc q)

-- The cells of groups have no fault.
pub record AreNamed (c : Cell) (gs : List ℕ) : Type 0 where
  pub known : list_any (λ i. is_unknown (meaning_at c i)) gs ≡ false
  pub named : list_any (names_no_group c) gs ≡ false

pub chosen_sound : (x : RowValue) (c : ℕ) (gs : List ℕ) (os : List Choice) → All (λ g. g < length (columns_in x.header)) gs → Chooses x gs os → AreNamed (cell_in x c) gs
chosen_sound x c [] [] within h = record { known = refl; named = refl }
chosen_sound x c [] (o ∷ os) within h = absurd h
chosen_sound x c (g ∷ gs) [] within h = absurd h
chosen_sound x c (g ∷ gs) (o ∷ os) within h =
    let more = chosen_sound x c gs os (λ k d lt. within (suc k) d (omega arith)) h.2 in
    let text = text_is x c g (within 0 g (omega arith)) in
    let one : Names (column_in x.header g) (meaning_at (cell_in x c) g) o =
    subst (λ t. Names (column_in x.header g) (meaning_of t) o) (sym text) (named_by (column_in x.header g) (meaning_of (field_or_empty x.fields (source_of_column x.header.columns g))) o h.0 h.1) in
    record {
      known = neither (is_unknown (meaning_at (cell_in x c) g)) (list_any (λ i. is_unknown (meaning_at (cell_in x c) i)) gs) one.known more.known;
      named = neither (names_no_group (cell_in x c) g) (list_any (names_no_group (cell_in x c)) gs) one.named more.named;
    }

-- ONE DIMENSION

module _ (c : Cell) (k : Kind) (n : List ℕ) where
  no_faults : (b : Bool) (o : Role) → cond b [] (value_faults_of c.report o side.Whole m.Absent) ≡ []
  no_faults true o = refl
  no_faults false role.Concept = refl
  no_faults false role.Entity = refl
  no_faults false role.Period = refl
  no_faults false role.Unit = refl
  no_faults false role.Language = refl
  no_faults false role.Explicit = refl
  no_faults false role.Typed = refl
  no_faults false (role.TypedBy y) = refl

  abbrev faults_by : Option Written → List CellFault
  faults_by o = cond (is_dropped k (role_of c.report n)) [] (value_faults_of c.report (role_of c.report n) (option_map_or side_of o side.Whole) (option_map_or (value c) o m.Absent))

  nothing_wrong : None ≡ written (levels c) n → dimension_faults c k n ≡ []
  nothing_wrong e = sym (ap faults_by e) ∙ no_faults (is_dropped k (role_of c.report n)) (role_of c.report n)

  sound_if : (b : Bool) (o : Role) (s : Side) (v : Meaning) → (b || is_ok (value_read c.report o s v)) ≡ true → cond b [] (value_faults_of c.report o s v) ≡ []
  sound_if true o s v e = refl
  sound_if false o s v e = read_sound c.report o s v e

  sound_written : (x : Written) → Some x ≡ written (levels c) n → is_sound_dimension c.report k n (side_of x) (value c x) ≡ true → dimension_faults c k n ≡ []
  sound_written x e h = sym (ap faults_by e) ∙ sound_if (is_dropped k (role_of c.report n)) (role_of c.report n) (side_of x) (value c x) h

-- ALL DIMENSIONS

module _ (c : Cell) (k : Kind) where
  abbrev entries_by : List (List ℕ) → List (List ℕ × Written)
  entries_by ns = flat_map (λ n. named n (written (levels c) n)) ns

  sound_step : (n : List ℕ) (ns : List (List ℕ)) (o : Option Written) → o ≡ written (levels c) n → AreSound c k (named n o ++ entries_by ns)
      → (AreSound c k (entries_by ns) → flat_map (dimension_faults c k) ns ≡ []) → dimension_faults c k n ++ flat_map (dimension_faults c k) ns ≡ []
  sound_step n ns None e sound more = ap (λ fs. fs ++ flat_map (dimension_faults c k) ns) (nothing_wrong c k n e) ∙ more sound
  sound_step n ns (Some x) e sound more =
      ap (λ fs. fs ++ flat_map (dimension_faults c k) ns) (sound_written c k n x e (sound 0 (n, x) (omega arith)))
      ∙ more (λ i d lt. sound (suc i) d (omega arith))

  -- Written dimensions without a fault.
  pub sound_faults : (ns : List (List ℕ)) → AreSound c k (entries_by ns) → flat_map (dimension_faults c k) ns ≡ []
  sound_faults [] sound = refl
  sound_faults (n ∷ ns) sound = sound_step n ns (written (levels c) n) refl sound (sound_faults ns)

-- PARTS

all_front : {A : Type 0} (P : A → Type 0) (xs ys : List A) → All P (xs ++ ys) → All P xs
all_front P [] ys h k d lt = absurd (omega arith)
all_front P (x ∷ xs) ys h zero d lt = h 0 x (omega arith)
all_front P (x ∷ xs) ys h (suc k) d lt = all_front P xs ys (λ j e b. h (suc j) e (omega arith)) k d (omega arith)

last_of : {A : Type 0} (P : A → Type 0) (xs : List A) (x : A) → All P (xs ++ x ∷ []) → P x
last_of P [] x h = h 0 x (omega arith)
last_of P (y ∷ xs) x h = last_of P xs x (λ j e b. h (suc j) e (omega arith))

sound_either : (a b : Bool) → (a ≡ false → b ≡ true) → (a || b) ≡ true
sound_either true b h = refl
sound_either false b h = h refl

module _ (x : RowValue) (c : ℕ) (few : x.number < 2 ^ 32) (rs : List ReferenceValue) (fresh : All (IsFresh x) rs) where
  abbrev IsSoundSegment : Segment → Type 0
  IsSoundSegment s = is_sound_by rs s.reference ≡ true

  value_kept : (t : FrameValue) (text : List ℕ) (v : PartValue) → All IsSoundSegment (with_value t text v).segments → All IsSoundSegment t.segments
  value_kept t text part.Nothing h = h
  value_kept t text part.Text h = h
  value_kept t text (part.Reference i) h = all_front IsSoundSegment t.segments _ h
  value_kept t text part.Unknown h = h

  part_kept : (t : FrameValue) (p : FramePart) → All IsSoundSegment (with_part t p).segments → All IsSoundSegment t.segments
  part_kept t p = by (is_dropped t.kind p.role)
    where
      by : (b : Bool) → All IsSoundSegment (if b then t else with_value t p.text.items p.value).segments → All IsSoundSegment t.segments
      by true h = h
      by false h = value_kept t p.text.items p.value h

  parts_kept : (t : FrameValue) (ps : List FramePart) → All IsSoundSegment (with_parts t ps).segments → All IsSoundSegment t.segments
  parts_kept t [] h = h
  parts_kept t (p ∷ ps) h = part_kept t p (parts_kept (with_part t p) ps h)

  -- Whether a reference has a fault in the row.
  pub sound_at : (i : ℕ) (key : Key) → slice_get (map key_of rs) i ≡ Some key → is_sound_by rs i ≡ is_sound_for x.header.report key.purpose (meaning_of (source_text x key.source))
  sound_at i key e =
      let at = found key_of rs i key e in
      let r = at.0 in
      let so = all_at (IsFresh x) rs i r fresh at.1 in
      ap (λ o. option_map_or (λ (q : ReferenceValue). is_sound_for q.report q.key.purpose (meaning_at_hand q)) o false) at.1
      ∙ ap (λ (q : ReportValue). is_sound_for q r.key.purpose (meaning_of r.text)) so.report
      ∙ ap (λ (t : List ℕ). is_sound_for x.header.report r.key.purpose (meaning_of t)) so.text
      ∙ ap (λ (k : Key). is_sound_for x.header.report k.purpose (meaning_of (source_text x k.source))) at.2

  abbrev value_sound : List ℕ → Written → Meaning → Bool
  value_sound n w v = is_ok (value_read x.header.report (role_of x.header.report n) (side_of w) v)

  known_sound : (t : FrameValue) (n text : List ℕ) (w : Written) (v : PartValue) → is_known v ≡ true → IsPartValue x.header (map key_of rs) n w text v
      → All IsSoundSegment (with_value t text v).segments → value_sound n w (value (cell_in x c) w) ≡ true
  known_sound t n text w part.Nothing k (same, none) h = ap (value_sound n w) (value_constant x c w same.same) ∙ same.sound
  known_sound t n text w part.Text k (same, is) h = ap (value_sound n w) (value_constant x c w same.same) ∙ same.sound
  known_sound t n text w (part.Reference i) k (to, is) h =
      ap (value_sound n w) (value_referred x c w to.source few to.written) ∙ sym (sound_at i _ to.there) ∙ last_of IsSoundSegment t.segments (record { alone = t.rest; name = text; reference = i }) h
  known_sound t n text w part.Unknown k is h = absurd (cc k)

  part_sound : (t : FrameValue) (p : FramePart) → IsPart x.header (map key_of rs) p → is_ready t p ≡ true → All IsSoundSegment (with_part t p).segments
      → is_sound_dimension x.header.report t.kind p.name.now (side_of p.written.now) (value (cell_in x c) p.written.now) ≡ true
  part_sound t p is ready h = sound_either (is_dropped t.kind (role_of x.header.report p.name.now)) (value_sound p.name.now p.written.now (value (cell_in x c) p.written.now)) kept
    where
      by : (b : Bool) → b ≡ false → (b || is_known p.value) ≡ true → All IsSoundSegment (if b then t else with_value t p.text.items p.value).segments
          → value_sound p.name.now p.written.now (value (cell_in x c) p.written.now) ≡ true
      by true e ready h = absurd (cc e)
      by false e ready h = known_sound t p.name.now p.text.items p.written.now p.value ready is.value h

      kept : is_dropped t.kind (role_of x.header.report p.name.now) ≡ false → value_sound p.name.now p.written.now (value (cell_in x c) p.written.now) ≡ true
      kept e = by (is_dropped t.kind p.role) (ap (is_dropped t.kind) is.role ∙ e) ready h

  -- What was added of known parts has no fault.
  pub parts_sound : (t : FrameValue) (ps : List FramePart) → All (IsPart x.header (map key_of rs)) ps → are_ready t ps → All IsSoundSegment (with_parts t ps).segments → AreSound (cell_in x c) t.kind (map entry_of ps)
  parts_sound t [] are ready h i d lt = absurd (omega arith)
  parts_sound t (p ∷ ps) are ready h zero d lt = part_sound t p (are 0 p (omega arith)) ready.0 (parts_kept (with_part t p) ps h)
  parts_sound t (p ∷ ps) are ready h (suc i) d lt =
      let more = parts_sound (with_part t p) ps (λ k e b. are (suc k) e (omega arith)) ready.1 h in
      let kept : AreSound (cell_in x c) t.kind (map entry_of ps) = subst (λ (k : Kind). AreSound (cell_in x c) k (map entry_of ps)) (kind_kept t p) more in
      kept i d (omega arith)

  -- THE UNIT AND THE PERIOD

  pub test_kept : (t : FrameValue) (test : Option ℕ) → All IsSoundSegment (with_test t test).segments → All IsSoundSegment t.segments
  test_kept t None h = h
  test_kept t (Some i) h = all_front IsSoundSegment t.segments _ h

  abbrev row_gives : Option Written → Meaning
  row_gives o = option_map_or (value (cell_in x c)) o m.Absent

  -- What was tested has no fault in the row.
  test_sound : (o : Option Written) (p : Purpose) (t : FrameValue) (test : Option ℕ) → IsTest x.header (map key_of rs) o p test → All IsSoundSegment (with_test t test).segments
      → is_sound_for x.header.report p (row_gives o) ≡ true
  test_sound None p t None (same, sound) h = sound
  test_sound (Some w) p t None (same, sound) h = ap (is_sound_for x.header.report p) (value_constant x c w same) ∙ sound
  test_sound None p t (Some i) (source, is, at) h = absurd (cc is)
  test_sound (Some w) p t (Some i) (source, is, at) h =
      ap (is_sound_for x.header.report p) (value_referred x c w source few is) ∙ sym (sound_at i _ at) ∙ last_of IsSoundSegment t.segments (record { alone = t.rest; name = []; reference = i }) h

  unit_sound : (y : ValueType) (o : Option Written) (t : FrameValue) (test : Option ℕ)
      → MatchOption (unit_type y) (test ≡ None) (λ z. IsTest x.header (map key_of rs) o (WantedUnit z) test) → All IsSoundSegment (with_test t test).segments
      → lacks_unit x.header.report y (row_gives o) ≡ false
  unit_sound (item.Simple s) o t test h all = refl
  unit_sound item.Monetary o t test h all = not_true (lacks_unit x.header.report item.Monetary (row_gives o)) (test_sound o (WantedUnit item.Monetary) t test h all)
  unit_sound item.Shares o t test h all = not_true (lacks_unit x.header.report item.Shares (row_gives o)) (test_sound o (WantedUnit item.Shares) t test h all)
  unit_sound item.Text o t test h all = refl
  unit_sound item.Enumeration o t test h all = refl
  unit_sound item.Enumerations o t test h all = refl
  unit_sound item.Other o t test h all = refl

  period_sound : (wanted : Option PeriodType) (o : Option Written) (t : FrameValue) (test : Option ℕ)
      → MatchOption wanted (test ≡ None) (λ p. IsTest x.header (map key_of rs) o (WantedPeriod p (side_written o)) test) → All IsSoundSegment (with_test t test).segments
      → option_map_or (λ p. lacks_period p (side_written o) (row_gives o)) wanted false ≡ false
  period_sound None o t test h all = refl
  period_sound (Some p) o t test h all = not_true (lacks_period p (side_written o) (row_gives o)) (test_sound o (WantedPeriod p (side_written o)) t test h all)

  -- The unit and the period are those that the concept wants.
  pub nothing_wanted : (k : Kind) (t : FrameValue) (unit period : Option ℕ) → IsUnitTest x.header (map key_of rs) (levels (cell_in x c)) k unit
      → IsPeriodTest x.header (map key_of rs) (levels (cell_in x c)) k period → All IsSoundSegment (with_test (with_test t unit) period).segments → wanted_faults (cell_in x c) k ≡ []
  nothing_wanted (kind.Concept a) t unit period u p all =
      let of_unit = written (levels (cell_in x c)) (codes "unit") in
      let of_period = written (levels (cell_in x c)) (codes "period") in
      no_wanted (lacks_unit x.header.report a.value (row_gives of_unit)) (option_map_or (λ p. lacks_period p (side_written of_period) (row_gives of_period)) a.period false)
      (unit_sound a.value of_unit t unit u (test_kept (with_test t unit) period all))
      (period_sound a.period of_period (with_test t unit) period p all)
  nothing_wanted (kind.Number n) t unit period u p all = refl
  nothing_wanted kind.Text t unit period u p all = refl
  nothing_wanted kind.Boolean t unit period u p all = refl
  nothing_wanted kind.Date t unit period u p all = refl
  nothing_wanted kind.Name t unit period u p all = refl
  nothing_wanted kind.Other t unit period u p all = refl
  nothing_wanted kind.Explicit t unit period u p all = refl
  nothing_wanted kind.Typed t unit period u p all = refl
  nothing_wanted (kind.TypedBy s) t unit period u p all = refl
  nothing_wanted kind.Member t unit period u p all = refl

  -- DECIMALS

  -- The needed decimals have no fault and this text.
  pub record AreStated (o : Option WrittenDecimals) (text : List ℕ) : Type 0 where
    pub sound : stated_faults (stated_by (cell_in x c) o) ≡ []
    pub is : text ≡ decimals_text (option_and_then places (stated_accuracy (stated_by (cell_in x c) o)))

  stated_same : (w : WrittenDecimals) (s : Stated) (text : List ℕ) → stated_by (cell_in x c) (Some w) ≡ s → is_ok (stated_read s) ≡ true → text ≡ decimals_text (option_and_then places (stated_accuracy s))
      → AreStated (Some w) text
  stated_same w s text e sound is = record {
    sound = ap stated_faults e ∙ stated_sound s sound;
    is = is ∙ ap (λ q. decimals_text (option_and_then places (stated_accuracy q))) (sym e);
  }

  pub decimals_sound : (t : FrameValue) (o : Option WrittenDecimals) (d : FrameDecimals) → AreFrameDecimals x.header (map key_of rs) o t.settled d → has_decimals rs d ≡ true → AreStated o (frame_decimals rs t d)
  unfolding decimals_text
  decimals_sound t None decimals.Settled h k = record { sound = refl; is = h.0 }
  decimals_sound t None (decimals.Reference i) h k = absurd (cc (h.1))
  decimals_sound t None decimals.Unknown h k = absurd (cc k)
  decimals_sound t (Some w) decimals.Settled h k = stated_same w (constant_stated x.header w) t.settled (stated_constant x c w h.0) h.1.0 h.1.1
  decimals_sound t (Some w) (decimals.Reference i) (none, source, is, at) k =
      stated_same w (Read (meaning_of (source_text x source))) (given_by rs i) (stated_referred x c w source few is) (sym (sound_at i _ at) ∙ k) (given_at x c few rs fresh i _ at)
  decimals_sound t (Some w) decimals.Unknown h k = absurd (cc k)
