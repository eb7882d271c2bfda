-- The dimensions of a frame in a row are those that its levels write.
use Rattle.std.proofs.Common.{◌≡◌, ◌<◌, ◌^◌, ℕ, suc, Bool, true, false, List, [], ◌∷◌, ◌++◌, length, map, codes, Option, Some, None, refl, sym, ap, subst, ◌∙◌, append_assoc, append-nil, arith}
use Rattle.std.specs.List.{All, flat_map}
use Rattle.std.specs.Option.{option_to_list}
use Rattle.std.specs.Prelude.{MatchOption, if◌then◌else◌, reverse}
use Rattle.oim_cells.specs.Cells.{Meaning, meaning_of}
use Rattle.oim_json.specs.JsonText.{dimension_text, quoted, value_text}
use Rattle.oim_report.specs.ReportValue.{ReportValue}
use Rattle.oim_report.specs.declared.data.Level.{Level}
use Rattle.oim_report.specs.declared.data.Written.{Written}
use Rattle.oim_report.specs.declared.kind.Kind.{Kind}
use Rattle.oim_report.specs.Readers.{template_of}
use Rattle.oim_resolve.specs.Facts.{is_dropped}
use Rattle.oim_resolve.specs.Values.{side_of, value}
use Rattle.oim_resolve.specs.Written.{group_named, group_of_cell, levels, written}
use Rattle.oim_rows.specs.RowFacts.{TableHeaderValue}
use Rattle.oim_row.specs.Answers.{dimension_json, json_for}
use Rattle.oim_fast.specs.state.FrameTexts.{FrameValue, Segment, frame_dimensions, segment_text, with_part, with_value}
use Rattle.oim_fast.specs.state.Frames.{Chooses, IsPeriodTest, IsTest, IsTextOf, IsUnitTest, are_ready, entry_of, groups_chosen, is_known_choice, levels_chosen, no_dimensions, period_wanted, side_written, unit_wanted, with_parts, with_test}
use Rattle.oim_row.specs.Groups.{Says, group_at}
use Rattle.oim_fast.specs.state.FrameParts.{IsPart, IsPartValue}
use Rattle.oim_fast.specs.state.Pieces.{behind, dimension_piece, name_text, written_pieces}
use Rattle.oim_row.specs.References.{IsFresh, Key, ReferenceValue, key_of}
use Rattle.oim_fast.specs.state.GivenTexts.{given_by}
use Rattle.oim_row.specs.Rows.{RowValue, column_in, columns_in}
use Rattle.oim_row.specs.state.Rows.{cell_in}
use Rattle.oim_fast.specs.declared.frame.part.FramePart.{FramePart}
use Rattle.oim_fast.specs.declared.frame.part.PartValue.{PartValue}
use Rattle.oim_fast.specs.declared.frame.part.PartValue.TheVariants as part
use Rattle.oim_row.specs.declared.group_cells.Choice.{Choice}
use Rattle.oim_row.specs.declared.group_cells.Choice.TheVariants as choice
use Rattle.oim_row.specs.declared.purpose.Purpose.{Purpose}
use Rattle.oim_row.specs.declared.purpose.Purpose.TheVariants.{WantedPeriod, WantedUnit}
use Rattle.oim_row.specs.Sources.{source_text}
use Rattle.std.proofs.lemmas.Grind.{flat_map-append}
use Rattle.std.proofs.lemmas.Option.{slice_get_within}
use Rattle.oim_row.proofs.Growth.{all_push}
use Rattle.oim_fast.proofs.PieceLaws.{given_at, part_added}
use Rattle.oim_fast.proofs.RowLaws.{text_is}

-- A PART KEEPS THE KIND

by_value : (t : FrameValue) (text : List ℕ) (v : PartValue) → (with_value t text v).kind ≡ t.kind
by_value t text part.Nothing = refl
by_value t text part.Text = refl
by_value t text (part.Reference i) = refl
by_value t text part.Unknown = refl

pub kind_kept : (t : FrameValue) (p : FramePart) → (with_part t p).kind ≡ t.kind
kind_kept t p = by (is_dropped t.kind p.role)
  where
    by : (b : Bool) → (if b then t else with_value t p.text.items p.value).kind ≡ t.kind
    by true = refl
    by false = by_value t p.text.items p.value

-- ALL PARTS

module _ (x : RowValue) (c : ℕ) (few : x.number < 2 ^ 32) (rs : List ReferenceValue) (fresh : All (IsFresh x) rs) where
  pub parts_added : (t : FrameValue) (ps : List FramePart) → All (IsPart x.header (map key_of rs)) ps → are_ready t ps
      → frame_dimensions (given_by rs) (with_parts t ps) ≡ frame_dimensions (given_by rs) t ++ written_pieces (cell_in x c) t.kind (map entry_of ps)
  parts_added t [] are ready = sym (append-nil (frame_dimensions (given_by rs) t))
  parts_added t (p ∷ ps) are ready =
      let one : IsPart x.header (map key_of rs) p = are 0 p (omega arith) in
      let before = frame_dimensions (given_by rs) t in
      let piece = dimension_piece x.header.report t.kind p.name.now (side_of p.written.now) (value (cell_in x c) p.written.now) in
      parts_added (with_part t p) ps (λ k d lt. are (suc k) d (omega arith)) ready.1
      ∙ ap (λ q. q ++ written_pieces (cell_in x c) (with_part t p).kind (map entry_of ps)) (part_added x c few rs fresh t p one ready.0)
      ∙ ap (λ (k : Kind). (before ++ piece) ++ written_pieces (cell_in x c) k (map entry_of ps)) (kind_kept t p)
      ∙ append_assoc before piece (written_pieces (cell_in x c) t.kind (map entry_of ps))

  -- A test adds no text.
  pub test_added : (t : FrameValue) (o : Option Written) (p : Purpose) (test : Option ℕ) → ((r : ReportValue) (v : Meaning) → json_for r p v ≡ []) → IsTest x.header (map key_of rs) o p test
      → frame_dimensions (given_by rs) (with_test t test) ≡ frame_dimensions (given_by rs) t
  test_added t o p None none h = refl
  test_added t o p (Some i) none (source, is, at) =
      let all = flat_map (segment_text (given_by rs)) t.segments in
      let last : Segment = record { alone = t.rest; name = []; reference = i } in
      let nothing : given_by rs i ≡ [] = given_at x c few rs fresh i _ at ∙ none x.header.report (meaning_of (source_text x source)) in
      append-nil (flat_map (segment_text (given_by rs)) (t.segments ++ last ∷ []))
      ∙ flat_map-append (segment_text (given_by rs)) t.segments (last ∷ [])
      ∙ ap (λ q. all ++ q) (append-nil (segment_text (given_by rs) last) ∙ ap (λ q. t.rest ++ behind [] q) nothing ∙ append-nil t.rest)

  wanted_added : {A : Type 0} (wanted : Option A) (t : FrameValue) (o : Option Written) (purpose : A → Purpose) (test : Option ℕ) → ((y : A) (r : ReportValue) (v : Meaning) → json_for r (purpose y) v ≡ [])
      → MatchOption wanted (test ≡ None) (λ y. IsTest x.header (map key_of rs) o (purpose y) test) → frame_dimensions (given_by rs) (with_test t test) ≡ frame_dimensions (given_by rs) t
  wanted_added None t o purpose test none h = ap (λ q. frame_dimensions (given_by rs) (with_test t q)) h
  wanted_added (Some y) t o purpose test none h = test_added t o (purpose y) test (none y) h

  pub tests_added : (ls : List Level) (k : Kind) (t : FrameValue) (unit period : Option ℕ) → IsUnitTest x.header (map key_of rs) ls k unit → IsPeriodTest x.header (map key_of rs) ls k period
      → frame_dimensions (given_by rs) (with_test (with_test t unit) period) ≡ frame_dimensions (given_by rs) t
  tests_added ls k t unit period u p =
      wanted_added (period_wanted k) (with_test t unit) (written ls (codes "period")) (λ q. WantedPeriod q (side_written (written ls (codes "period")))) period (λ q r v. refl) p
      ∙ wanted_added (unit_wanted k) t (written ls (codes "unit")) WantedUnit unit (λ y r v. refl) u

-- THE LEVELS

module _ (x : RowValue) (c : ℕ) where
  said : (col : ℕ) (v : Meaning) (o : Choice) → Says (column_in x.header col) v o → ((o ≡ choice.Unknown) → ⊥) → group_named (column_in x.header col) v ≡ group_at (column_in x.header col).groups o
  said col v choice.Nothing h known = h.group
  said col v (choice.Group g) h known = h.group
  said col v choice.Unknown h known = absurd (known refl)

  known : (o : Choice) → is_known_choice o ≡ true → (o ≡ choice.Unknown) → ⊥
  known o e is = absurd (cc (ap is_known_choice (sym is) ∙ e))

  -- The groups that a row's cells name are the chosen ones.
  groups_are : (gs : List ℕ) (os : List Choice) → All (λ g. g < length (columns_in x.header)) gs → Chooses x gs os
      → flat_map (λ g. option_to_list (group_of_cell (cell_in x c) g)) gs ≡ groups_chosen x.header gs os
  groups_are [] [] within h = refl
  groups_are [] (o ∷ os) within h = absurd h
  groups_are (g ∷ gs) [] within h = absurd h
  groups_are (g ∷ gs) (o ∷ os) within h =
      let text = text_is x c g (within 0 g (omega arith)) in
      let one = ap (λ t. group_named (column_in x.header g) (meaning_of t)) text ∙ said g _ o h.1 (known o h.0) in
      ap (λ q. option_to_list q ++ flat_map (λ k. option_to_list (group_of_cell (cell_in x c) k)) gs) one
      ∙ ap (λ q. option_to_list (group_at (column_in x.header g).groups o) ++ q) (groups_are gs os (λ k d lt. within (suc k) d (omega arith)) h.2)

  pub levels_are : (os : List Choice) → All (λ g. g < length (columns_in x.header)) (column_in x.header c).from → Chooses x (column_in x.header c).from os
      → levels (cell_in x c) ≡ levels_chosen x.header c os
  levels_are os within h =
      ap (λ gs. x.header.report.level ∷ (template_of x.header.report x.header.table).level ∷ (reverse gs ++ (column_in x.header c).level ∷ [])) (groups_are (column_in x.header c).from os within h)

-- ONE DIMENSION

-- A dimension with a comma after it.
pub piece_text : (n : List ℕ) (v : Option (List ℕ)) → behind (name_text n) (dimension_json (Some v)) ≡ dimension_text (n, v) ++ codes ","
unfolding dimension_text value_text quoted
piece_text n None = sym (append_assoc (name_text n) (codes "null") (codes ","))
piece_text n (Some t) = sym (append_assoc (name_text n) (quoted t) (codes ","))

-- THE REFERENCES OF A FRAME

module _ (f : TableHeaderValue) (keys : List Key) where
  abbrev within : Segment → Type 0
  within s = s.reference < length keys

  value_within : (t : FrameValue) (n : List ℕ) (w : Written) (text : List ℕ) (v : PartValue) → IsPartValue f keys n w text v → All within t.segments → All within (with_value t text v).segments
  value_within t n w text part.Nothing is all = all
  value_within t n w text part.Text is all = all
  value_within t n w text (part.Reference i) is all = all_push within t.segments (record { alone = t.rest; name = text; reference = i }) all (slice_get_within keys i _ is.0.there)
  value_within t n w text part.Unknown is all = all

  part_within : (t : FrameValue) (p : FramePart) → IsPart f keys p → All within t.segments → All within (with_part t p).segments
  part_within t p is all = by (is_dropped t.kind p.role)
    where
      by : (b : Bool) → All within (if b then t else with_value t p.text.items p.value).segments
      by true = all
      by false = value_within t p.name.now p.written.now p.text.items p.value is.value all

  parts_within : (t : FrameValue) (ps : List FramePart) → All (IsPart f keys) ps → All within t.segments → All within (with_parts t ps).segments
  parts_within t [] are all = all
  parts_within t (p ∷ ps) are all = parts_within (with_part t p) ps (λ k d lt. are (suc k) d (omega arith)) (part_within t p (are 0 p (omega arith)) all)

  test_within : (t : FrameValue) (o : Option Written) (p : Purpose) (test : Option ℕ) → IsTest f keys o p test → All within t.segments → All within (with_test t test).segments
  test_within t o p None h all = all
  test_within t o p (Some i) (source, is, at) all = all_push within t.segments (record { alone = t.rest; name = []; reference = i }) all (slice_get_within keys i _ at)

  wanted_within : {A : Type 0} (wanted : Option A) (t : FrameValue) (o : Option Written) (purpose : A → Purpose) (test : Option ℕ)
      → MatchOption wanted (test ≡ None) (λ y. IsTest f keys o (purpose y) test) → All within t.segments → All within (with_test t test).segments
  wanted_within None t o purpose test h all = subst (λ (q : Option ℕ). All within (with_test t q).segments) (sym h) all
  wanted_within (Some y) t o purpose test h all = test_within t o (purpose y) test h all

  none_within : All within []
  none_within k d lt = absurd (omega arith)

  -- Each is in the table's list.
  pub references_within : (ls : List Level) (lead : List ℕ) (t : FrameValue) → IsTextOf f keys ls lead t → All (λ s. s.reference < length keys) t.segments
  references_within ls lead t h =
      let bare = with_parts (no_dimensions t.kind t.lead t.settled t.decimals) h.parts in
      let period = written ls (codes "period") in
      subst (λ (q : FrameValue). All within q.segments) (sym h.text)
      (wanted_within (period_wanted t.kind) (with_test bare h.unit) period (λ p. WantedPeriod p (side_written period)) h.period h.has_period
      (wanted_within (unit_wanted t.kind) bare (written ls (codes "unit")) WantedUnit h.unit h.has_unit
      (parts_within (no_dimensions t.kind t.lead t.settled t.decimals) h.parts h.are none_within)))
