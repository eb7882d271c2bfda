-- The text that was written from a frame is that of the fact of its cell.
use Rattle.std.proofs.Common.{◌≡◌, ◌<◌, ◌^◌, ℕ, Bool, true, false, not, ◌&&◌, List, [], ◌++◌, map, Option, Some, None, Ok, codes, is_none, refl, sym, ap, subst, ◌∙◌, append_assoc}
use Rattle.std.specs.List.{All, flat_map}
use Rattle.std.specs.Option.{option_and_then, option_map_or}
use Rattle.std.specs.Prelude.{ℤ, if◌then◌else◌}
use Rattle.std.proofs.lemmas.Grind.{flat_map-append}
use Rattle.oim_cells.specs.declared.cells.Accuracy.{Accuracy}
use Rattle.oim_json.specs.JsonText.{decimals_text, dimension_text, escaped_byte, joined, member_text, quoted, value_text}
use Rattle.oim_report.specs.Readers.{table_of}
use Rattle.oim_report.specs.declared.kind.Kind.{Kind}
use Rattle.oim_resolve.specs.Cell.{Cell, column}
use Rattle.oim_resolve.specs.FactValues.{faults_in, suffix_given, text_in}
use Rattle.oim_resolve.specs.Facts.{cell_and_group_faults, cell_result, concept_faults, concept_kind, decimals_faults, dimension_entry, dimension_faults, fact_decimals, fact_meaning, fact_of, fact_value, given, is_absent, is_numeric}
use Rattle.oim_resolve.specs.Facts.{is_unknown, named_entry, places, rest_faults, stated, stated_accuracy, stated_faults, wanted_faults}
use Rattle.oim_resolve.specs.Faults.{least}
use Rattle.oim_resolve.proofs.Suffixes.{suffix_stated}
use Rattle.oim_resolve.specs.Written.{levels, names, written_decimals}
use Rattle.oim_resolve.specs.declared.fact.CellFault.{CellFault}
use Rattle.oim_fast.specs.state.CellValues.{IsValue}
use Rattle.oim_fast.specs.state.FactTexts.{are_sound_decimals, cut, frame_decimals, has_decimals, object_text, opening_decimals, value_of}
use Rattle.oim_fast.specs.state.Facts.{column_lead, fact_text, start_text}
use Rattle.oim_fast.specs.state.FrameTexts.{FrameValue, Segment, dimensions_start, frame_dimensions}
use Rattle.oim_fast.specs.state.Frames.{IsTextOf, no_dimensions, with_parts, with_test}
use Rattle.oim_fast.specs.state.Pieces.{AreSound, written_pieces}
use Rattle.oim_resolve.specs.state.ProgramLevels.{written_entries}
use Rattle.oim_row.specs.Answers.{kind_read}
use Rattle.oim_row.specs.References.{IsFresh, ReferenceValue, key_of}
use Rattle.oim_fast.specs.state.GivenTexts.{given_by, is_sound_by}
use Rattle.oim_row.specs.Rows.{RowValue, column_in, row_in}
use Rattle.oim_row.specs.state.Rows.{cell_in}
use Rattle.oim_fast.specs.declared.frame.value.Value.{Value}
use Rattle.oim_fast.proofs.FrameLaws.{parts_added, tests_added}
use Rattle.oim_fast.proofs.MemberLaws.{pieces_cut, written_pieces_are}
use Rattle.oim_fast.proofs.SoundLaws.{AreNamed, AreStated, IsRead, concept_sound, decimals_sound, nothing_wanted, parts_sound, sound_faults, test_kept}

-- THE RESULT OF A CELL WITHOUT FAULTS

no_first_faults : (c : Cell) → is_unknown (fact_meaning c) ≡ false → AreNamed c (column c).from → least (cell_and_group_faults c) ≡ None
no_first_faults c known h = rw (known, h.known, h.named) refl

no_rest_faults : (c : Cell) (k : Kind) → flat_map (dimension_faults c k) (names (levels c)) ≡ [] → decimals_faults c k ≡ [] → wanted_faults c k ≡ [] → faults_in (fact_value c k) ≡ [] → least (rest_faults c k) ≡ None
unfolding rest_faults
no_rest_faults c k d e w f = rw (d, e, w, f) refl

good : (c : Cell) → is_absent (fact_meaning c) ≡ false → least (cell_and_group_faults c) ≡ None → least (concept_faults c) ≡ None → least (rest_faults c (concept_kind c)) ≡ None
    → cell_result c ≡ Ok (Some (fact_of c))
unfolding cell_result
good c e a b d = rw (e, a, b, d) refl

-- A cell that is absent has no fact.
pub absent_given : (c : Cell) → is_absent (fact_meaning c) ≡ true → cell_result c ≡ Ok None
unfolding cell_result
absent_given c e = rw e refl

-- DECIMALS

none_looked_at : (b has : Bool) (faults : List CellFault) → (if b then has else true) ≡ true → (b ≡ true → has ≡ true → faults ≡ []) → (if b then faults else []) ≡ []
none_looked_at true has faults e h = h refl e
none_looked_at false has faults e h = refl

first_of : (a b c : Bool) → (a && b && c) ≡ true → a ≡ true
first_of true b c e = refl
first_of false b c e = absurd (cc e)

abbrev shown_by : Bool → Bool → Option Accuracy → List ℕ → List ℕ
shown_by number nil suffix text = if number && not nil then option_map_or (λ a. decimals_text (places a)) suffix text else []

abbrev given_by_suffix : Bool → Bool → Option Accuracy → Option Accuracy → Option ℤ
given_by_suffix number nil suffix stated = if number && not nil then option_and_then places (if is_none suffix then stated else suffix) else None

decimals_by : (number nil has : Bool) (suffix state : Option Accuracy) (text : List ℕ) → (if number && not nil && is_none suffix then has else true) ≡ true
    → (number ≡ true → has ≡ true → text ≡ decimals_text (option_and_then places state)) → shown_by number nil suffix text ≡ decimals_text (given_by_suffix number nil suffix state)
unfolding decimals_text
decimals_by false nil has suffix state text e h = refl
decimals_by true true has suffix state text e h = refl
decimals_by true false has (Some a) state text e h = refl
decimals_by true false has None state text e h = h refl e

-- THE TEXT

id_text : (a b : List ℕ) → quoted (a ++ codes "." ++ b) ≡ codes "\"" ++ (flat_map escaped_byte a ++ flat_map escaped_byte (codes "." ++ b)) ++ codes "\""
unfolding quoted
id_text a b = ap (λ t. codes "\"" ++ t ++ codes "\"") (ap (flat_map escaped_byte) (append_assoc a (codes ".") b) ∙ flat_map-append escaped_byte a (codes "." ++ b))

in_pieces : (comma quote colon x y q a o b v z : List ℕ)
    → ((comma ++ quote) ++ x) ++ (((((((y ++ (quote ++ colon)) ++ q) ++ a) ++ o) ++ b) ++ v) ++ z)
    ≡ comma ++ (((((((((quote ++ (x ++ y)) ++ quote) ++ colon) ++ q) ++ a) ++ o) ++ b) ++ v) ++ z)
in_pieces comma quote colon x y q a o b v z = simp append_assoc

module _ (x : RowValue) (c : ℕ) where
  abbrev cell : Cell
  cell = cell_in x c

  member_found : (decimals dimensions value : List ℕ) → decimals ≡ decimals_text (fact_of cell).decimals → dimensions ≡ joined (map dimension_text (fact_of cell).dimensions)
      → value ≡ value_text (fact_of cell).value
      → start_text x ++ (column_lead x.header c ++ decimals ++ dimensions_start ++ dimensions ++ codes "},\"value\":" ++ value ++ codes "}") ≡ fact_text (Some (fact_of cell))
  unfolding member_text fact_of
  member_found decimals dimensions value ed es ev =
      let table = (table_of x.header.report x.header.table).id ++ codes "." ++ (row_in x).id in
      let name = flat_map escaped_byte (codes "." ++ (column_in x.header c).id) in
      in_pieces (codes ",") (codes "\"") (codes ":{") (flat_map escaped_byte table) name decimals dimensions_start dimensions (codes "},\"value\":") value (codes "}")
      ∙ ap (λ q. codes "," ++ (q ++ codes ":{" ++ decimals ++ dimensions_start ++ dimensions ++ codes "},\"value\":" ++ value ++ codes "}")) (sym (id_text table (column_in x.header c).id))
      ∙ ap (λ q. codes "," ++ (quoted (fact_of cell).id ++ codes ":{" ++ q ++ dimensions_start ++ dimensions ++ codes "},\"value\":" ++ value ++ codes "}")) ed
      ∙ ap (λ q. codes "," ++ (quoted (fact_of cell).id ++ codes ":{" ++ decimals_text (fact_of cell).decimals ++ dimensions_start ++ q ++ codes "},\"value\":" ++ value ++ codes "}")) es
      ∙ ap (λ q. codes "," ++ (quoted (fact_of cell).id ++ codes ":{" ++ decimals_text (fact_of cell).decimals ++ dimensions_start ++ joined (map dimension_text (fact_of cell).dimensions) ++ codes "},\"value\":" ++ q ++ codes "}")) ev

-- THE FACT

module _ (x : RowValue) (c : ℕ) (few : x.number < 2 ^ 32) (rs : List ReferenceValue) (fresh : All (IsFresh x) rs) (t : FrameValue) (v : Value)
    (text : IsTextOf x.header (map key_of rs) (levels (cell_in x c)) (column_lead x.header c) t)
    (concept : kind_read x.header.report (given (cell_in x c) (codes "concept")) ≡ Some t.kind)
    (value : IsValue x.header.report t.kind (fact_meaning (cell_in x c)) v)
    (dimensions : All (λ (s : Segment). is_sound_by rs s.reference ≡ true) t.segments)
    (decimals : are_sound_decimals rs t v ≡ true) where
  abbrev here : Cell
  here = cell_in x c

  concept_is : IsRead (least (concept_faults here)) (concept_kind here) t.kind
  concept_is = concept_sound (least (concept_faults here)) (concept_kind here) t.kind concept

  kind : t.kind ≡ concept_kind here
  kind = concept_is.kind

  abbrev bare : FrameValue
  bare = no_dimensions t.kind t.lead t.settled t.decimals

  abbrev whole : FrameValue
  whole = with_parts bare text.parts

  all_sound : All (λ (s : Segment). is_sound_by rs s.reference ≡ true) (with_test (with_test whole text.unit) text.period).segments
  all_sound = subst (λ (q : FrameValue). All (λ (s : Segment). is_sound_by rs s.reference ≡ true) q.segments) text.text dimensions

  dimensions_sound : AreSound here t.kind (written_entries (levels here))
  dimensions_sound =
      subst (AreSound here t.kind) text.entries
      (parts_sound x c few rs fresh bare text.parts text.are text.ready (test_kept x c few rs fresh whole text.unit (test_kept x c few rs fresh (with_test whole text.unit) text.period all_sound)))

  given_value : fact_value here t.kind ≡ Ok (record { text = value_of v; accuracy = v.accuracy })
  given_value = value.given

  suffix : suffix_given t.kind (fact_meaning here) ≡ v.accuracy
  suffix = suffix_stated x.header.report t.kind (fact_meaning here) _ given_value

  stated_here : is_numeric t.kind ≡ true → has_decimals rs t.decimals ≡ true → AreStated x c few rs fresh (written_decimals (levels here)) (frame_decimals rs t t.decimals)
  stated_here number has = decimals_sound x c few rs fresh t (written_decimals (levels here)) t.decimals (text.decimals.numbers number) has

  no_decimals_faults : decimals_faults here t.kind ≡ []
  no_decimals_faults =
      rw (suffix, ← value.nil) (none_looked_at (is_numeric t.kind && not v.is_nil && is_none v.accuracy) (has_decimals rs t.decimals) (stated_faults (stated here)) decimals
      (λ b has. (stated_here (first_of (is_numeric t.kind) (not v.is_nil) (is_none v.accuracy) b) has).sound))

  rest : least (rest_faults here t.kind) ≡ None
  rest = no_rest_faults here t.kind (sound_faults here t.kind (names (levels here)) dimensions_sound) no_decimals_faults (nothing_wanted x c few rs fresh t.kind whole text.unit text.period text.has_unit text.has_period all_sound) (ap faults_in given_value)

  -- The cell has no fault in its concept or in what follows it.
  pub fact_given : is_unknown (fact_meaning here) ≡ false → AreNamed here (column here).from → cell_result here ≡ Ok (Some (fact_of here))
  fact_given known named = good here value.said (no_first_faults here known named) concept_is.none (subst (λ (k : Kind). least (rest_faults here k) ≡ None) kind rest)

  decimals_are : opening_decimals rs t v ≡ decimals_text (fact_decimals here t.kind)
  decimals_are =
      decimals_by (is_numeric t.kind) v.is_nil (has_decimals rs t.decimals) v.accuracy (stated_accuracy (stated here)) (frame_decimals rs t t.decimals) decimals
      (λ number has. (stated_here number has).is)
      ∙ rw (suffix, ← value.nil) refl

  dimensions_are : cut (frame_dimensions (given_by rs) t) ≡ joined (map dimension_text (flat_map (λ n. named_entry n (dimension_entry here t.kind n)) (names (levels here))))
  dimensions_are =
      ap (λ (q : FrameValue). cut (frame_dimensions (given_by rs) q)) text.text
      ∙ ap cut (tests_added x c few rs fresh (levels here) t.kind whole text.unit text.period text.has_unit text.has_period)
      ∙ ap cut (parts_added x c few rs fresh bare text.parts text.are text.ready ∙ ap (written_pieces here t.kind) text.entries ∙ written_pieces_are here t.kind)
      ∙ pieces_cut (flat_map (λ n. named_entry n (dimension_entry here t.kind n)) (names (levels here)))

  value_is : value_text (value_of v) ≡ value_text (text_in (fact_value here t.kind))
  value_is = ap value_text (sym (ap text_in given_value))

  pub text_given : start_text x ++ object_text rs t v ≡ fact_text (Some (fact_of here))
  unfolding fact_of
  text_given =
      ap (λ q. start_text x ++ (q ++ opening_decimals rs t v ++ dimensions_start ++ cut (frame_dimensions (given_by rs) t) ++ codes "},\"value\":" ++ value_text (value_of v) ++ codes "}")) text.lead
      ∙ member_found x c (opening_decimals rs t v) (cut (frame_dimensions (given_by rs) t)) (value_text (value_of v))
      (decimals_are ∙ ap (λ k. decimals_text (fact_decimals here k)) kind)
      (dimensions_are ∙ ap (λ (k : Kind). joined (map dimension_text (flat_map (λ n. named_entry n (dimension_entry here k n)) (names (levels here))))) kind)
      (value_is ∙ ap (λ (k : Kind). value_text (text_in (fact_value here k))) kind)
