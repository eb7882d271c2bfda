-- Worked texts of facts, of the head and of documents (xBRL-JSON 1.0).
use Rattle.std.proofs.Common.{◌≡◌, ◌∙◌, ◌<◌, ℕ, suc, List, Result, [], ◌∷◌, ◌++◌, Some, None, Ok, Err, true, false, ap, arith, length, sym, refl, codes, negsuc}
use Rattle.std.specs.List.{list_all}
use Rattle.std.specs.Str.{bytes_eq}
use Rattle.std.specs.Fmt.{digits}
use Rattle.oim_report.specs.ReportValue.{ReportValue}
use Rattle.oim_resolve.specs.FactParts.{FactParts as Fact}
use Rattle.oim_json.specs.Blocks.{behind_commas, ends_from}
use Rattle.oim_json.specs.Document.{members, more_members, piece, tail_text, text_after}
use Rattle.oim_json.specs.state.Writing.{has_any, is_unescaped, comma_before}
use Rattle.oim_json.specs.FaultNames.{number_of, name_of}
use Rattle.oim_json.specs.JsonText.{escaped_byte, quoted, value_text, dimension_text, decimals_text, member_text, namespace_text, base_url_text, head_text}
use Rattle.oim_json.specs.Lines.{cut_at_line_feeds, with_commas}
use Rattle.oim_json.specs.Sinks.{SinkView, WritesAll, WritesSome, mark_of, sink_at}
use Rattle.oim_json.specs.declared.layout.Layout.TheVariants.{Compact, Lines}
use Rattle.oim_json.specs.declared.mark.Mark.TheVariants as marks
use Rattle.oim_json.specs.declared.mark.WriteFault.{WriteFault}
use Rattle.oim_json.specs.declared.mark.WriteFault.TheVariants as faults

cash : Fact
cash =
    record {
      id = codes "t1.r_1.cash";
      value = Some (codes "100");
      decimals = None;
      dimensions =
          (codes "concept", Some (codes "eg:Cash")) ∷ (codes "entity", Some (codes "eg:A1"))
          ∷ (codes "period", Some (codes "2021-01-01T00:00:00/2022-01-01T00:00:00")) ∷ (codes "unit", Some (codes "iso4217:EUR")) ∷ [];
    }

cash_text : member_text cash
    ≡ codes "\"t1.r_1.cash\":{\"dimensions\":{\"concept\":\"eg:Cash\",\"entity\":\"eg:A1\",\"period\":\"2021-01-01T00:00:00/2022-01-01T00:00:00\",\"unit\":\"iso4217:EUR\"},\"value\":\"100\"}"
unfolding cash escaped_byte quoted value_text dimension_text decimals_text member_text
cash_text = refl

note : Fact
note =
    record {
      id = codes "t1.r_1.note";
      value = Some (codes "first");
      decimals = None;
      dimensions =
          (codes "concept", Some (codes "eg:Note")) ∷ (codes "entity", Some (codes "eg:A1"))
          ∷ (codes "period", Some (codes "2021-01-01T00:00:00/2022-01-01T00:00:00")) ∷ [];
    }

note_text : member_text note ≡ codes "\"t1.r_1.note\":{\"dimensions\":{\"concept\":\"eg:Note\",\"entity\":\"eg:A1\",\"period\":\"2021-01-01T00:00:00/2022-01-01T00:00:00\"},\"value\":\"first\"}"
unfolding note escaped_byte quoted value_text dimension_text decimals_text member_text
note_text = refl

-- Decimals below zero, a nil value and a nil dimension.
other : Fact
other = record { id = codes "a.1.b"; value = None; decimals = Some (negsuc 1); dimensions = (codes "eg:Branch", None) ∷ [] }

other_text : member_text other ≡ codes "\"a.1.b\":{\"decimals\":-2,\"dimensions\":{\"eg:Branch\":null},\"value\":null}"
unfolding digits other escaped_byte quoted value_text dimension_text decimals_text member_text
other_text = refl

-- What is escaped.
escapes : quoted (codes "say \"hi\" \\" ++ 10 ∷ 195 ∷ 169 ∷ 1 ∷ []) ≡ codes "\"say \\\"hi\\\" \\\\\\n" ++ 195 ∷ 169 ∷ codes "\\u0001\""
unfolding escaped_byte quoted
escapes = refl

-- Control characters, by their short forms or by four digits. The blank and the byte 127 need no
-- escape.
controls : quoted (8 ∷ 9 ∷ 12 ∷ 13 ∷ 16 ∷ 31 ∷ 32 ∷ 127 ∷ []) ≡ codes "\"\\b\\t\\f\\r\\u0010\\u001f " ++ 127 ∷ codes "\""
unfolding escaped_byte quoted
controls = refl

base_url : (base_url_text (Some (codes "http://example.com/")) ≡ codes "\"baseURL\":\"http://example.com/\",") × (base_url_text None ≡ [])
unfolding escaped_byte quoted base_url_text
base_url = (refl, refl)

sample : ReportValue
sample =
    record {
      info = record { base_url = None; taxonomy = codes "http://example.com/eg.xsd" ∷ [] };
      namespaces =
          (codes "eg", codes "http://example.com/eg") ∷ (codes "iso4217", codes "http://www.xbrl.org/2003/iso4217")
          ∷ (codes "xbrli", codes "http://www.xbrl.org/2003/instance") ∷ [];
      types = [];
      level = record { dimensions = []; decimals = None };
      templates = [];
      tables = [];
      parameters = [];
    }

sample_head : head_text sample
    ≡ codes "{\"documentInfo\":{\"documentType\":\"https://xbrl.org/2021/xbrl-json\",\"namespaces\":{\"eg\":\"http://example.com/eg\","
    ++ codes "\"iso4217\":\"http://www.xbrl.org/2003/iso4217\",\"xbrli\":\"http://www.xbrl.org/2003/instance\"},\"taxonomy\":[\"http://example.com/eg.xsd\"]},\"facts\":{"
unfolding sample escaped_byte quoted namespace_text base_url_text head_text
sample_head = refl

-- Bytes that need no escape, non-ASCII ones too, and those that do: a quote, a backslash, a line
-- feed.
stands_for_itself : list_all is_unescaped (codes "a b/9é~") ≡ true
stands_for_itself = refl

quote_escaped : list_all is_unescaped (codes "a\"b") ≡ false
quote_escaped = refl

backslash_escaped : list_all is_unescaped (codes "a\\b") ≡ false
backslash_escaped = refl

line_feed_escaped : list_all is_unescaped (codes "a\nb") ≡ false
line_feed_escaped = refl

last_control_escaped : list_all is_unescaped (31 ∷ []) ≡ false
last_control_escaped = refl

-- The text after the facts, and the text before facts that follow others.
tail : (tail_text Compact ≡ codes "}}" ++ 10 ∷ []) × (tail_text Lines ≡ 10 ∷ codes "}}" ++ 10 ∷ [])
tail = (refl, refl)

commas : (piece true (codes "a") ≡ codes ",a") × (piece false (codes "a") ≡ codes "a") × (comma_before 0 ≡ []) × (comma_before 2 ≡ codes ",")
commas = (refl, refl, refl, refl)

-- The faults of a write, and the mark that each leaves.
write_faults : (number_of faults.Failed ≡ 63) × (number_of faults.Zero ≡ 64) × (name_of faults.Failed ≡ codes "Failed") × (name_of faults.Zero ≡ codes "Zero")
write_faults = (refl, refl, refl, refl)

fault_marks : (mark_of faults.Failed ≡ marks.Failed) × (mark_of faults.Zero ≡ marks.Zero)
fault_marks = (refl, refl)

-- Two facts in a block: each after a comma, and where each ends.
brief : Fact
brief = record { id = codes "a"; value = None; decimals = None; dimensions = [] }

brief_texts : behind_commas (brief ∷ brief ∷ []) ≡ codes ",\"a\":{\"dimensions\":{},\"value\":null},\"a\":{\"dimensions\":{},\"value\":null}"
unfolding behind_commas brief escaped_byte quoted value_text decimals_text member_text
brief_texts = refl

brief_ends : ends_from 0 (brief ∷ brief ∷ []) ≡ 35 ∷ 70 ∷ []
unfolding ends_from brief escaped_byte quoted value_text decimals_text member_text
brief_ends = refl

-- DOCUMENTS

compact_document : text_after Compact (codes "{") (brief ∷ brief ∷ []) ++ tail_text Compact ≡ codes "{\"a\":{\"dimensions\":{},\"value\":null},\"a\":{\"dimensions\":{},\"value\":null}}}\n"
unfolding members brief escaped_byte quoted value_text decimals_text member_text
compact_document = refl

-- A line feed is directly after the head, after each comma and before the closing braces.
document_in_lines : text_after Lines (codes "{") (brief ∷ brief ∷ []) ++ tail_text Lines ≡ codes "{\n\"a\":{\"dimensions\":{},\"value\":null},\n\"a\":{\"dimensions\":{},\"value\":null}\n}}\n"
unfolding members brief escaped_byte quoted value_text decimals_text member_text
document_in_lines = refl

-- The closing braces are on a line of their own, even without members.
no_members_in_lines : text_after Lines (codes "{") [] ++ tail_text Lines ≡ codes "{\n}}\n"
unfolding members
no_members_in_lines = refl

no_members_compact : text_after Compact (codes "{") [] ++ tail_text Compact ≡ codes "{}}\n"
unfolding members
no_members_compact = refl

-- An unfinished document ends with its last member.
unfinished_in_lines : text_after Lines (codes "{") (brief ∷ []) ≡ codes "{\n\"a\":{\"dimensions\":{},\"value\":null}"
unfolding members brief escaped_byte quoted value_text decimals_text member_text
unfinished_in_lines = refl

-- Members after others.
more_in_lines : more_members Lines true (brief ∷ []) ≡ codes ",\n\"a\":{\"dimensions\":{},\"value\":null}"
unfolding brief escaped_byte quoted value_text decimals_text member_text
more_in_lines = refl

-- The first of two has no comma if nothing precedes it, and the second has one.
two_members : more_members Compact false (brief ∷ brief ∷ []) ≡ codes "\"a\":{\"dimensions\":{},\"value\":null},\"a\":{\"dimensions\":{},\"value\":null}"
unfolding brief escaped_byte quoted value_text decimals_text member_text
two_members = refl

has_members : (has_any false [] ≡ false) × (has_any true [] ≡ true) × (has_any false (brief ∷ []) ≡ true)
has_members = (refl, refl, refl)

-- Cut at its line feeds, it gives the head, each member with its comma, the closing braces, and
-- nothing after the last line feed.
lines_cut : cut_at_line_feeds (codes "{\n\"a\":1,\n\"b\":2\n}}\n") ≡ codes "{" ∷ codes "\"a\":1," ∷ codes "\"b\":2" ∷ codes "}}" ∷ [] ∷ []
lines_cut = refl

members_with_commas : with_commas (codes "\"a\":1" ∷ codes "\"b\":2" ∷ codes "\"c\":3" ∷ []) ≡ codes "\"a\":1," ∷ codes "\"b\":2," ∷ codes "\"c\":3" ∷ []
members_with_commas = refl

-- ONE WRITE of three bytes to a sink that holds two: it took the bytes that it returned, and kept
-- its mark.
abbrev holding : List ℕ → SinkView
holding bs = sink_at marks.Fine (Some bs)

differ : (a b : List ℕ) → bytes_eq a b ≡ false → bytes_eq a a ≡ true → a ≡ b → ⊥
differ a b apart same e = let t : true ≡ false = sym same ∙ ap (bytes_eq a) e ∙ apart in cc

abbrev writes_some : Result ℕ ℕ → SinkView → Type 0
writes_some r new = WritesSome (holding (codes "ab")) new r (codes "cde")

two_bytes_taken : writes_some (Ok 2) (holding (codes "abcd"))
two_bytes_taken = (omega arith, (λ none. absurd (omega (arith, none))), λ some. (refl, refl))

all_bytes_taken : writes_some (Ok 3) (holding (codes "abcde"))
all_bytes_taken = (omega arith, (λ none. absurd (omega (arith, none))), λ some. (refl, refl))

one_byte_not_told : writes_some (Ok 1) (holding (codes "abcd")) → ⊥
one_byte_not_told it = differ (codes "abcd") (codes "abc") refl refl (it.2 (omega arith)).1

last_bytes_taken : writes_some (Ok 2) (holding (codes "abde")) → ⊥
last_bytes_taken it = differ (codes "abde") (codes "abcd") refl refl (it.2 (omega arith)).1

more_than_all_taken : (new : SinkView) → writes_some (Ok 4) new → ⊥
more_than_all_taken new it = absurd (omega (arith, it.0))

marked_though_taken : writes_some (Ok 2) (sink_at marks.Failed (Some (codes "abcd"))) → ⊥
marked_though_taken it = absurd (cc (it.2 (omega arith)).0)

-- A write that returns 0 leaves its mark, and so does one that fails. Neither took a byte.
nothing_taken : writes_some (Ok 0) (sink_at marks.Zero (Some (codes "ab")))
nothing_taken = (omega arith, (λ none. (refl, refl)), λ some. absurd (omega (arith, some)))

nothing_taken_unseen : writes_some (Ok 0) (holding (codes "ab")) → ⊥
nothing_taken_unseen it = absurd (cc (it.1 refl).0)

write_failed : writes_some (Err 5) (sink_at marks.Failed (Some (codes "ab")))
write_failed = (refl, refl)

write_failed_unseen : writes_some (Err 5) (holding (codes "ab")) → ⊥
write_failed_unseen it = absurd (cc it.0)

taken_and_failed : writes_some (Err 5) (sink_at marks.Failed (Some (codes "abc"))) → ⊥
taken_and_failed it = differ (codes "abc") (codes "ab") refl refl it.1

-- A sink whose bytes were known keeps them known. If they were not, only the mark is known.
tells_no_longer : writes_some (Ok 2) (sink_at marks.Fine None) → ⊥
tells_no_longer it = (it.2 (omega arith)).1

never_told : WritesSome {E = ℕ} (sink_at marks.Fine None) (sink_at marks.Fine None) (Ok 2) (codes "cde")
never_told = (omega arith, (λ none. absurd (omega (arith, none))), λ some. (refl, tt))

-- A WHOLE TEXT: all of it, or a proper prefix and the mark of the fault.
abbrev writes_all : Result (Unit {0}) WriteFault → SinkView → Type 0
writes_all r new = WritesAll (holding (codes "ab")) new r (codes "cde")

text_written : writes_all (Ok tt) (holding (codes "abcde"))
text_written = (refl, refl)

last_byte_lost : writes_all (Ok tt) (holding (codes "abcd")) → ⊥
last_byte_lost it = differ (codes "abcd") (codes "abcde") refl refl it.1

text_broke_off : writes_all (Err faults.Zero) (sink_at marks.Zero (Some (codes "abc")))
text_broke_off = (refl, (codes "c", (codes "de", refl), refl, omega arith))

text_not_begun : writes_all (Err faults.Failed) (sink_at marks.Failed (Some (codes "ab")))
text_not_begun = (refl, ([], (codes "cde", refl), refl, omega arith))

another_mark_left : writes_all (Err faults.Zero) (sink_at marks.Failed (Some (codes "abc"))) → ⊥
another_mark_left it = absurd (cc it.0)

failed_behind_the_text : writes_all (Err faults.Failed) (sink_at marks.Failed (Some (codes "abcde"))) → ⊥
failed_behind_the_text it = all_of it.1.0 it.1.2 it.1.3
  where
    all_of : (written : List ℕ) → codes "abcde" ≡ codes "ab" ++ written → length written < 3 → ⊥
    all_of written e short = let long : 5 ≡ suc (suc (length written)) = ap length e in omega (arith, long, short)
