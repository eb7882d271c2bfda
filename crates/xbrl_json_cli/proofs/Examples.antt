-- The definitions of this crate, executed on worked cases.
use Rattle.std.proofs.Common.{◌≡◌, ◌∷◌, ◌++◌, [], ℕ, List, codes, map, refl}
use Rattle.xbrl_json_cli.specs.state.DocumentCounts.{Tally, counts_of}
use Rattle.xbrl_json_cli.specs.state.Keys.{last_eight}
use Rattle.xbrl_json_cli.specs.state.TableRows.{records_of, rows_of}
use Rattle.xbrl_json_cli.specs.declared.document_marks.TheConstants.{DECIMALS, ENTITY, FACTS, PERIOD, UNIT}

-- The numbers of keys.
keys : map last_eight (codes "facts" ∷ codes "decimals" ∷ codes "entity" ∷ codes "period" ∷ codes "unit" ∷ [])
    ≡ FACTS ∷ DECIMALS ∷ ENTITY ∷ PERIOD ∷ UNIT ∷ []
keys = refl

-- Records.

-- A header and a row, with and without the last line end; CRLF, CR, and blank lines at any place.
ends_of_lines : map rows_of (codes "a,b\n1,2\n" ∷ codes "a,b\n1,2" ∷ codes "a\r\n1\r\n" ∷ codes "a\r1\r" ∷ codes "\n\na\n\n\n1\n\n" ∷ [])
    ≡ 1 ∷ 1 ∷ 1 ∷ 1 ∷ 1 ∷ []
ends_of_lines = refl

-- A line end in quotes ends no record, also after a doubled quote. A quote that is not closed
-- reaches to the end. One in a field opens no quotes.
quotes : map rows_of (codes "a\n\"1\n2\"\n3\n" ∷ codes "a\n\"1\"\"\n2\"\n" ∷ codes "a\n\"1\n2\n" ∷ codes "a\n1\"2\n3\n" ∷ codes "a\n\"1\"x\n2\n" ∷ [])
    ≡ 2 ∷ 1 ∷ 1 ∷ 2 ∷ 2 ∷ []
quotes = refl

-- An empty cell in quotes is a row, and so is a comma. Blanks are one too.
rows_of_nothing : map rows_of (codes "a\n\"\"\n" ∷ codes "a,b\n,\n" ∷ codes "a\n \n" ∷ codes "a\n" ∷ codes "a" ∷ [])
    ≡ 1 ∷ 1 ∷ 1 ∷ 0 ∷ 0 ∷ []
rows_of_nothing = refl

-- One byte-order mark is passed over. A second one is of the first field, and so is a part of one.
marks : map records_of ((239 ∷ 187 ∷ 191 ∷ codes "\n\na\n1\n") ∷ (239 ∷ 187 ∷ 191 ∷ []) ∷ (239 ∷ 187 ∷ 191 ∷ 239 ∷ 187 ∷ 191 ∷ codes "\na\n") ∷ (239 ∷ 187 ∷ []) ∷ (239 ∷ codes "\"\n\"\n") ∷ [])
    ≡ 2 ∷ 0 ∷ 2 ∷ 1 ∷ 2 ∷ []
marks = refl

-- Documents.

-- What of a table is counted: its facts, and those with decimals, an entity, a period, a unit.
abbrev counted : List ℕ → (facts decimals entities periods units : ℕ) → Tally
counted table facts decimals entities periods units =
    record { table = table; facts = facts; decimals = decimals; entities = entities; periods = periods; units = units }

abbrev head : List ℕ
head = codes "{\"documentInfo\":{\"documentType\":\"https://xbrl.org/2021/xbrl-json\",\"namespaces\":{\"eg\":\"http://example.com/facts.unit\",\"unit\":\"u.v\"},\"taxonomy\":[\"t.xsd\"]},\"facts\":{"

no_fact : counts_of (head ++ codes "}}\n") ≡ []
no_fact = refl

two_tables : counts_of (head ++ codes "\"t1.r_1.cash\":{\"decimals\":2,\"dimensions\":{\"concept\":\"eg:Cash\",\"entity\":\"eg:A1\",\"period\":\"2021\",\"unit\":\"iso4217:EUR\"},\"value\":\"1\"},\"t1.r_1.note\":{\"dimensions\":{\"concept\":\"eg:Note\",\"eg:D\":null,\"language\":\"en\"},\"value\":null},\"t2.r_1.a.b\":{\"dimensions\":{\"concept\":\"eg:Cash\",\"eg:entity\":\"x\",\"eg:unit\":\"y\",\"period\":\"2022\"},\"value\":\"2\"}}}\n")
    ≡ counted (codes "t2") 1 0 0 1 0 ∷ counted (codes "t1") 2 1 1 1 1 ∷ []
two_tables = refl

-- Texts with quotes, backslashes and what looks like members; in lines too.
escapes : counts_of (head ++ codes "\n\"t1.r.1\":{\"dimensions\":{\"concept\":\"eg:Note\",\"eg:D\":\"\\\\\",\"entity\":\"\\\"unit\\\":\"},\"value\":\"}},\\\"t9.r.1\\\":{\\\"decimals\\\":1\\\\\"},\n\"t1.r.2\":{\"decimals\":-3,\"dimensions\":{\"concept\":\"eg:Cash\",\"unit\":\"xbrli:pure\"},\"value\":\"\"}\n}}\n")
    ≡ counted (codes "t1") 2 1 1 0 1 ∷ []
escapes = refl
