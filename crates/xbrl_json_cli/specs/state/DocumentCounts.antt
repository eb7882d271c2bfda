-- The facts of each table in a document, counted byte by byte.
use Rattle.std.specs.Prelude.{ℕ, ◌+◌, false, if◌then◌else◌, List, [], ◌∷◌, ◌++◌}
use Rattle.std.specs.Str.{bytes_eq}
use Rattle.xbrl_json_cli.specs.DocumentMarks.{mark_at, marked_after}
use Rattle.xbrl_json_cli.specs.declared.json_place.Within.TheVariants as «within»
use Rattle.xbrl_json_cli.specs.declared.document_marks.DocumentMark.{DocumentMark}
use Rattle.xbrl_json_cli.specs.declared.document_marks.DocumentMark.TheVariants as mark
use Rattle.xbrl_json_cli.specs.declared.document_marks.DocumentPlace.{DocumentPlace}

-- The facts of a table so far: their number, and how many of them have decimals, an entity, a
-- period, a unit.
pub record Tally : Type 0 where
  pub table : List ℕ
  pub facts : ℕ
  pub decimals : ℕ
  pub entities : ℕ
  pub periods : ℕ
  pub units : ℕ

-- One more fact of a table: of the last one, or of one that begins.
abbrev pub fact_of : List ℕ → List Tally → List Tally
fact_of table [] = record { table = table; facts = 1; decimals = 0; entities = 0; periods = 0; units = 0 } ∷ []
fact_of table (t ∷ before) =
    if bytes_eq table t.table then record t { facts = t.facts + 1 } ∷ before
    else record { table = table; facts = 1; decimals = 0; entities = 0; periods = 0; units = 0 } ∷ t ∷ before

-- The last fact has something more.
abbrev pub with_mark : DocumentMark → Tally → Tally
with_mark mark.Nothing t = t
with_mark mark.Name t = t
with_mark mark.Fact t = t
with_mark mark.Decimals t = record t { decimals = t.decimals + 1 }
with_mark mark.Entity t = record t { entities = t.entities + 1 }
with_mark mark.Period t = record t { periods = t.periods + 1 }
with_mark mark.Unit t = record t { units = t.units + 1 }

abbrev pub of_last : DocumentMark → List Tally → List Tally
of_last m [] = []
of_last m (t ∷ before) = with_mark m t ∷ before

-- What is counted after some bytes: the place, the identifier that is being read, and the tables
-- with facts, the last one first.
pub record Counting : Type 0 where
  pub place : DocumentPlace
  pub name : List ℕ
  pub tables : List Tally

abbrev pub counting_by : DocumentMark → ℕ → Counting → Counting
counting_by mark.Nothing c n = n
counting_by mark.Name c n = record n { name = n.name ++ c ∷ [] }
counting_by mark.Fact c n = record n { name = []; tables = fact_of n.name n.tables }
counting_by mark.Decimals c n = record n { tables = of_last mark.Decimals n.tables }
counting_by mark.Entity c n = record n { tables = of_last mark.Entity n.tables }
counting_by mark.Period c n = record n { tables = of_last mark.Period n.tables }
counting_by mark.Unit c n = record n { tables = of_last mark.Unit n.tables }

abbrev pub counting_after : Counting → ℕ → Counting
counting_after n c = record (counting_by (mark_at n.place c) c n) { place = marked_after n.place c }

abbrev pub counting_all : Counting → List ℕ → Counting
counting_all n [] = n
counting_all n (c ∷ rest) = counting_all (counting_after n c) rest

-- Before a document's first byte.
abbrev pub uncounted : Counting
uncounted = record {
  place = record { json = record { depth = 0; within = «within».Nothing; is_key = false; key = 0 }; are_facts = false; is_named = false };
  name = [];
  tables = [];
}

-- The facts of each table with facts in a document, the last table first.
abbrev pub counts_of : List ℕ → List Tally
counts_of document = (counting_all uncounted document).tables
