-- The rows of a piece, decoded without the earlier rows, and what they give once the earlier rows'
-- identifiers are known. xBRL-CSV 1.0, table files: no two rows of a table have the same row
-- identifier. Only this rule needs the rows before a piece.
use Rattle.std.specs.Prelude.{List, [], ◌∷◌, ◌++◌, ℕ, ◌+◌, if◌then◌else◌, Option, Some, None, Result, Ok, Err, unwrap_or, take}
use Rattle.std.specs.List.{list_any}
use Rattle.std.specs.Str.{bytes_eq}
use Rattle.csv.specs.Records.{field_at}
use Rattle.oim_records.specs.Grids.{Field, Record}
use Rattle.oim_resolve.specs.FactParts.{FactParts as Fact}
use Rattle.oim_rows.specs.Header.{fault_at}
use Rattle.oim_rows.specs.RowFacts.{TableHeaderValue, facts_from, id_place_of, row_fault, row_of}
use Rattle.oim_rows.specs.Streams.{Stream}
use Rattle.oim_rows.specs.declared.fault.TableFault.{TableFault}
use Rattle.oim_rows.specs.declared.fault.TableKind.TheVariants as kind

-- What a piece gives without the other pieces: the facts of each row before the first bad one, the
-- first fault, and the identifiers of these rows if the table has a column for them. If only the
-- cells of the bad row have a fault, its identifier is the last: a repeated identifier counts
-- before them.
pub record Apart : Type 0 where
  pub rows : List (List Fact)
  pub ids : List Field
  pub fault : Option TableFault

-- The identifier of a row, if the table has a column for it.
abbrev pub id_in : Option ℕ → Record → List Field
id_in None r = []
id_in (Some p) r = unwrap_or (field_at r p) [] ∷ []

-- One more row at the beginning: its fault apart from its cells, what its cells give, and its
-- identifier.
abbrev pub apart_row : Option TableFault → Result (List Fact) TableFault → List Field → Apart → Apart
apart_row (Some e) facts id rest = record { rows = []; ids = []; fault = Some e }
apart_row None (Err e) id rest = record { rows = []; ids = id; fault = Some e }
apart_row None (Ok facts) id rest = record { rows = facts ∷ rest.rows; ids = id ++ rest.ids; fault = rest.fault }

-- The rows from number n on, without the rows before them.
unfoldable pub apart_from : TableHeaderValue → ℕ → List Record → Apart
apart_from g n [] = record { rows = []; ids = []; fault = None }
apart_from g n (r ∷ rows) = apart_row (row_fault g n [] r) (facts_from g.report g.table (row_of g n r) 0 g.columns) (id_in (id_place_of g) r) (apart_from g (n + 1) rows)

-- The first place, counted from k, of an identifier that is among the earlier ones.
abbrev pub repeated_from : ℕ → List Field → List Field → Option ℕ
repeated_from k before [] = None
repeated_from k before (id ∷ ids) = if list_any (bytes_eq id) before then Some k else repeated_from (k + 1) (before ++ id ∷ []) ids

-- The fault of row n that repeats an earlier identifier.
abbrev pub repeated_id : TableHeaderValue → ℕ → TableFault
repeated_id g n = fault_at g.table n (unwrap_or (id_place_of g) 0 + 1) kind.RepeatedRowId

-- A piece whose first row has number n, up to the row at a place, which repeats an identifier, or
-- all of it.
abbrev pub cut_at : TableHeaderValue → ℕ → Option ℕ → Apart → Stream
cut_at g n None a = record { rows = a.rows; fault = a.fault }
cut_at g n (Some k) a = record { rows = take k a.rows; fault = Some (repeated_id g (n + k)) }

-- What a piece from row n on gives if the rows before it have the identifiers `before`.
abbrev pub joined_piece : TableHeaderValue → ℕ → List Field → Apart → Stream
joined_piece g n before a = cut_at g n (repeated_from 0 before a.ids) a
