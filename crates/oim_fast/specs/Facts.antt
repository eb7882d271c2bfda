-- What a row gives the text of a block: each of its facts with a comma before it (xBRL-CSV 1.0,
-- from cells to facts; xBRL-JSON 1.0, the facts object).
use Rattle.std.specs.Prelude.{◌≡◌, ◌≤◌, ◌-◌, ℕ, List, [], ◌∷◌, ◌++◌, Option, Some, None, Result, Ok, drop, length, take, if◌then◌else◌}
use Rattle.std.specs.Option.{option_to_list}
use Rattle.oim_json.specs.Blocks.{behind_commas, ends_from}
use Rattle.oim_resolve.specs.Cell.{cell_of}
use Rattle.oim_resolve.specs.FactParts.{FactParts as Fact}
use Rattle.oim_resolve.specs.Facts.{cell_result}
use Rattle.oim_rows.specs.RowFacts.{TableHeaderValue, facts_from, is_fact_column}
use Rattle.oim_rows.specs.declared.fault.TableFault.{TableFault}
use Rattle.oim_row.specs.Rows.{RowValue, columns_in, row_in}

-- The facts of a row in header order, or the fault of its first faulty cell.
abbrev pub facts_of_row : RowValue → Result (List Fact) TableFault
facts_of_row x = facts_from x.header.report x.header.table (row_in x) 0 x.header.columns

-- A row has no fault, its facts were appended, each with a comma before it, and the end of each was
-- recorded.
pub record WritesFacts (x : RowValue) (old new noted notes : List ℕ) : Type 0 where
  pub facts : List Fact
  pub are : facts_of_row x ≡ Ok facts
  pub text : new ≡ old ++ behind_commas facts
  pub ends : notes ≡ noted ++ ends_from (length old) facts

-- The columns of a header that hold facts, in its order.
abbrev pub fact_columns_in : TableHeaderValue → List (Option ℕ) → List ℕ
fact_columns_in f [] = []
fact_columns_in f (None ∷ h) = fact_columns_in f h
fact_columns_in f (Some c ∷ h) = if is_fact_column (columns_in f) c then c ∷ fact_columns_in f h else fact_columns_in f h

-- These columns give the row these facts.
abbrev pub GiveFacts : RowValue → List ℕ → List Fact → Type 0
GiveFacts x [] fs = fs ≡ []
GiveFacts x (c ∷ cs) fs =
    (o : Option Fact) × (more : List Fact) × (cell_result (cell_of x.header.report x.header.table (row_in x) c) ≡ Ok o) × (fs ≡ option_to_list o ++ more) × GiveFacts x cs more

-- The columns of facts from index i on give the row these facts.
abbrev pub HasFactsFrom : RowValue → ℕ → List Fact → Type 0
HasFactsFrom x i fs = GiveFacts x (drop i (fact_columns_in x.header x.header.columns)) fs

-- No cell of these columns has a fault.
abbrev pub HasPart : RowValue → ℕ → Type 0
HasPart x i = (fs : List Fact) × HasFactsFrom x i fs

-- The facts of the columns of facts from index i up to j were appended, each with a comma before
-- it, and the end of each was recorded.
pub record WritesPart (x : RowValue) (i j : ℕ) (old new noted notes : List ℕ) : Type 0 where
  pub facts : List Fact
  pub order : i ≤ j
  pub within : j ≤ length (fact_columns_in x.header x.header.columns)
  pub are : GiveFacts x (take (j - i) (drop i (fact_columns_in x.header x.header.columns))) facts
  pub text : new ≡ old ++ behind_commas facts
  pub ends : notes ≡ noted ++ ends_from (length old) facts
