-- The parts of the text that a row gives, up to the brace of a fact, and what one cell adds to it
-- (xBRL-JSON 1.0, the facts object).
use Rattle.std.specs.Prelude.{◌≡◌, ℕ, List, [], ◌++◌, Option, Some, None, Result, Ok, codes, flat_map}
use Rattle.oim_json.specs.JsonText.{escaped_byte, member_text}
use Rattle.oim_report.specs.Readers.{table_of}
use Rattle.oim_resolve.specs.FactParts.{FactParts as Fact}
use Rattle.oim_rows.specs.RowFacts.{TableHeaderValue}
use Rattle.oim_row.specs.Rows.{RowValue, column_in, row_in}

-- The text of a fact up to the row's identifier, and with it.
abbrev pub lead_text : TableHeaderValue → List ℕ
lead_text f = codes ",\"" ++ flat_map escaped_byte ((table_of f.report f.table).id ++ codes ".")

abbrev pub start_text : RowValue → List ℕ
start_text x = codes ",\"" ++ flat_map escaped_byte ((table_of x.header.report x.header.table).id ++ codes "." ++ (row_in x).id)

-- The text from the dot after the row's identifier up to the brace of the object.
abbrev pub column_lead : TableHeaderValue → ℕ → List ℕ
column_lead f c = flat_map escaped_byte (codes "." ++ (column_in f c).id) ++ codes "\":{"

-- The text that a cell gives, with a comma before it.
abbrev pub fact_text : Option Fact → List ℕ
fact_text None = []
fact_text (Some f) = codes "," ++ member_text f

-- A cell gives a fact or none, and its text was appended.
pub record WritesFact {E : Type 0} (answer : Result (Option Fact) E) (old new : List ℕ) : Type 0 where
  pub fact : Option Fact
  pub is : answer ≡ Ok fact
  pub text : new ≡ old ++ fact_text fact
