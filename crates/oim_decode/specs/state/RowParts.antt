-- A row whose facts are written in parts.
use Rattle.std.specs.Prelude.{⊤, ◌≡◌, ◌≤◌, ◌<◌, ℕ, List, ◌++◌, drop, length, take, Option, Some, None, Result, Ok, Err}
use Rattle.oim_json.specs.Blocks.{behind_commas, ends_from}
use Rattle.oim_resolve.specs.FactParts.{FactParts as Fact}
use Rattle.oim_fast.specs.Facts.{GiveFacts, HasFactsFrom, HasPart, WritesFacts, WritesPart, fact_columns_in}
use Rattle.oim_row.specs.Rows.{RowValue}
use Rattle.oim_rows.specs.Streams.{OrNoMemory}
use Rattle.oim_rows.specs.declared.fault.TableFault.{TableFault}
use Rattle.oim_decode.specs.state.RowTexts.{facts_of_answer}

-- The facts of a row that are not written yet, the index of the first of their columns among the
-- columns of facts, and how many facts come before them.
pub record RowRestValue : Type 0 where
  pub next : ℕ
  pub written : ℕ
  pub facts : List Fact

-- Facts, then those that are left of a row.
abbrev pub with_rest : List Fact → Option RowRestValue → List Fact
with_rest fs None = fs
with_rest fs (Some rest) = fs ++ rest.facts

-- The columns of facts that the header of a row names.
abbrev pub row_columns : RowValue → List ℕ
row_columns x = fact_columns_in x.header x.header.columns

-- A row has no fault. These facts are left of it: those in its columns from the next one on.
pub record IsRestOf (x : RowValue) (rest : RowRestValue) : Type 0 where
  pub front : List Fact
  pub before : GiveFacts x (take rest.next (row_columns x)) front
  pub behind : HasFactsFrom x rest.next rest.facts
  pub within : rest.next ≤ length (row_columns x)
  pub count : rest.written ≡ length front

-- The texts of a row were appended: all, or those in its columns before an index. Then the text is
-- long, and the other columns have no fault.
abbrev pub BeginsTexts : RowValue → Option ℕ → List ℕ → List ℕ → List ℕ → List ℕ → Type 0
BeginsTexts x None old new noted notes = WritesFacts x old new noted notes
BeginsTexts x (Some next) old new noted notes = WritesPart x 0 next old new noted notes × HasPart x next × (1048576 < length new)

-- More texts of a row were appended: all that were left, or those in its columns before an index.
-- Then the text is long.
abbrev pub ContinuesTexts : RowValue → RowRestValue → Option ℕ → List ℕ → List ℕ → List ℕ → List ℕ → Type 0
ContinuesTexts x rest None old new noted notes = (new ≡ old ++ behind_commas rest.facts) × (notes ≡ noted ++ ends_from (length old) rest.facts)
ContinuesTexts x rest (Some next) old new noted notes = WritesPart x rest.next next old new noted notes × (1048576 < length new)

-- The texts of a row's facts after the first `count` were appended.
abbrev pub WritesRest : Result (List Fact) TableFault → ℕ → List ℕ → List ℕ → List ℕ → List ℕ → Type 0
WritesRest answer count old new noted notes = (all : List Fact) × (answer ≡ Ok all) × (new ≡ old ++ behind_commas (drop count all)) × (notes ≡ noted ++ ends_from (length old) (drop count all))

-- What is left is of this row, and the texts before it are long.
abbrev pub IsLeft : RowValue → List Fact → Option RowRestValue → Type 0
IsLeft x before None = ⊤
IsLeft x before (Some rest) = IsRestOf x rest × (1048576 < length (behind_commas before))

-- What the answer for a row gives was added or is left; or nothing was added, with the row's fault
-- or because memory ran out.
abbrev pub AddsParts : ℕ → Result (List Fact) TableFault → List Fact → List Fact → Result (Option RowRestValue) TableFault → Type 0
AddsParts table answer before after (Ok rest) = (answer ≡ Ok (facts_of_answer answer)) × (with_rest after rest ≡ before ++ facts_of_answer answer)
AddsParts table answer before after (Err e) = (after ≡ before) × OrNoMemory table (Err e) answer
