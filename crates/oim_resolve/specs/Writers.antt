-- Which level of a report writes a property of a cell. The most specific level that writes it wins:
-- the column, then the property groups that the row names, the template and the report. (xBRL-CSV
-- 1.0, dimensions, decimals and property groups)
use Rattle.std.specs.Prelude.{ℕ, List, [], ◌∷◌, ◌++◌, Option, None}
use Rattle.std.specs.List.{flat_map}
use Rattle.std.specs.Option.{option_map, option_or, option_to_list}
use Rattle.oim_names.specs.Lookup.{value_at}
use Rattle.oim_report.specs.Readers.{template_of}
use Rattle.oim_report.specs.declared.data.Level.{Level}
use Rattle.oim_report.specs.declared.data.Written.{Written}
use Rattle.oim_report.specs.declared.data.WrittenDecimals.{WrittenDecimals}
use Rattle.oim_resolve.specs.Cell.{Cell, column}
use Rattle.oim_resolve.specs.Written.{group_of_cell}
use Rattle.oim_resolve.specs.declared.cell.writers.Writer.{Writer}
use Rattle.oim_resolve.specs.declared.cell.writers.Writer.TheVariants as writer

-- What the first item with an answer answers.
abbrev pub first_answer : {A B : Type 0} → (A → Option B) → List A → Option B
first_answer answer [] = None
first_answer answer (x ∷ xs) = option_or (answer x) (first_answer answer xs)

-- The property group that the row's cell at place `i` of the template names.
abbrev pub group_writer : Cell → ℕ → Option (Writer × Level)
group_writer c i = option_map (λ l. (writer.Group i, l)) (group_of_cell c i)

abbrev pub group_writers : Cell → List ℕ → List (Writer × Level)
group_writers c is = flat_map (λ i. option_to_list (group_writer c i)) is

-- The levels of a cell, each with its name, from the most specific to the most general.
abbrev pub writers : Cell → List (Writer × Level)
writers c =
    (writer.Column, (column c).level)
    ∷ (group_writers c (column c).from ++ (writer.Template, (template_of c.report c.table).level) ∷ (writer.Report, c.report.level) ∷ [])

-- What a level writes for a dimension, and for decimals.
abbrev pub writes : List ℕ → Writer × Level → Option (Writer × Written)
writes n w = option_map (λ x. (w.0, x)) (value_at n w.1.dimensions)

abbrev pub writes_decimals : Writer × Level → Option (Writer × WrittenDecimals)
writes_decimals w = option_map (λ x. (w.0, x)) w.1.decimals

-- The level that writes the dimension of a name, and what it writes.
abbrev pub writer_of : Cell → List ℕ → Option (Writer × Written)
writer_of c n = first_answer (writes n) (writers c)

-- The level that writes the decimals, and what it writes.
abbrev pub decimals_writer : Cell → Option (Writer × WrittenDecimals)
decimals_writer c = first_answer writes_decimals (writers c)
