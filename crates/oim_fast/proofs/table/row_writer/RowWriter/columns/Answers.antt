use Rattle.std.proofs.Common.{ap, arith, length}
use Rattle.oim_rows.specs.RowFacts.{TableHeaderValue}
use Rattle.oim_fast.specs.Facts.{fact_columns_in}
use Rattle.oim_fast.proofs.CellWriterLaws.{columns_length}
use Rattle.oim_fast.proofs.table.row_writer.RowWriter.columns.Goals as goal

pub returns : goal.returns
returns c =
    let a = c.self.inside in
    omega (
      arith,
      c.len.ensures,
      a.cells.columns.ok.0,
      columns_length a.header.value a.cells.maker.cells.list.items a.cells.columns.items c.self.invariant.columns,
      ap (λ (f : TableHeaderValue). length (fact_columns_in f f.columns)) c.self.view_is,
    )
