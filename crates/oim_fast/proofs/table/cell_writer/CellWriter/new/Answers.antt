use Rattle.std.proofs.Common.{map, sym, subst}
use Rattle.oim_fast.specs.state.Columns.{AreFactColumns}
use Rattle.oim_fast.specs.state.KeptFrames.{IsFrame}
use Rattle.oim_row.specs.References.{key_of}
use Rattle.oim_row.specs.declared.group_cells.GroupCells.{GroupCells}
use Rattle.oim_fast.proofs.MakerLaws.{all_of_none}
use Rattle.oim_fast.proofs.table.cell_writer.CellWriter.new.Goals as goal

pub returns : goal.returns
returns c =
    let header = c.args.header.now in
    record {
      columns = subst (λ (g : GroupCells). AreFactColumns header g.list.items c.in_ok-columns.columns.items) (sym c.new-maker.ensures.cells) c.in_ok-columns.ensures.columns;
      maker = c.new-maker.ensures.ready header c.in_ok-columns.ensures.cells;
      frames = all_of_none (IsFrame header (map key_of c.new-maker.result.references)) c.new-frames.result.list.items c.new-frames.ensures;
      lead = c.in_ok-start.ensures;
    }
