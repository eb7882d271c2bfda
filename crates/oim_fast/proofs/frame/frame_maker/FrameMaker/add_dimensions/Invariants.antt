use Rattle.std.proofs.Common.{◌≡◌, map, take}
use Rattle.std.specs.List.{flat_map}
use Rattle.std.specs.Prelude.{reverse}
use Rattle.oim_resolve.specs.ProgramCell.{held}
use Rattle.oim_resolve.specs.Written.{written}
use Rattle.oim_fast.specs.state.Making.{AddsEntries, IsMaker}
use Rattle.oim_resolve.specs.state.ProgramLevels.{named}
use Rattle.oim_row.specs.References.{Grows, key_of}
use Rattle.oim_fast.proofs.frame.frame_maker.FrameMaker.add_dimensions.Given as goal

abbrev pub invariant-loop-i : goal.invariant-loop-i
invariant-loop-i l = record {
  maker : IsMaker l.row l.self;
  grows : Grows l.fn.self.references l.self.references;
  cells : l.self.cells ≡ l.fn.self.cells;
  added : AddsEntries l.row.header (map key_of l.self.references) (flat_map (λ n. named n (written (reverse (held l.levels)) n)) (held (take l.i l.names.items))) l.fn.text l.text;
}
