use Rattle.std.proofs.Common.{arith}
use Rattle.oim_fast.specs.state.KeptFrames.{IsKnownFor}
use Rattle.oim_fast.proofs.ServedLaws.{some_there}
use Rattle.oim_fast.proofs.frame.frames.Frames.is_at.Goals as goal

pub returns : goal.returns
returns c = λ yes.
    some_there (IsKnownFor c.args.cells.now.list.items c.args.column.now c.args.kind) c.args.self.now.list.items c.args.place c.index-frame.result.now (omega arith)
    c.index-frame.ensures (c.is_for.ensures yes)
