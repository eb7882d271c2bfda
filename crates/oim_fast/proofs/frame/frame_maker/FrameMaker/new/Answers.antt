use Rattle.oim_fast.specs.state.FrameParts.{IsPart}
use Rattle.oim_row.specs.References.{IsOfReport, key_of}
use Rattle.std.proofs.Common.{map}
use Rattle.oim_fast.proofs.MakerLaws.{all_of_none}
use Rattle.oim_fast.proofs.frame.frame_maker.FrameMaker.new.Goals as goal

pub returns-clause-ready : goal.returns-clause-ready
returns-clause-ready c = λ f cells. record {
  references = all_of_none (IsOfReport f.report) c.new.result c.new.ensures;
  cells = cells;
  parts = all_of_none (IsPart f (map key_of c.new.result)) c.new-2.result.list.items c.new-2.ensures;
}
