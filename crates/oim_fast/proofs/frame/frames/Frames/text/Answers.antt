use Rattle.std.proofs.Common.{arith}
use Rattle.oim_fast.proofs.ServedLaws.{text_there}
use Rattle.oim_fast.proofs.frame.frames.Frames.text.Goals as goal

pub returns-in-Text : goal.returns-in-Text
returns-in-Text c = text_there c.args.self.now.list.items c.args.place c.index-frame.result.now c.in-Text.text (omega arith) c.index-frame.ensures c.in-Text.is
