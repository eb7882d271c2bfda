use Rattle.oim_fast.proofs.ChoiceLaws.{groups_within}
use Rattle.oim_fast.proofs.frame.frame_maker.FrameMaker.frame.Goals as goal

pub choices_of-requires : goal.choices_of-requires
choices_of-requires c = groups_within c.args.row.now.header c.args.self.now.cells.list.items c.args.column.now c.requires.column
