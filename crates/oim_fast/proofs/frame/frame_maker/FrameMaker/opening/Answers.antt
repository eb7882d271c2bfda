use Rattle.oim_fast.proofs.MakerLaws.{maker_grows}
use Rattle.oim_fast.proofs.frame.frame_maker.FrameMaker.opening.Goals as goal

pub returns-in_err-decimals-clause-maker : goal.returns-in_err-decimals-clause-maker
returns-in_err-decimals-clause-maker c = maker_grows c.args.row.now c.args.self.now c.decimals_of.new.references c.requires c.decimals_of.ensures.fresh c.decimals_of.ensures.grows

pub returns-in_err-text-clause-maker : goal.returns-in_err-text-clause-maker
returns-in_err-text-clause-maker c = maker_grows c.args.row.now c.args.self.now c.decimals_of.new.references c.requires c.decimals_of.ensures.fresh c.decimals_of.ensures.grows

pub returns-clause-maker : goal.returns-clause-maker
returns-clause-maker c = maker_grows c.args.row.now c.args.self.now c.decimals_of.new.references c.requires c.decimals_of.ensures.fresh c.decimals_of.ensures.grows
