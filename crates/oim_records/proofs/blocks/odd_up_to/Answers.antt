use Rattle.oim_records.proofs.WordBits.{prefix}
use Rattle.oim_records.proofs.blocks.odd_up_to.Goals as goal

pub returns : goal.returns
returns c = prefix c.args.m
