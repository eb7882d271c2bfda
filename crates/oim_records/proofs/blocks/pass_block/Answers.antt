use Rattle.std.proofs.Common.{◌∙◌, ap, arith}
use Rattle.std.specs.Int.RustNames.{count_ones}
use Rattle.oim_records.proofs.BlockCounts.{block-none, block-some}
use Rattle.oim_records.proofs.blocks.pass_block.Goals as goal

pub returns-else-ends-ne0 : goal.returns-else-ends-ne0
returns-else-ends-ne0 c es long is = block-none c.args.scan.now c.args.place es c.args.ends c.from.result long is (omega arith) (c.from.ensures ∙ ap count_ones (c.first_ends.ensures es long is))

pub returns-then-ends-ne0 : goal.returns-then-ends-ne0
returns-then-ends-ne0 c es long is =
    block-some c.args.scan.now c.args.place es c.args.ends c.from.result c.from-then-ends-ne0.result long is (omega arith) c.ranges.ends.fits (c.from.ensures ∙ ap count_ones (c.first_ends.ensures es long is)) c.from-then-ends-ne0.ensures
