use Rattle.std.proofs.Common.{refl}
use Rattle.oim_decode.proofs.table.table_blocks.TableBlocks.lose.Goals as goal

pub returns-clause-settled : goal.returns-clause-settled
returns-clause-settled g c = rw (← c.self.view_is) (rw (c.close.ensures, c.new.ensures) refl)
