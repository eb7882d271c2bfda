use Rattle.std.proofs.Common.{◌-◌, arith}
use Rattle.oim_records.proofs.Moves.{merged-front, merged-behind}
use Rattle.oim_records.proofs.field.move_few.Goals as goal

pub returns-clause-taken : goal.returns-clause-taken
returns-clause-taken c = merged-front c.args.text.now c.merged.result c.args.from c.args.place (c.args.to - c.args.from) 16 (omega arith) (omega arith) (omega arith) c.merged.ensures

pub returns-clause-behind : goal.returns-clause-behind
returns-clause-behind c = merged-behind c.args.text.now c.merged.result c.args.from c.args.place (c.args.to - c.args.from) 16 (omega arith) (omega arith) (omega arith) c.merged.ensures
