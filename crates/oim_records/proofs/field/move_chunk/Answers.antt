use Rattle.oim_records.proofs.Moves.{chunk-front, chunk-behind}
use Rattle.oim_records.proofs.field.move_chunk.Goals as goal

pub returns-clause-taken : goal.returns-clause-taken
returns-clause-taken c = chunk-front c.args.text.now c.args.from c.args.place 16 c.requires.0 c.requires.1

pub returns-clause-behind : goal.returns-clause-behind
returns-clause-behind c = chunk-behind c.args.text.now c.args.from c.args.place 16 c.requires.0 c.requires.1
