use Rattle.std.proofs.Common.{◌-◌, ◌+◌, arith}
use Rattle.oim_records.proofs.Buffers.{read-behind}
use Rattle.oim_records.proofs.buffer.read_part.Goals as goal

pub returns-clause-read : goal.returns-clause-read
returns-clause-read g c =
    let room = c.requires.room in
    read-behind c.read.result (g.R.Read.remaining c.args.reader.now) (g.R.Read.remaining c.read.new.self) c.args.from (c.args.from + c.args.most - c.args.from) c.args.bytes.now c.read.new.buf (omega arith) c.read.ensures.bound c.read.ensures.bytes
