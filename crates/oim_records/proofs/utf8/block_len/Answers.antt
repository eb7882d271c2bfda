use Rattle.std.proofs.Common.{subst, drop}
use Rattle.std.specs.Str.{IsUtf8}
use Rattle.std.proofs.lemmas.List.{take-take}
use Rattle.oim_records.proofs.utf8.block_len.Goals as goal

pub returns-clause-whole : goal.returns-clause-whole
returns-clause-whole c = subst IsUtf8 (take-take c.text_len.result 64 (drop c.args.at c.args.text.now) c.text_len.ensures.within) c.text_len.ensures.whole
