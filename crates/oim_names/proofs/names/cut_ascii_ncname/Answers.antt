use Rattle.std.proofs.Common.{arith}
use Rattle.std.proofs.lemmas.Str.{IsCharBoundary-after_ascii}
use Rattle.oim_names.proofs.names.cut_ascii_ncname.Goals as goal

pub range_from-requires : goal.range_from-requires
range_from-requires c =
    λ _. IsCharBoundary-after_ascii c.args.text.now c.ascii_ncname_len-len.result c.utf8.text (grind arith) (grind arith)
