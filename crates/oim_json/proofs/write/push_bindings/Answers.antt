use Rattle.std.proofs.Common.{rules, append_assoc}
use Rattle.oim_json.specs.JsonText.{namespace_text}
use Rattle.oim_json.proofs.Joined.{joined_got}
use Rattle.oim_json.proofs.write.push_bindings.Goals as goal

pub loop-i-preserved : goal.loop-i-preserved
loop-i-preserved c =
    let more = joined_got namespace_text c.args.names.now c.loop-i.i (c.at.result.0.now, c.at.result.1.now) c.at.ensures in
    rw (more) (search (rules, append_assoc))
