use Rattle.std.proofs.Common.{rules, append_assoc}
use Rattle.oim_json.proofs.Joined.{joined-more}
use Rattle.oim_json.proofs.write.push_joined.Goals as goal

pub loop-i-preserved : goal.loop-i-preserved
loop-i-preserved g c = rw (joined-more g.T.JsonText.text c.args.items.now c.loop-i.i c.index-items-i.result c.loop-i-test.true) (search (rules, append_assoc))
