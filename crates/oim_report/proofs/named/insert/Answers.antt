use Rattle.std.proofs.Common.{Some}
use Rattle.std.proofs.lemmas.Map.Text.{btree_map_updates_text}
use Rattle.std.specs.String.{string_bytes}
use Rattle.oim_report.proofs.named.insert.Goals as goal

pub returns-in-Ok-clause-more : goal.returns-in-Ok-clause-more
returns-in-Ok-clause-more g c = btree_map_updates_text (string_bytes c.args.name) c.args.values.now c.insert.new.self (Some c.args.value) c.in-Ok.ensures.updates
