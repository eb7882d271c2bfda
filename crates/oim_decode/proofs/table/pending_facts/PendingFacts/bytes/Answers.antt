use Rattle.std.proofs.Common.{◌∙◌, List, ap, length}
use Rattle.oim_json.specs.Blocks.{behind_commas}
use Rattle.oim_resolve.specs.FactParts.{FactParts as Fact}
use Rattle.oim_decode.proofs.table.pending_facts.PendingFacts.bytes.Goals as goal

pub returns : goal.returns
returns c = c.len.ensures ∙ ap length c.self.invariant.0 ∙ ap (λ (fs : List Fact). length (behind_commas fs)) c.self.view_is
