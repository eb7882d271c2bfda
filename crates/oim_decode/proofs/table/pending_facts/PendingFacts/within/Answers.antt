use Rattle.std.proofs.Common.{ap, sym, ◌∙◌}
use Rattle.oim_json.specs.Blocks.{behind_commas, ends_from}
use Rattle.oim_json.proofs.Blocks.{nothing_written}
use Rattle.oim_decode.proofs.table.pending_facts.PendingFacts.within.Goals as goal

pub invariant_of-result : goal.invariant_of-result
invariant_of-result c = (c.no_text.ensures ∙ nothing_written.0 ∙ ap behind_commas (sym c.none.ensures), c.no_ends.ensures ∙ nothing_written.1 ∙ ap (ends_from 0) (sym c.none.ensures))
