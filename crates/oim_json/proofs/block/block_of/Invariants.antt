use Rattle.std.proofs.Common.{◌≡◌, take}
use Rattle.oim_json.specs.Blocks.{behind_commas, ends_from}
use Rattle.oim_json.proofs.block.block_of.Given as goal

abbrev pub invariant-loop-fact : goal.invariant-loop-fact
invariant-loop-fact l = record {
  texts : l.bytes.items ≡ behind_commas (take l.fact-index l.facts);
  ends : l.ends.items ≡ ends_from 0 (take l.fact-index l.facts);
}
