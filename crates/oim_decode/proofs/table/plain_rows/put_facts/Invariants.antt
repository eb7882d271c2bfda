use Rattle.std.proofs.Common.{◌≡◌, ◌++◌, length, take}
use Rattle.oim_json.specs.Blocks.{behind_commas, ends_from}
use Rattle.oim_decode.proofs.table.plain_rows.put_facts.Given as goal

abbrev pub invariant-loop-fact : goal.invariant-loop-fact
invariant-loop-fact l = record {
  texts : l.out.items ≡ l.fn.out.items ++ behind_commas (take l.fact-index l.facts);
  ends : l.ends.items ≡ l.fn.ends.items ++ ends_from (length l.fn.out.items) (take l.fact-index l.facts);
}
