use Rattle.std.proofs.Common.{ℕ, List, IfSome}
use Rattle.oim_places.specs.FaultLists.{AreReadersOf, KeepsFiles, record_of}
use Rattle.oim_explain.proofs.FaultTexts.{Completes}
use Rattle.oim_explain.proofs.fault_list.put_rest.Given as goal

abbrev pub invariant-loop : goal.invariant-loop
invariant-loop g l = record {
  same : KeepsFiles l.fn.rows l.rows;
  rest : (bytes : List ℕ) → AreReadersOf l.fn.rows.heads l.fn.rows.cells l.fn.rows.lines bytes
      → IfSome l.fn.rows.left (λ start. Completes (g.W.Write.contents l.fn.to) (g.W.Write.contents l.to) l.fn.rows.table l.id (record_of l.id bytes) l.fn.room l.left start l.rows.left);
}
