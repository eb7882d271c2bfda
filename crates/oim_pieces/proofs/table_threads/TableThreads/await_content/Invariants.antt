use Rattle.std.proofs.Common.{◌≡◌}
use Rattle.oim_pieces.proofs.table_threads.TableThreads.await_content.Given as goal

abbrev pub invariant-loop : goal.invariant-loop
invariant-loop g l = record {
  coming : l.coming ≡ l.fn.pending;
  same : l.self ≡ l.fn.self;
}
