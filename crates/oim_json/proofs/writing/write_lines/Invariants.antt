use Rattle.std.proofs.Common.{◌≡◌, [], take}
use Rattle.oim_json.specs.state.Chunks.{IsPut}
use Rattle.oim_json.specs.Document.{more_members}
use Rattle.oim_json.specs.state.Writing.{has_any}
use Rattle.oim_json.specs.declared.layout.Layout.TheVariants.{Lines}
use Rattle.oim_json.proofs.writing.write_lines.Given as goal

-- The members before this index were put.
abbrev pub invariant-loop-i : goal.invariant-loop-i
invariant-loop-i g l = record {
  has : l.has_any ≡ has_any l.any (take l.i l.block);
  put : IsPut (g.W.Sink.seen l.fn.sink) (g.W.Sink.seen l.sink) [] l.chunk (more_members Lines l.any (take l.i l.block));
}
