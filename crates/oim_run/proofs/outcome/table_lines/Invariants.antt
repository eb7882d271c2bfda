use Rattle.std.proofs.Common.{◌≡◌, ◌++◌, drop, string_bytes}
use Rattle.oim_run.specs.Lines.{tables_text}
use Rattle.oim_run.proofs.outcome.table_lines.Given as goal

abbrev pub invariant-loop-id : goal.invariant-loop-id
invariant-loop-id l = string_bytes l.lines ++ tables_text (drop l.id-index l.named) ≡ tables_text l.named
