use Rattle.oim_entries.proofs.EntryFacts.{Gives}
use Rattle.oim_entries.proofs.entries.read_entries.Given as goal

-- The remaining records give the answer of all records.
abbrev pub invariant-loop-before : goal.invariant-loop-before
invariant-loop-before g l = Gives (g.E.Entries.file l.fn.entries) l.fn.records l.before l.so_far l.records
