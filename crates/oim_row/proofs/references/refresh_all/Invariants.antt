use Rattle.std.proofs.Common.{◌≡◌, ◌<◌, ℕ, map, get_or}
use Rattle.std.specs.List.{All}
use Rattle.oim_row.specs.References.{IsFresh, IsOfReport, ReferenceValue, key_of}
use Rattle.oim_row.proofs.references.refresh_all.Given as goal

abbrev pub invariant-loop-i : goal.invariant-loop-i
invariant-loop-i l = record {
  keys : map key_of l.list.items ≡ map key_of l.fn.list.items;
  reports : All (IsOfReport l.row.header.report) l.list.items;
  fresh : (k : ℕ) (d : ReferenceValue) → k < l.i → IsFresh l.row (get_or l.list.items k d);
}
