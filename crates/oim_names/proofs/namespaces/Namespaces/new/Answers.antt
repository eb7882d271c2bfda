use Rattle.std.proofs.Common.{[], sym, subst}
use Rattle.std.specs.List.{IsDistinct}
use Rattle.std.specs.List.Sorted.{IsStrictlySortedBy}
use Rattle.oim_names.specs.Bindings.{IsNamespaces}
use Rattle.oim_names.proofs.namespaces.Namespaces.new.Goals as goal

none_bound : IsNamespaces []
unfolding IsDistinct IsStrictlySortedBy
none_bound = (tt, tt, tt)

pub invariant_of-result : goal.invariant_of-result
invariant_of-result c = subst IsNamespaces (sym c.new.ensures) none_bound
