use Rattle.std.proofs.Common.{◌≡◌, length, is_some, true, IfSome}
use Rattle.std.specs.Str.{IsUtf8}
use Rattle.oim_names.specs.Bindings.{uri_of}
use Rattle.oim_names.specs.Unit.{are_measures}
use Rattle.oim_names.proofs.units.are_measures.Given as goal

abbrev pub invariant-loop-prefix : goal.invariant-loop-prefix
invariant-loop-prefix l = (are_measures l.names l.measures ≡ are_measures l.names l.text) × IsUtf8 l.measures
    × IfSome l.known (λ k. is_some (uri_of l.names k.now) ≡ true)

abbrev pub decreases-loop-prefix : goal.decreases-loop-prefix
decreases-loop-prefix l = length l.measures
