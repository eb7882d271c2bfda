use Rattle.std.proofs.Common.{◌≡◌, length}
use Rattle.oim_schema.specs.Digits.{after_digits}
use Rattle.oim_schema.proofs.digits.after_digits.Given as goal

abbrev pub invariant-loop-others : goal.invariant-loop-others
invariant-loop-others l = after_digits l.most l.rest ≡ after_digits l.most l.text

abbrev pub decreases-loop-others : goal.decreases-loop-others
decreases-loop-others l = length l.rest
