use Rattle.std.proofs.Common.{refl}
use Rattle.oim_fast.proofs.ValueLaws as law
use Rattle.oim_fast.proofs.frame.value.nil_value.Goals as goal

pub returns : goal.returns
returns c = λ report kind. law.nil_value report kind _ refl refl refl
