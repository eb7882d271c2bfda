use Rattle.std.proofs.Common.{rules, ◌∙◌}
use Rattle.std.specs.Str.Parse.{ExplainsUnsignedError, HasUnsignedDigitsIfOk, ParsesUnsigned}
use Rattle.clap.specs.Words.{found_of}
use Rattle.clap.proofs.WalkLemmas.{one_text-rows}
use Rattle.oim_run.proofs.CommandLine.{number_read}
use Rattle.oim_run.proofs.settings.number_between.Goals as goal

pub returns-then-n-most : goal.returns-then-n-most
returns-then-n-most c =
    let same = one_text-rows (found_of c.args.matches.now) c.args.id.now in (
      search rules,
      search rules,
      number_read _
          (λ bs r. ParsesUnsigned 64 10 bs r × ExplainsUnsignedError 10 bs r × HasUnsignedDigitsIfOk bs r) _ c.in_ok-n.n
          (λ e. c.in_ok-n.ensures.none (same ∙ e)) (λ t e. c.in_ok-n.ensures.value t (same ∙ e)) (λ t g. g.0),
    )
