use Rattle.std.proofs.Common.{◌∙◌, Some, ap}
use Rattle.clap.specs.declared.builder.value_parser.ValueParser.TheVariants.{Unsigned}
use Rattle.oim_run.proofs.CommandLine.{chosen}
use Rattle.oim_run.proofs.settings.number_option.Goals as goal

pub returns : goal.returns
returns c =
    let given = c.value_parser.ensures.given in
    let both = chosen _ _ _ (Unsigned 1 c.args.most) c.args.default _ c.value_parser.ensures.others (given.1
    ∙ ap Some (given.2 ∙ c.unsigned.ensures)) c.default_value.ensures c.option.ensures.rule c.option.ensures.local in
    record { rule = both.0; local = both.1 }
