use Rattle.std.proofs.Common.{◌∙◌, sym}
use Rattle.oim_schema.specs.Units.{is_currency}
use Rattle.oim_schema.proofs.UnitLaws.{currency_Decides}
use Rattle.oim_schema.proofs.units.is_currency.Goals as goal

pub returns-clause-means : goal.returns-clause-means
unfolding is_currency
returns-clause-means c =
    let d = currency_Decides c.args.names.now c.args.unit.now c.utf8.unit in
    let e = c.names_currency.ensures in
    (λ t. d.0 (sym e ∙ t), λ h. e ∙ d.1 h)

pub returns-clause-value : goal.returns-clause-value
unfolding is_currency
returns-clause-value c = c.names_currency.ensures
