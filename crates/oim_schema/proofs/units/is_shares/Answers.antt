use Rattle.std.proofs.Common.{◌∙◌, sym}
use Rattle.oim_schema.specs.Units.{is_shares}
use Rattle.oim_schema.proofs.UnitLaws.{shares_Decides}
use Rattle.oim_schema.proofs.units.is_shares.Goals as goal

pub returns-clause-means : goal.returns-clause-means
unfolding is_shares
returns-clause-means c =
    let d = shares_Decides c.args.names.now c.args.unit.now c.utf8.unit in
    let e = c.names_shares.ensures in
    (λ t. d.0 (sym e ∙ t), λ h. e ∙ d.1 h)

pub returns-clause-value : goal.returns-clause-value
unfolding is_shares
returns-clause-value c = c.names_shares.ensures
