use Rattle.std.proofs.Common.{◌≡◌, ◌-◌, suc, length, sym, ◌∙◌, arith}
use Rattle.oim_resolve.proofs.Names.{above_last}
use Rattle.oim_resolve.proofs.levels.is_last.Goals as goal

pub returns-in-len1-up : goal.returns-in-len1-up
returns-in-len1-up c h =
    let names = c.args.names.now in
    let long : length names ≡ suc (length names - 1) = omega (arith, c.in-len1-up.len_at_least) in
    above_last names c.args.name c.requires (length names - 1) _ long (sym c.lt.ensures ∙ h)
