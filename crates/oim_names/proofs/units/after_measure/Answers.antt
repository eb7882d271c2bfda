use Rattle.std.proofs.Common.{◌≡◌, sym, is_some, true}
use Rattle.oim_names.specs.Bindings.{uri_of}
use Rattle.oim_names.proofs.Measures.{measures_behind}
use Rattle.oim_names.proofs.units.after_measure.Goals as goal

pub returns-clause-measures : goal.returns-clause-measures
returns-clause-measures c =
    let names = c.args.names.now in
    let prefix = c.in_ok-prefix.prefix.now in
    let known : is_some (uri_of names prefix) ≡ true = cc in
    sym (measures_behind names c.args.text.now prefix c.in_ok-prefix.others.now c.in_ok-rest.field-0-0.now c.in_ok-rest.rest.now c.utf8.text
    c.in_ok-prefix.ensures.0 c.in_ok-prefix.ensures.1 c.in_ok-rest.ensures.0 c.in_ok-rest.ensures.1 known)
