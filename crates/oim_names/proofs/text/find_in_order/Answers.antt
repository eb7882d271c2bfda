use Rattle.std.proofs.Common.{rules, sym, Ok, Err}
use Rattle.std.specs.Cmp.Lexicographic.{slice_cmp}
use Rattle.std.specs.Ordering.{nat_cmp}
use Rattle.std.proofs.lemmas.Fn.{always_returns_same}
use Rattle.oim_names.proofs.Searches.{searched}
use Rattle.oim_names.proofs.text.find_in_order.Goals as goal

pub returns-in-Ok : goal.returns-in-Ok
returns-in-Ok g c =
    let by_name = c.in-Ok.ensures.position (λ e. slice_cmp nat_cmp e.0 c.args.name.now) (always_returns_same _ _ _ (λ a r h called. search rules)) in
    sym (searched c.args.entries.now c.args.name.now (Ok c.in-Ok.place) c.requires c.in-Ok.ensures.bound by_name _)

pub returns-in-Err : goal.returns-in-Err
returns-in-Err g c =
    let by_name = c.in-Err.ensures.position (λ e. slice_cmp nat_cmp e.0 c.args.name.now) (always_returns_same _ _ _ (λ a r h called. search rules)) in
    sym (searched c.args.entries.now c.args.name.now (Err c.in-Err.field-0) c.requires c.in-Err.ensures.bound by_name)
