use Rattle.std.proofs.Common.{rules}
use Rattle.std.specs.Cmp.Lexicographic.{slice_cmp}
use Rattle.std.specs.Ordering.{nat_cmp}
use Rattle.std.proofs.lemmas.Fn.{always_returns_same}
use Rattle.oim_report.specs.Readers.{no_column}
use Rattle.oim_report.specs.declared.data.Column.{Column}
use Rattle.oim_report.proofs.Searches.{place_found, place_missing}
use Rattle.oim_report.proofs.by_name.place_in_order.Goals as goal

pub returns-in-Ok : goal.returns-in-Ok
returns-in-Ok c =
    let by_name = c.in-Ok.ensures.position (λ (k : Column). slice_cmp nat_cmp k.id c.args.name.now) (always_returns_same _ _ _ (λ a r h called. search rules)) in
    place_found (λ (k : Column). k.id) c.args.columns.now c.args.name.now c.in-Ok.place no_column c.requires c.in-Ok.ensures.bound by_name

pub returns-in-Err : goal.returns-in-Err
returns-in-Err c =
    let by_name = c.in-Err.ensures.position (λ (k : Column). slice_cmp nat_cmp k.id c.args.name.now) (always_returns_same _ _ _ (λ a r h called. search rules)) in
    place_missing (λ (k : Column). k.id) c.args.columns.now c.args.name.now c.in-Err.field-0 c.requires c.in-Err.ensures.bound by_name
