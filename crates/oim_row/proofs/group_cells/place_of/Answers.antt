use Rattle.std.proofs.Common.{rules, Ok, []}
use Rattle.std.specs.Cmp.Lexicographic.{slice_cmp}
use Rattle.std.specs.Ordering.{nat_cmp}
use Rattle.std.proofs.lemmas.Fn.{always_returns_same}
use Rattle.oim_names.proofs.Searches.{searched}
use Rattle.oim_report.specs.Readers.{no_level}
use Rattle.oim_row.proofs.GroupLaws.{named_at}
use Rattle.oim_row.proofs.group_cells.place_of.Goals as goal

pub returns-in-Ok : goal.returns-in-Ok
returns-in-Ok c = λ column same.
    let by_name = c.in-Ok.ensures.position (λ e. slice_cmp nat_cmp e.0 c.args.name.now) (always_returns_same _ _ _ (λ a r h called. search rules)) in
    named_at column c.args.groups.now c.args.name.now c.in-Ok.place ([], no_level) c.in-Ok.ensures.bound
    (searched c.args.groups.now c.args.name.now (Ok c.in-Ok.place) c.requires c.in-Ok.ensures.bound by_name ([], no_level)) same
