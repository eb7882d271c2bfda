use Rattle.std.proofs.Common.{List, ℕ, ap, sym, subst, ◌∙◌, arith}
use Rattle.std.specs.Borrow.{Bor}
use Rattle.std.specs.Map.{keys_of}
use Rattle.oim_report.specs.InOrder.{LevelRises}
use Rattle.oim_report.specs.Rising.{IsRising}
use Rattle.oim_report.specs.declared.data.Level.{Level}
use Rattle.oim_report.specs.declared.data.Written.{Written}
use Rattle.oim_names.specs.Lookup.{value_at}
use Rattle.oim_resolve.proofs.Overrides.{found_written, none_written}
use Rattle.oim_resolve.proofs.levels.written.Goals as goal

pub returns-in-Some : goal.returns-in-Some
returns-in-Some c =
    let found = c.in-Some.ensures ∙ ap (value_at c.args.name.now) c.as_slice.ensures in
    found_written c.args.levels.now c.loop-level.level-index c.level-item.result c.loop-level-test.true c.level-item.is c.args.name.now _ found c.loop-level.invariant

pub returns : goal.returns
returns c = none_written c.args.levels.now c.loop-level.level-index c.args.name.now (omega arith) c.loop-level.invariant

pub find_in_order-requires : goal.find_in_order-requires
find_in_order-requires c =
    let rises = subst (λ (l : Bor Level). LevelRises l.now) (sym c.level-item.is) (c.requires c.loop-level.level-index c.level-item.result c.loop-level-test.true) in
    subst (λ (es : List (List ℕ × Written)). IsRising (keys_of es)) (sym c.as_slice.ensures) rises
