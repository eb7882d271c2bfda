use Rattle.std.proofs.Common.{subst, sym}
use Rattle.std.specs.Borrow.{Bor}
use Rattle.std.specs.List.{All}
use Rattle.std.proofs.lemmas.List.Elements.{All-push}
use Rattle.oim_report.specs.InOrder.{LevelRises}
use Rattle.oim_report.specs.declared.data.Column.{Column}
use Rattle.oim_report.specs.declared.data.Level.{Level}
use Rattle.oim_resolve.proofs.LevelOrder.{all_pushed_one, column_level_rises, report_rises, template_rises}
use Rattle.oim_resolve.proofs.cell.dimensions.levels_of.Goals as goal

pub push_groups-requires : goal.push_groups-requires
push_groups-requires c =
    let p = c.args.cell in
    all_pushed_one (λ (l : Bor Level). LevelRises l.now) c.in_ok-levels.levels.items c.push.new.self.items _ c.in_ok-push.ensures.items c.in_ok-levels.ensures.items
    (subst (λ (k : Column). LevelRises k.level) (sym c.column-column.ensures.column) (column_level_rises p.report.now c.stands_in_order.ensures.order p.table p.column))

pub returns-clause-rise : goal.returns-clause-rise
returns-clause-rise c =
    let p = c.args.cell in
    let template = subst LevelRises (sym c.template_level-template.ensures) (template_rises p.report.now c.stands_in_order.ensures.order p.table) in
    let general = subst LevelRises (sym c.report_level-general.ensures) (report_rises p.report.now c.stands_in_order.ensures.order) in
    let two = subst (All (λ (l : Bor Level). LevelRises l.now)) (sym c.in_ok-push-2.ensures.items)
    (All-push (λ (l : Bor Level). LevelRises l.now) c.push_groups.new.levels.items c.template_level-template.result c.in_ok-push_groups.ensures.rise template) in
    subst (All (λ (l : Bor Level). LevelRises l.now)) (sym c.in_ok-push-3.ensures.items)
    (All-push (λ (l : Bor Level). LevelRises l.now) c.push-2.new.self.items c.report_level-general.result two general)
