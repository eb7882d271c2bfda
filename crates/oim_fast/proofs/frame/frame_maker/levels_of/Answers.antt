use Rattle.std.proofs.Common.{◌≡◌, ◌++◌, ◌∷◌, [], ℕ, List, ap, subst, ◌∙◌}
use Rattle.oim_report.specs.InOrder.{LevelRises, PartsRise}
use Rattle.oim_report.specs.Readers.{template_of}
use Rattle.oim_report.specs.ReportValue.{ReportValue}
use Rattle.oim_report.specs.declared.data.Level.{Level}
use Rattle.oim_resolve.specs.ProgramCell.{held}
use Rattle.oim_fast.specs.state.ChosenGroups.{levels_at}
use Rattle.oim_fast.proofs.ChoiceLaws.{all_chosen, all_held, chosen_levels_rise, groups_within, levels_from, pushed}
use Rattle.oim_fast.proofs.frame.frame_maker.levels_of.Goals as goal

pub push_groups-requires : goal.push_groups-requires
push_groups-requires c = rw c.as_slice.ensures.value (groups_within c.args.row.now.header c.args.cells.now.list.items c.args.column.now c.requires.column)

all_levels : goal.returns-clause-levels
all_levels c =
    let f = c.args.row.now.header in
    let cells = c.args.cells.now.list.items in
    let column = c.args.column.now in
    let groups = column.groups.items in
    let template : c.template_level-template.result.now ≡ (template_of f.report f.table).level =
    c.template_level-template.ensures ∙ ap (λ (r : ReportValue). (template_of r c.table.result).level) c.report-report.ensures ∙ ap (λ (t : ℕ). (template_of f.report t).level) c.table.ensures.value in
    let general : c.report_level-general.result.now ≡ f.report.level = c.report_level-general.ensures ∙ ap (λ (r : ReportValue). r.level) c.report-report.ensures in
    let first : held c.push.new.self.items ≡ column.level.now ∷ [] =
    ap held c.in_ok-push.ensures.items ∙ pushed c.in_ok-levels.levels.items column.level [] (ap held c.in_ok-levels.ensures.items) in
    let own : held c.push_groups.new.levels.items ≡ column.level.now ∷ levels_at cells groups =
    c.in_ok-push_groups.ensures ∙ ap (λ ls. ls ++ levels_at cells c.as_slice.result.now) first ∙ ap (λ (ps : List ℕ). column.level.now ∷ levels_at cells ps) c.as_slice.ensures.value in
    let second = ap held c.in_ok-push-2.ensures.items ∙ pushed c.push_groups.new.levels.items c.template_level-template.result (column.level.now ∷ levels_at cells groups) own in
    let third = ap held c.in_ok-push-3.ensures.items ∙ pushed c.push-2.new.self.items c.report_level-general.result ((column.level.now ∷ levels_at cells groups) ++ c.template_level-template.result.now ∷ []) second in
    all_chosen f cells c.requires.cells column c.requires.column (held c.push-3.new.self.items)
    (third ∙ ap (λ (l : Level). levels_from column.level.now (levels_at cells groups) l c.report_level-general.result.now) template
    ∙ ap (λ (l : Level). levels_from column.level.now (levels_at cells groups) (template_of f.report f.table).level l) general)

pub returns-clause-levels : goal.returns-clause-levels
returns-clause-levels c = all_levels c

pub returns-clause-rise : goal.returns-clause-rise
returns-clause-rise c =
    let f = c.args.row.now.header in
    let order : PartsRise f.report.level f.report.templates f.report.tables = subst (λ (r : ReportValue). PartsRise r.level r.templates r.tables) c.report-report.ensures c.stands_in_order.ensures.order in
    all_held LevelRises c.push-3.new.self.items (chosen_levels_rise f c.args.cells.now.list.items c.requires.cells order c.args.column.now c.requires.column (held c.push-3.new.self.items) (returns-clause-levels c))
