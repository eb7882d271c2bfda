use Rattle.oim_run.specs.CommandLine.{command_line}
use Rattle.oim_run.proofs.settings.command.Goals as goal

pub returns : goal.returns
unfolding command_line
returns c =
    let one = c.with-command.ensures _ _ c.inputs.ensures c.number_option-workers.ensures.rule in
    let two = c.with-command-2.ensures _ _ one c.number_option-ring.ensures.rule in
    let three = c.with-command-3.ensures _ _ two c.option.ensures.rule in
    let four = c.with-command-4.ensures _ _ three c.flag-whole.ensures.rule in
    let five = c.with-command-5.ensures _ _ four c.word_option-layout.ensures.rule in
    let six = c.with-command-6.ensures _ _ five c.flag-progress.ensures.rule in
    let seven = c.with-command-7.ensures _ _ six c.flag-explain.ensures.rule in
    let eight = c.with-command-8.ensures _ _ seven c.flag-no_explain.ensures.rule in
    let nine = c.with-command-9.ensures _ _ eight c.option-2.ensures.rule in
    let ten = c.with-command-10.ensures _ _ nine c.number_option-most_faults.ensures.rule in
    c.with.ensures _ _ ten c.option-3.ensures.rule
