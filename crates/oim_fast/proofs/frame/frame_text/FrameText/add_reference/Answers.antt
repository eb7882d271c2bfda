use Rattle.std.proofs.Common.{◌≡◌, refl}
use Rattle.oim_fast.specs.declared.frame.frame_text.TextRun.{TextRun}
use Rattle.oim_fast.proofs.FrameTextLaws.{filled_more, filled_run, run_at_end, seen_run}
use Rattle.oim_fast.proofs.frame.frame_text.FrameText.add_reference.Goals as goal

pub invariant_of-self-in_err-push : goal.invariant_of-self-in_err-push
invariant_of-self-in_err-push c =
    let a = c.self.inside in
    rw c.in_err-push.ensures.items (filled_more a.kind a.form a.text.items a.lead a.opening a.body a.runs.items c.self.invariant c.args.name.now _ c.in_ok-put.ensures.items)

pub invariant_of-self-2 : goal.invariant_of-self-2
invariant_of-self-2 c =
    let a = c.self.inside in
    let name = c.args.name.now in
    let i = c.args.reference in
    let run : TextRun = record { alone = c.len-alone.result; named = c.len.result; reference = i } in
    let is : run ≡ run_at_end a.text.items name i = rw (c.len-alone.ensures, c.len.ensures, c.in_ok-put.ensures.items) refl in
    filled_run a.kind a.form a.text.items a.lead a.opening a.body a.runs.items c.self.invariant name _ i run c.push.new.self.items is c.in_ok-put.ensures.items c.in_ok-push.ensures.items

pub returns : goal.returns
returns c =
    let a = c.self.inside in
    let name = c.args.name.now in
    let i = c.args.reference in
    let run : TextRun = record { alone = c.len-alone.result; named = c.len.result; reference = i } in
    let is : run ≡ run_at_end a.text.items name i = rw (c.len-alone.ensures, c.len.ensures, c.in_ok-put.ensures.items) refl in
    seen_run a.kind a.form a.text.items a.lead a.opening a.body a.runs.items c.self.invariant name _ i run c.push.new.self.items is c.in_ok-put.ensures.items c.in_ok-push.ensures.items a.decimals c.args.self.now c.self.view_is
