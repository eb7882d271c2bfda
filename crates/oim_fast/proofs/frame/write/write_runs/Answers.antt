use Rattle.std.proofs.Common.{◌≡◌, ◌+◌, ◌++◌, ◌∷◌, true, List, length, drop, get_or, sym, ap, subst, ◌∙◌, arith, append_assoc}
use Rattle.std.specs.Prelude.{slice_range}
use Rattle.std.specs.List.{flat_map}
use Rattle.std.proofs.lemmas.List.{drop_more, get_or_default}
use Rattle.oim_fast.specs.state.FrameTexts.{AreRuns, rest_from, segment_text, segments_from}
use Rattle.oim_fast.specs.state.Pieces.{behind}
use Rattle.oim_fast.specs.state.GivenTexts.{given_by, is_sound_by}
use Rattle.oim_fast.specs.declared.frame.frame_text.TextRun.{TextRun}
use Rattle.oim_fast.proofs.FrameTextLaws.{runs_within}
use Rattle.oim_text.proofs.PlacedBytes.{Placed-stays, Placed-then, Stays-then}
use Rattle.oim_row.proofs.Refreshed.{below_more}
use Rattle.oim_fast.proofs.WriteLaws.{one_less}
use Rattle.oim_fast.proofs.frame.write.write_runs.Goals as goal

abbrev none : TextRun
none = record { alone = 0; named = 0; reference = 0 }

pub write_run-requires-clause-range : goal.write_run-requires-clause-range
write_run-requires-clause-range c =
    let long = length c.args.text.now.items in
    let i = c.loop-i.i in
    let runs = c.args.runs.now in
    let h : AreRuns long c.loop-i.from (get_or runs i none ∷ drop (i + 1) runs) = subst (AreRuns long c.loop-i.from) (drop_more runs i none c.loop-i-test.true) c.loop-i.invariant.runs in
    (h.0, h.1, runs_within long (get_or runs i none).named (drop (i + 1) runs) h.2)

pub write_run-requires-clause-memory : goal.write_run-requires-clause-memory
write_run-requires-clause-memory c =
    let long = length c.args.text.now.items in
    let i = c.loop-i.i in
    let runs = c.args.runs.now in
    let h : AreRuns long c.loop-i.from (get_or runs i none ∷ drop (i + 1) runs) = subst (AreRuns long c.loop-i.from) (drop_more runs i none c.loop-i-test.true) c.loop-i.invariant.runs in
    let within = runs_within long (get_or runs i none).named (drop (i + 1) runs) h.2 in
    omega (arith, within, c.loop-i.invariant.few, c.loop-i.invariant.bytes.len, c.requires.memory, one_less (length runs) i c.args.most c.loop-i-test.true)

pub loop-i-preserved : goal.loop-i-preserved
loop-i-preserved c =
    let text = c.args.text.now.items in
    let i = c.loop-i.i in
    let runs = c.args.runs.now in
    let run = get_or runs i none in
    let left = drop (i + 1) runs in
    let rs = c.args.references.now in
    let spelled = segment_text (given_by rs) in
    let so = c.loop-i.invariant in
    let done = c.in_ok-end.ensures in
    let here = drop_more runs i none c.loop-i-test.true in
    let h : AreRuns (length text) c.loop-i.from (run ∷ left) = subst (AreRuns (length text) c.loop-i.from) here so.runs in
    let more = slice_range text c.loop-i.from run.alone ++ behind (slice_range text run.alone run.named) (given_by rs run.reference) in
    let later = flat_map spelled (segments_from text run.named left) in
    let last = rest_from text run.named left in
    let whole = subst (λ (q : List TextRun). so.written ++ (flat_map spelled (segments_from text c.loop-i.from q) ++ rest_from text c.loop-i.from q)
    ≡ flat_map spelled (segments_from text c.args.start runs) ++ rest_from text c.args.start runs) here so.whole in
    record {
      runs = h.2;
      written = so.written ++ more;
      bytes = Placed-then so.bytes done.bytes;
      whole = append_assoc so.written more (later ++ last) ∙ ap (λ q. so.written ++ q) (sym (append_assoc more later last)) ∙ whole;
      few = omega (arith, done.few, so.few, runs_within (length text) run.named left h.2, h.0, h.1, one_less (length runs) i c.args.most c.loop-i-test.true);
      sound = λ k d lt. below_more (λ (r : TextRun). is_sound_by rs r.reference ≡ true) runs i run c.loop-i-test.true (get_or_default runs i none run c.loop-i-test.true) so.sound done.sound k d lt;
    }

pub returns-in_err-end : goal.returns-in_err-end
returns-in_err-end c =
    let so = c.loop-i.invariant.bytes in
    rw c.from_residual.ensures (Stays-then (omega (arith, so.moved)) (Placed-stays (omega (arith, c.requires.memory)) so) c.in_err-end.ensures)
