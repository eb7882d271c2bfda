use Rattle.std.specs.Prelude.{ℕ, List, length}
use Rattle.std.proofs.Common.{ap, sym, ◌∙◌, subst}
use Rattle.oim_ring.specs.Ends.{DrainView}
use Rattle.oim_merge.specs.Merging.{EndEach, Merges, rings_of, taken_of}
use Rattle.oim_convert.proofs.WrittenBack.{written_back}
use Rattle.oim_convert.proofs.scope.merge_all.Goals as goal

pub returns : goal.returns
returns g c =
    let old = g.W.Sink.seen c.args.sink.now in
    let new = g.W.Sink.seen c.merge-end.new.sink in
    let before = c.args.unmerged.drains in
    let after = c.merge-end.new.drains in
    let layout = c.args.unmerged.layout in
    let faults = c.merge-end.new.faults.items in
    let same = sym (written_back before.len after before.items (c.merge-end.auto.drains ∙ ap (λ l. length l) c.as_mut_slice-all.ensures.value) before.ok.0) in
    let merged = subst (λ (head : List ℕ). Merges layout old new head (taken_of after) faults c.merge-end.result) c.as_slice.ensures.value c.merge-end.ensures.merged in record {
      rings = ap rings_of (sym same) ∙ (c.merge-end.ensures.rings ∙ ap rings_of c.as_mut_slice-all.ensures.value);
      ended = subst (λ (l : List DrainView). EndEach (taken_of l)) same c.merge-end.ensures.ended;
      written = subst (λ (l : List DrainView). Merges layout old new c.args.unmerged.head.items (taken_of l) faults c.merge-end.result) same merged;
    }
