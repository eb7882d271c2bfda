use Rattle.std.proofs.Common.{◌∷◌, [], ◌++◌, ap, ◌∙◌, append_assoc, arith}
use Rattle.std.proofs.lemmas.List.{length_push}
use Rattle.oim_row.specs.state.Kept.{IsEmptyPlace}
use Rattle.oim_row.proofs.Growth.{all_push}
use Rattle.oim_row.proofs.row_reference.add_places.Goals as goal

pub loop-i-preserved : goal.loop-i-preserved
loop-i-preserved c =
    let so = c.loop-i.invariant.more in
    rw c.in_ok-push.ensures.items (record {
      more = record {
        more = so.more ++ c.new.result ∷ [];
        is = ap (λ xs. xs ++ c.new.result ∷ []) so.is ∙ append_assoc c.args.answers.now.items so.more (c.new.result ∷ []);
        empty = all_push IsEmptyPlace so.more c.new.result so.empty c.new.ensures;
      };
      count = omega (arith, length_push c.loop-i.answers.items c.new.result, c.loop-i.invariant.count);
    })
