use Rattle.std.proofs.Common.{◌≡◌, ◌∷◌, ◌++◌, ◌+◌, ◌∙◌, sym, ap, append_assoc, arith, length, Some, take, List, []}
use Rattle.std.specs.List.{position_from}
use Rattle.std.specs.Vec.Iter.{into_iter_items}
use Rattle.oim_decode.specs.Apart.{repeated_from}
use Rattle.oim_records.specs.Grids.{Field}
use Rattle.oim_decode.proofs.RepeatedIds.{IsAmong, found_again, is_new, new_passed, not_found, one_taken, some_is}
use Rattle.oim_decode.proofs.piece.piece_join.first_repeated.Goals as goal

pub returns-then-eq-clause-place : goal.returns-then-eq-clause-place
returns-then-eq-clause-place c =
    let l = c.loop-id in
    let before = c.args.before.now in
    let id = c.in-Some.id in
    let rest = into_iter_items c.next.new.self in
    let head = c.in-Some.ensures.steps.0 in
    let at : position_from (IsAmong before) l.place (id ∷ rest) ≡ Some l.place = rw head at (sym l.invariant.known ∙ some_is c.first_of-known.result l.place c.if-eq.ensures) in
    sym (l.invariant.place ∙ ap (repeated_from l.place l.before) head ∙ found_again before (take l.place c.args.ids.items) l.before l.place id rest l.invariant.begun at)

pub loop-id-preserved : goal.loop-id-preserved
loop-id-preserved c =
    let l = c.loop-id in
    let before = c.args.before.now in
    let ids = c.args.ids.items in
    let id = c.in-Some.id in
    let rest = into_iter_items c.next.new.self in
    let head = c.in-Some.ensures.steps.0 in
    let new = is_new (IsAmong l.before id) c.in_ok-add.field-0 c.in_ok-add.ensures.added c.if-not-branch.false in
    let more : c.add.new.self ≡ l.before ++ id ∷ [] = rw c.if-not-branch.false at c.in_ok-add.ensures.ids in
    let was : take l.place ids ++ id ∷ rest ≡ ids = rw head at l.invariant.seen in
    let taken = one_taken ids l.place id rest was (omega (arith, ap length head, l.invariant.count)) in
    record {
      place = l.invariant.place ∙ ap (repeated_from l.place l.before) head ∙ new_passed l.before l.place id rest new ∙ ap (λ (t : List Field). repeated_from (l.place + 1) t rest) (sym more);
      known = l.invariant.known ∙ ap (position_from (IsAmong before) l.place) head ∙ not_found before (take l.place ids) l.before l.place id rest l.invariant.begun new;
      joined = ap (λ (t : List Field). t ++ rest) more ∙ append_assoc l.before (id ∷ []) rest ∙ ap (λ (t : List Field). l.before ++ t) (sym head) ∙ l.invariant.joined;
      count = omega (arith, ap length head, l.invariant.count);
      seen = ap (λ (t : List Field). t ++ rest) taken ∙ append_assoc (take l.place ids) (id ∷ []) rest ∙ was;
      begun = more ∙ ap (λ (t : List Field). t ++ id ∷ []) l.invariant.begun ∙ append_assoc before (take l.place ids) (id ∷ []) ∙ ap (λ (t : List Field). before ++ t) (sym taken);
    }
