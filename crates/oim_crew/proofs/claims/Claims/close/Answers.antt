use Rattle.std.proofs.Common.{arith, ap, sym, ◌∙◌, cond, ◌++◌, length}
use Rattle.std.specs.Option.{option_to_list}
use Rattle.oim_crew.specs.Numbers.{times, once_below}
use Rattle.oim_crew.proofs.PoppedSeats.{sum-pop, all-pop, sum-empty}
use Rattle.oim_crew.proofs.ViewShares.{settles, times-append, times-flat_map}
use Rattle.oim_crew.proofs.claims.Claims.close.Goals as goal

pub loop-seat-init : goal.loop-seat-init
loop-seat-init g c =
    let popped = c.pop.ensures.items ∙ ap (λ r. c.pop.new.self.items ++ option_to_list r) c.unwrap.ensures in
    let mine = all-pop _ _ _ popped c.args.self c.requires.mine in
    let is = c.into_token-whole.ensures.view in
    let one = c.into_token-whole.ensures.one in
    let count = c.requires.count in
    let len = c.pop.ensures.len in let last = ap (λ r. length (option_to_list r)) c.unwrap.ensures in
    record {
      mine = mine.0;
      place = ap (λ d. d.claims.id) is ∙ ap (λ d. d.id) mine.1 ∙ sym (ap (λ d. d.id) c.self.view_is);
      some = omega arith;
      shares = omega arith;
      finished = omega (arith, sum-pop _ _ _ popped (λ seat. cond seat.finished 1 0));
      numbers = λ k. omega (arith, sum-pop _ _ _ popped (λ seat. times k seat.numbers), ap (λ d. times k d.numbers) is);
    }

pub loop-seat-preserved : goal.loop-seat-preserved
loop-seat-preserved g c =
    let popped = c.in-Some.ensures.items in
    let mine = all-pop _ _ _ popped c.args.self c.loop-seat.invariant.mine in
    let view = c.gather.ensures.view in let old = c.loop-seat.invariant in
    let share = ap (λ v. v.share) view in let ended = ap (λ v. v.finished) view in
    let len = c.in-Some.ensures.len in
    record {
      mine = mine.0;
      place = c.gather.ensures.place ∙ c.loop-seat.invariant.place;
      some = omega arith;
      shares = omega arith;
      finished = omega (arith, sum-pop _ _ _ popped (λ seat. cond seat.finished 1 0));
      numbers = λ k.
          omega (
            arith,
            sum-pop _ _ _ popped (λ seat. times k seat.numbers),
            times-append k c.loop-seat.whole.me.0.drawn c.in-Some.seat.numbers,
            ap (λ v. times k v.drawn) view,
            c.loop-seat.invariant.numbers k,
          );
    }

pub returns : goal.returns
returns g c k =
    let seen = c.close_with.ensures.values.2.1 in
    let old = c.loop-seat.invariant in
    let empty = c.in_default.ensures.cases.0 in
    let len = c.loop-seat.seats.ok.0 in
    let numbers = c.loop-seat.invariant.numbers k in
    let no_more = sum-empty c.loop-seat.seats.items (λ seat. times k seat.numbers) (omega arith) in
    let no_end = sum-empty c.loop-seat.seats.items (λ seat. cond seat.finished 1 0) (omega arith) in
    let some_end = c.requires.finished in
    let workers = ap (λ d. d.workers) c.self.view_is in
    let drawn = settles _ _ _ _ _ seen.0 seen.1 (omega arith) (omega arith) k in
    let same = ap (λ d. once_below (length d.items) k) c.self.view_is in
    times-flat_map (λ seat. seat.numbers) k c.args.seats.items ∙ omega arith
