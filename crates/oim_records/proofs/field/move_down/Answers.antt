use Rattle.std.proofs.Common.{◌≡◌, ◌+◌, ◌-◌, ◌++◌, arith, drop, subst, take}
use Rattle.std.specs.Prelude.{slice_range}
use Rattle.oim_records.proofs.Moves.{behind-on, moved-on}
use Rattle.oim_records.proofs.field.move_down.Goals as goal

pub loop-at-preserved : goal.loop-at-preserved
loop-at-preserved c =
    let i = c.loop-at.invariant in
    let old = c.args.text.now in
    let mid = c.loop-at.text in
    let new = c.move_chunk.new.text in
    let place = c.args.place in
    let from = c.args.from in
    let at = c.loop-at.at in
    let low = i.low in
    let high = i.high in
    let size : 16 ≡ at + 16 - at = omega arith in
    let first = subst (λ n. take (place + (at - from) + n) new ≡ take (place + (at - from)) mid ++ slice_range mid at (at + 16)) size c.move_chunk.ensures.taken in
    let second = subst (λ n. drop (place + (at - from) + n) new ≡ drop (place + (at - from) + n) mid) size c.move_chunk.ensures.behind in
    record {
      low = omega arith;
      high = omega arith;
      taken = moved-on old mid new place from at (at + 16) low (omega arith) (omega arith) (omega arith) i.taken i.behind first;
      behind = behind-on old mid new place from at (at + 16) low (omega arith) i.behind second;
    }

pub returns-clause-taken : goal.returns-clause-taken
returns-clause-taken c =
    let i = c.loop-at.invariant in
    moved-on c.args.text.now c.loop-at.text c.move_few.new.text c.args.place c.args.from c.loop-at.at c.args.to i.low i.high (omega arith) (omega arith) i.taken i.behind c.move_few.ensures.taken

pub returns-clause-behind : goal.returns-clause-behind
returns-clause-behind c =
    let i = c.loop-at.invariant in
    behind-on c.args.text.now c.loop-at.text c.move_few.new.text c.args.place c.args.from c.loop-at.at c.args.to i.low i.high i.behind c.move_few.ensures.behind
