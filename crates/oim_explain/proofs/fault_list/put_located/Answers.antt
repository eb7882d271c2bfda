use Rattle.std.proofs.Common.{◌≡◌, ◌+◌, ◌-◌, suc, None, Some, arith, drop, subst, sym}
use Rattle.std.proofs.lemmas.List.{drop_all}
use Rattle.oim_explain.specs.ListedFaults.{WritesEach}
use Rattle.oim_explain.specs.state.ListedRows.{located_record}
use Rattle.oim_explain.proofs.FaultTexts.{each_more, each_none, each_one, next_is}
use Rattle.oim_explain.proofs.fault_list.put_located.Goals as goal

pub returns-then-left-eq0 : goal.returns-then-left-eq0
returns-then-left-eq0 g c =
    let now = g.W.Write.contents c.loop-fault.to in
    let out = g.W.Write.contents c.put_more.new.to in
    let rec = located_record c.args.id.now in
    let is = next_is c.args.located.now c.loop-fault.fault-index c.loop-fault-item.result c.loop-fault-item.is c.loop-fault-test.true in
    let none : c.loop-fault.left ≡ 0 = let zero = c.if-left-eq0.true in omega (arith, zero) in
    c.loop-fault.invariant out None (subst (λ xs. WritesEach now out c.args.id.now c.loop-fault.left rec xs None) (sym is)
    (each_more now out c.args.id.now c.loop-fault.left rec _ _ none c.in_ok-put_more.ensures))

pub loop-fault-preserved : goal.loop-fault-preserved
loop-fault-preserved g c =
    let now = g.W.Write.contents c.loop-fault.to in
    let rec = located_record c.args.id.now in
    let is = next_is c.args.located.now c.loop-fault.fault-index c.loop-fault-item.result c.loop-fault-item.is c.loop-fault-test.true in
    let some : c.loop-fault.left ≡ suc (c.loop-fault.left - 1) = let more = c.if-left-eq0.false in omega (arith, more) in
    λ out after others. c.loop-fault.invariant out after (subst (λ xs. WritesEach now out c.args.id.now c.loop-fault.left rec xs after) (sym is)
    (each_one now (g.W.Write.contents c.put_fault.new.to) out c.args.id.now c.loop-fault.left (c.loop-fault.left - 1) rec _ (drop (c.loop-fault.fault-index + 1) c.args.located.now) _ after
    some c.in_ok-put_fault.ensures others))

pub returns : goal.returns
returns g c =
    let now = g.W.Write.contents c.loop-fault.to in
    let rec = located_record c.args.id.now in
    let none = drop_all c.loop-fault.fault-index c.args.located.now c.loop-fault-test.false in
    c.loop-fault.invariant now (Some c.loop-fault.left) (subst (λ xs. WritesEach now now c.args.id.now c.loop-fault.left rec xs (Some c.loop-fault.left)) (sym none)
    (each_none now c.args.id.now c.loop-fault.left rec))
