use Rattle.std.proofs.Common.{OnOk, subst}
use Rattle.std.specs.Io.KnownBytes.{Appends}
use Rattle.oim_places.specs.FaultRows.{no_cause}
use Rattle.oim_explain.specs.ListedFaults.{fault_text}
use Rattle.oim_explain.proofs.fault_list.put_alone.Goals as goal

pub returns : goal.returns
returns g c =
    let from = g.W.Write.contents c.args.to.now in
    let out = g.W.Write.contents c.put_fault.new.to in
    let place = c.in_ok-place.place in
    subst (λ p. OnOk c.put_fault.result (Appends from out (fault_text c.args.id.now c.args.fault.now p no_cause))) c.in_ok-place.ensures
    (subst (λ cause. OnOk c.put_fault.result (Appends from out (fault_text c.args.id.now c.args.fault.now place cause))) c.in_ok-cause.ensures c.put_fault.ensures)
