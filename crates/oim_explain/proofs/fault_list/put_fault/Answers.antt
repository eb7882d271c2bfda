use Rattle.std.proofs.Common.{◌∙◌, OnOk, subst}
use Rattle.std.specs.Io.KnownBytes.{Appends}
use Rattle.oim_explain.proofs.fault_list.put_fault.Goals as goal

pub returns : goal.returns
returns g c =
    subst (λ t. OnOk c.write_all.result (Appends (g.W.Write.contents c.args.to.now) (g.W.Write.contents c.write_all.new.self) t)) (c.as_slice.ensures.value ∙ c.in_ok-row.ensures.written)
    c.write_all.ensures.bytes
