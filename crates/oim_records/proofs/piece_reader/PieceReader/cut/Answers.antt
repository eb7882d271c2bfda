use Rattle.std.proofs.Common.{◌≡◌, ap, sym, subst, take}
use Rattle.oim_records.specs.Cuts.{Divides, NoLaterCut}
use Rattle.oim_records.specs.PieceTaking.{TextLeft}
use Rattle.oim_records.specs.declared.scan.Scan.{Scan}
use Rattle.oim_records.proofs.Meaning.{divides}
use Rattle.oim_records.proofs.piece_reader.PieceReader.cut.Goals as goal

pub returns-clause-divides : goal.returns-clause-divides
returns-clause-divides g c =
    let a = c.self.inside in
    let held = take a.filled a.bytes.items in
    let same : held ≡ c.args.self.now.held = ap (λ (t : TextLeft). t.held) c.self.view_is in
    subst (λ h. Divides h a.scan.cut a.scan.cut_rows) same (subst (λ (s : Scan). Divides held s.cut s.cut_rows) (sym c.self.invariant.2) (divides held).0)

pub returns-clause-last : goal.returns-clause-last
returns-clause-last g c =
    let a = c.self.inside in
    let held = take a.filled a.bytes.items in
    let same : held ≡ c.args.self.now.held = ap (λ (t : TextLeft). t.held) c.self.view_is in
    subst (λ h. NoLaterCut h a.scan.cut) same (subst (λ (s : Scan). NoLaterCut held s.cut) (sym c.self.invariant.2) (divides held).1)
