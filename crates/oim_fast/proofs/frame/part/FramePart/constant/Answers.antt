use Rattle.std.proofs.Common.{subst}
use Rattle.oim_cells.specs.Cells.{Meaning, seen_meaning}
use Rattle.oim_report.specs.ReportValue.{ReportValue}
use Rattle.oim_report.specs.declared.data.Side.{Side}
use Rattle.oim_resolve.specs.Facts.{role_of}
use Rattle.oim_resolve.specs.declared.role.Role.{Role}
use Rattle.oim_row.specs.Answers.{IsAnswer}
use Rattle.oim_fast.specs.state.FrameParts.{purpose_of}
use Rattle.oim_fast.specs.state.Pieces.{constant_meaning}
use Rattle.oim_row.specs.declared.purpose.Purpose.TheVariants.{Dimension}
use Rattle.oim_fast.proofs.PartLaws.{constant_value, some_same}
use Rattle.oim_fast.proofs.frame.part.FramePart.constant.Goals as goal

pub returns-clause-part : goal.returns-clause-part
returns-clause-part c = λ keys.
    let f = c.args.header.now in
    let n = c.args.name.now in
    let w = c.args.written.now in
    let a = c.read.new.self in
    let said : IsAnswer f.report (purpose_of f n w) (constant_meaning f w) a =
    subst (λ (v : Meaning). IsAnswer f.report (purpose_of f n w) v a) c.constant_of.ensures
    (subst (λ (s : Side). IsAnswer f.report (Dimension (role_of f.report n) s) (seen_meaning c.constant_of.result) a) c.side_of.ensures
    (subst (λ (o : Role). IsAnswer f.report (Dimension o c.side_of.result) (seen_meaning c.constant_of.result) a) c.requires.role
    (subst (λ (r : ReportValue). IsAnswer r (Dimension c.args.role c.side_of.result) (seen_meaning c.constant_of.result) a) c.report.ensures c.read.ensures)))
    in
    record {
      role = c.requires.role;
      value = constant_value f keys n w a _ _ _ c.requires.same said c.in_ok-text.ensures c.in_ok-value.ensures;
      same = some_same a.kind c.requires.same;
      concept = said.concept;
    }
