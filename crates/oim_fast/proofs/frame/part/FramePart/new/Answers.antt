use Rattle.std.proofs.Common.{◌≡◌, Some, sym, ap, ◌∙◌}
use Rattle.oim_report.specs.ReportValue.{ReportValue}
use Rattle.oim_report.specs.declared.data.Side.{Side}
use Rattle.oim_resolve.specs.Facts.{role_of}
use Rattle.oim_resolve.specs.declared.role.Role.{Role}
use Rattle.oim_rows.specs.RowFacts.{TableHeaderValue}
use Rattle.oim_fast.specs.state.FrameParts.{purpose_of}
use Rattle.oim_row.specs.References.{Key}
use Rattle.oim_row.specs.Sources.{seen_source, source_written}
use Rattle.oim_row.specs.declared.purpose.Purpose.{Purpose}
use Rattle.oim_row.specs.declared.purpose.Purpose.TheVariants.{Dimension}
use Rattle.oim_fast.proofs.PartLaws.{key_there}
use Rattle.oim_fast.proofs.frame.part.FramePart.new.Goals as goal

pub returns-clause-part : goal.returns-clause-part
returns-clause-part c =
    let f = c.args.row.now.header in
    let n = c.args.name.now in
    let w = c.args.written.now in
    let source = seen_source c.in-Some.source in
    let role : c.of-role.result ≡ role_of f.report n = c.of-role.ensures ∙ ap (λ (r : ReportValue). role_of r n) c.report.ensures in
    let purpose : Dimension c.of-role.result c.side_of.result ≡ purpose_of f n w =
    ap (λ (o : Role). Dimension o c.side_of.result) role ∙ ap (λ (s : Side). Dimension (role_of f.report n) s) c.side_of.ensures in
    let key : Purpose → Key = λ p. record { purpose = p; source = source } in
    record {
      role = role;
      value = (
        record {
          source = source;
          written = sym (c.in-Some.ensures ∙ ap (λ (g : TableHeaderValue). source_written g w) c.header.ensures);
          there = key_there c.place_for.new.self c.in_ok-place.place (key (purpose_of f n w)) (c.in_ok-place.ensures.place ∙ ap (λ (p : Purpose). Some (key p)) purpose);
        },
        c.in_ok-text.ensures,
      );
      same = tt;
      concept = tt;
    }
