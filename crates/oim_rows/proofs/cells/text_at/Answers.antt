use Rattle.std.proofs.Common.{◌≡◌, refl, sym, Some, None}
use Rattle.csv.specs.Records.{field_at}
use Rattle.oim_rows.proofs.Places.{utf8-field_at}
use Rattle.oim_rows.proofs.cells.text_at.Goals as goal

pub unreachable-requires : goal.unreachable-requires
unreachable-requires g c =
    let at : field_at (g.C.Cells.cells c.args.row.now) c.in-Some.i ≡ Some c.in-Some-cell.cell.now = sym c.in-Some-cell.ensures in
    c.in-Err.ensures.cases.0 (utf8-field_at 0 c.in-Some.i (g.C.Cells.cells c.args.row.now) c.in-Some-cell.cell.now c.requires at)

pub returns-in-Ok : goal.returns-in-Ok
returns-in-Ok g c =
    let at : field_at (g.C.Cells.cells c.args.row.now) c.in-Some.i ≡ Some c.in-Some-cell.cell.now = sym c.in-Some-cell.ensures in
    let text : c.in-Ok.text.now ≡ c.in-Some-cell.cell.now = c.in-Ok.ensures.cases.0 in
    rw (c.in-Some.is, at) text

pub returns-in-None-cell : goal.returns-in-None-cell
returns-in-None-cell g c =
    let none : field_at (g.C.Cells.cells c.args.row.now) c.in-Some.i ≡ None = sym c.in-None-cell.ensures in
    rw (c.in-Some.is, none) refl
