use Rattle.std.proofs.Common.{arith, sym, ◌≡◌, ◌≤◌, None, length}
use Rattle.csv.specs.Records.{field_at}
use Rattle.oim_rows.proofs.Places.{field_at-none}
use Rattle.oim_rows.proofs.cells.field.Goals as goal

pub returns : goal.returns
returns g c = sym c.in-Some.ensures

pub unreachable-requires : goal.unreachable-requires
unreachable-requires g c =
    let none : field_at (g.C.Cells.cells c.args.row.now) c.args.i ≡ None = sym c.in-None.ensures in
    let past : length (g.C.Cells.cells c.args.row.now) ≤ c.args.i = field_at-none _ _ none in
    omega (arith, past, c.requires)
