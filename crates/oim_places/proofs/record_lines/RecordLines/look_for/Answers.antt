use Rattle.std.proofs.Common.{rules, ◌≤◌}
use Rattle.oim_records.specs.PieceTaking.{bytes_left}
use Rattle.oim_places.proofs.LineCounts.{on_further}
use Rattle.oim_places.proofs.record_lines.RecordLines.look_for.Goals as goal

pub invariant_of-self : goal.invariant_of-self
invariant_of-self g c = λ looks.
    let most : c.self.inside.next ≤ c.args.number = search rules in
    on_further (g.R.Read.remaining c.self.inside.file.value) c.self.inside.next c.args.number c.self.inside.lines c.in-Some.lines c.self.inside.piece.items c.self.inside.at
    (bytes_left c.self.inside.pieces) most c.in-Some.ensures (c.self.invariant looks)
