use Rattle.std.proofs.Common.{◌≡◌, sym, ap, subst, arith, drop, take, []}
use Rattle.std.specs.Io.KnownBytes.{IsAtEnd, prepend_known}
use Rattle.oim_records.specs.PieceTaking.{TakesBytes, TextLeft, bytes_left}
use Rattle.oim_records.proofs.NoneEnds.{no-cut}
use Rattle.oim_records.proofs.Taken.{front-taken, rest-taken}
use Rattle.oim_records.proofs.piece_reader.PieceReader.next_within.Goals as goal

pub returns-then-self-clause-piece : goal.returns-then-self-clause-piece
returns-then-self-clause-piece g c =
    let old = bytes_left c.args.self.now in
    let held = c.loop.self.held in
    let behind = c.loop.self.behind in
    let piece = take c.take_all.result.1.at c.take_all.result.0.items in
    let end : IsAtEnd behind = subst IsAtEnd (ap (λ (t : TextLeft). t.behind) c.self.view_is) (c.self.invariant.1 c.if-self.true) in
    subst (λ t. TakesBytes old piece (bytes_left t)) (sym c.take_all.ensures.rest)
    (subst (λ f. TakesBytes old f (prepend_known [] behind)) (sym c.take_all.ensures.all) (rest-taken old behind held c.loop.invariant end))

pub returns-then-is_enough-clause-piece : goal.returns-then-is_enough-clause-piece
returns-then-is_enough-clause-piece g c =
    let old = bytes_left c.args.self.now in
    let held = c.loop.self.held in
    let behind = c.loop.self.behind in
    let at = c.cut-cut.result.at in
    let rows = c.cut-cut.result.rows in
    subst (λ t. TakesBytes old (take at c.in-Ok.front.items) (bytes_left t)) (sym c.in-Ok.ensures.rest)
    (subst (λ f. TakesBytes old f (prepend_known (drop at held) behind)) (sym c.in-Ok.ensures.front) (front-taken old behind held at rows c.loop.invariant c.cut-cut.ensures.divides))

pub returns-then-self-2-clause-failed : goal.returns-then-self-2-clause-failed
returns-then-self-2-clause-failed g c =
    let zero : c.cut-cut.result.at ≡ 0 = omega arith in
    λ _. no-cut c.loop.self.held c.cut-cut.result.at zero c.cut-cut.ensures.last
