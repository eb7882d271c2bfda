use Rattle.std.proofs.Common.{◌≡◌, ◌∙◌, ◌≤◌, Some, None, drop, fold, length, sym, take}
use Rattle.oim_records.specs.PieceTaking.{bytes_left}
use Rattle.oim_places.specs.LineNumbers.{after_byte, line_in}
use Rattle.oim_places.specs.state.RecordLines.{StopsAt}
use Rattle.oim_places.proofs.LineCounts.{has_line, no_line, on_found, on_passed, on_resumed, rest_is}
use Rattle.oim_places.proofs.record_lines.RecordLines.pass.Goals as goal

pub invariant_of-self : goal.invariant_of-self
invariant_of-self g c = λ looks.
    let count = c.until_begun-count.result.1 in
    let rest = drop c.self.inside.at c.self.inside.piece.items in
    let most : count ≤ length rest = rw (c.deref.ensures.value, rest_is c.self.inside.piece.items c.self.inside.at) at c.until_begun-count.ensures.within in
    let is : c.until_begun-count.result.0 ≡ fold after_byte c.self.inside.lines (take count rest) = rw (c.deref.ensures.value, rest_is c.self.inside.piece.items c.self.inside.at) at c.until_begun-count.ensures.counter in
    let none : line_in c.until_begun-count.result.0 ≡ None = sym c.line.ensures ∙ c.in_default.is in
    on_passed (g.R.Read.remaining c.self.inside.file.value) c.self.inside.next count c.self.inside.lines c.until_begun-count.result.0 c.self.inside.piece.items c.self.inside.at
    (bytes_left c.self.inside.pieces) most is (no_line c.until_begun-count.result.0 none) (c.self.invariant looks)

pub invariant_of-self-2 : goal.invariant_of-self-2
invariant_of-self-2 g c = λ looks.
    let count = c.until_begun-count.result.1 in
    let rest = drop c.self.inside.at c.self.inside.piece.items in
    let most : count ≤ length rest = rw (c.deref.ensures.value, rest_is c.self.inside.piece.items c.self.inside.at) at c.until_begun-count.ensures.within in
    let is : c.until_begun-count.result.0 ≡ fold after_byte c.self.inside.lines (take count rest) = rw (c.deref.ensures.value, rest_is c.self.inside.piece.items c.self.inside.at) at c.until_begun-count.ensures.counter in
    let found = has_line c.until_begun-count.result.0 c.in-Some.line (sym c.line.ensures ∙ c.in-Some.is) in
    let stops : StopsAt c.self.inside.lines rest count = rw (c.deref.ensures.value, rest_is c.self.inside.piece.items c.self.inside.at) at c.until_begun-count.ensures.found found in
    on_resumed (g.R.Read.remaining c.self.inside.file.value) c.self.inside.next count c.self.inside.lines c.until_begun-count.result.0 c.resumed-self-inside.result
    c.self.inside.piece.items c.self.inside.at (bytes_left c.self.inside.pieces) most is stops found c.resumed-self-inside.ensures (c.self.invariant looks)

pub returns-clause-line : goal.returns-clause-line
returns-clause-line g c =
    let count = c.until_begun-count.result.1 in
    let rest = drop c.self.inside.at c.self.inside.piece.items in
    let is : c.until_begun-count.result.0 ≡ fold after_byte c.self.inside.lines (take count rest) = rw (c.deref.ensures.value, rest_is c.self.inside.piece.items c.self.inside.at) at c.until_begun-count.ensures.counter in
    let found : line_in c.until_begun-count.result.0 ≡ Some c.in-Some.line = sym c.line.ensures ∙ c.in-Some.is in
    rw (← c.self.view_is)
    (on_found (g.R.Read.remaining c.self.inside.file.value) c.self.inside.next count c.in-Some.line c.self.inside.lines c.until_begun-count.result.0 c.self.inside.piece.items
    c.self.inside.at (bytes_left c.self.inside.pieces) is found (c.self.invariant c.if-self.false))
