use Rattle.std.proofs.Common.{◌≡◌, ◌+◌, ◌-◌, ◌∙◌, ap, sym, arith, take, drop, length-drop, length-take}
use Rattle.std.proofs.lemmas.Bool.{eqb-true}
use Rattle.oim_records.specs.state.Scans.{fresh, scanned}
use Rattle.oim_records.proofs.Walks.{scan-kept, scanned-range}
use Rattle.oim_records.proofs.piece_reader.PieceReader.fill.Goals as goal

pub scan_blocks-self-inside-requires-clause-seen : goal.scan_blocks-self-inside-requires-clause-seen
scan_blocks-self-inside-requires-clause-seen g c =
    let a = c.self.inside in
    let now = c.read_to.new.bytes.items in
    let more = c.in-Ok.ensures in
    let room = c.in_ok-make_room.ensures.ready in
    let whole = more.length in
    let small = more.within in
    let kept : a.scan ≡ scanned fresh (take a.filled now) = c.self.invariant.2 ∙ ap (scanned fresh) (sym (more.before ∙ c.make_room.ensures.stays)) in
    let known = scan-kept fresh a.scan now a.filled (omega arith) (omega arith) kept in
    let seen = known.0 in
    let long = length-drop a.filled c.deref.result.now in
    let part = length-take (a.filled + c.in-Ok.size - a.filled) (drop a.filled c.deref.result.now) in
    let size = c.deref.ensures.len in
    omega arith

pub scan_blocks-self-inside-requires-clause-rows : goal.scan_blocks-self-inside-requires-clause-rows
scan_blocks-self-inside-requires-clause-rows g c =
    let a = c.self.inside in
    let now = c.read_to.new.bytes.items in
    let more = c.in-Ok.ensures in
    let room = c.in_ok-make_room.ensures.ready in
    let whole = more.length in
    let kept : a.scan ≡ scanned fresh (take a.filled now) = c.self.invariant.2 ∙ ap (scanned fresh) (sym (more.before ∙ c.make_room.ensures.stays)) in
    (scan-kept fresh a.scan now a.filled (omega arith) (omega arith) kept).1

pub invariant_of-self-in-Ok : goal.invariant_of-self-in-Ok
invariant_of-self-in-Ok g c =
    let a = c.self.inside in
    let now = c.read_to.new.bytes.items in
    let more = c.in-Ok.ensures in
    let room = c.in_ok-make_room.ensures.ready in
    let whole = more.length in
    let small = more.within in
    let size = c.in-Ok.size in
    let kept : a.scan ≡ scanned fresh (take a.filled now) = c.self.invariant.2 ∙ ap (scanned fresh) (sym (more.before ∙ c.make_room.ensures.stays)) in (
      omega arith,
      λ e. more.end (eqb-true size 0 e),
      c.scan_blocks-self-inside.ensures ∙ ap (λ xs. scanned a.scan (take (a.filled + size - a.filled) (drop a.filled xs))) c.deref.ensures.value ∙ scanned-range fresh a.scan now a.filled (a.filled + size) (omega arith) kept,
    )
