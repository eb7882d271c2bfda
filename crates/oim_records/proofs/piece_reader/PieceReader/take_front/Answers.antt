use Rattle.std.proofs.Common.{◌≡◌, ◌≤◌, ◌-◌, ◌∙◌, ap, sym, arith, take, drop, length, length-take-le, List, ℕ, Vec, Global}
use Rattle.oim_records.specs.PieceTaking.{TextLeft}
use Rattle.oim_records.proofs.Ranges.{part-of}
use Rattle.oim_records.proofs.piece_reader.PieceReader.take_front.Goals as goal

pub returns-clause-rest : goal.returns-clause-rest
returns-clause-rest g c =
    let a = c.self.inside in
    let at = c.args.at in
    let left = c.in_ok-rest.left in
    let known = g.R.Read.remaining a.reader in
    let put : List ℕ → TextLeft = λ h. record { held = h; behind = known } in
    let cut : TextLeft → TextLeft = λ t. record { held = drop at t.held; behind = t.behind } in
    let moved : take left c.replace.new.dest.items ≡ take (a.filled - at) (drop at a.bytes.items) =
    ap (λ (v : Vec ℕ Global). take left v.items) c.replace.ensures.after ∙ c.in_ok-rest.ensures.front ∙ ap (λ xs. take (a.filled - at) (drop at xs)) c.deref.ensures.value in
    let size : length (take a.filled a.bytes.items) ≡ a.filled = length-take-le a.filled a.bytes.items c.self.invariant.0 in
    let same : length (take a.filled a.bytes.items) ≡ length c.args.self.now.held = ap (λ (t : TextLeft). length t.held) c.self.view_is in
    let low : at ≤ a.filled = omega (arith, c.requires) in
    ap put (moved ∙ sym (part-of a.bytes.items at a.filled low)) ∙ ap cut c.self.view_is
