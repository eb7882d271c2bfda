use Rattle.std.proofs.Common.{◌≡◌, ◌*◌, length, sym, ap, ◌∙◌, arith}
use Rattle.oim_fast.specs.state.FactTexts.{frame_length}
use Rattle.oim_fast.specs.state.FrameTexts.{FrameValue}
use Rattle.oim_fast.proofs.FactTextLaws.{frame_length_is, segments_length}
use Rattle.oim_fast.proofs.frame.fact.room_for.Goals as goal

pub returns : goal.returns
returns c =
    let a = c.frame.inside in
    let t = c.args.frame.now in
    let all : frame_length t ≡ length a.text.items = ap frame_length (sym c.frame.view_is) ∙ frame_length_is a.text.items a.lead a.opening a.body a.runs.items c.frame.invariant.laid a.kind a.decimals in
    let segments : length t.segments ≡ length a.runs.items = ap (λ (q : FrameValue). length q.segments) (sym c.frame.view_is) ∙ segments_length a.text.items a.body a.runs.items in
    let count : c.len-count.result ≡ length t.segments = omega (arith, segments, c.len-count.ensures) in
    let products : c.len-count.result * c.args.most ≡ length t.segments * c.args.most = ap (λ n. n * c.args.most) count in
    omega (arith, all, products, c.len-size.ensures)
