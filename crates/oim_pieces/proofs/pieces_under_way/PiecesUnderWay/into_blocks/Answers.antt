use Rattle.std.proofs.Common.{ap, option_map, ◌∙◌}
use Rattle.csv.specs.declared.parser.State.TheVariants as state
use Rattle.oim_records.specs.Grids.{records_left}
use Rattle.oim_records.specs.PieceTaking.{bytes_left}
use Rattle.oim_rows.specs.Streams.{stream_from}
use Rattle.oim_pieces.specs.state.PiecesUnderWay.{UnderWayLeft}
use Rattle.oim_pieces.proofs.UnderWayLaws.{rest_blocks}
use Rattle.oim_pieces.proofs.pieces_under_way.PiecesUnderWay.into_blocks.Goals as goal

pub returns-clause-left : goal.returns-clause-left
returns-clause-left g c =
    let header = c.into_decoder.result.header in
    let left = c.after_pieces-records.result.left in
    let ids = ap (λ (v : UnderWayLeft). v.ids) c.self.view_is in
    rest_blocks c.args.self.header header c.args.piece.first c.args.self.ids (records_left state.StartRecord c.args.piece.bytes.items) (bytes_left c.into_pieces.result)
    left c.args.self.cutter.left c.after_pieces.result.left (c.into_decoder.ensures ∙ ap (λ (v : UnderWayLeft). v.header) c.self.view_is) c.after_pieces-records.ensures
    (c.into_pieces.ensures ∙ ap (λ (v : UnderWayLeft). v.cutter.left) c.self.view_is)
    (c.after_pieces.ensures.left ∙ ap (λ l. option_map (stream_from header c.args.piece.first l) left) ids)
