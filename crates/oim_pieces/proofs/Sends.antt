-- A decoder and its answers may move between threads.
use denote.Param.Send.{IsSend, IsSync, sendable, view_send}
use denote.Param.SendFields.{declared_send, variants_send}
use denote.Ref.{NamedLft}
use Rattle.std.proofs.Crossing.{crosses}
use Rattle.oim_json.proofs.spare.Spare.TheSendSync as spare
use Rattle.oim_json.specs.contracts.spare.Spare as Spare
use Rattle.oim_fast.proofs.table.row_writer.RowWriter.TheSendSync as writer
use Rattle.oim_fast.specs.contracts.table.row_writer.RowWriter as Writer
use Rattle.oim_records.proofs.piece_records.PieceRecords.TheSendSync as records
use Rattle.oim_records.specs.contracts.piece_records.PieceRecords as Records
use Rattle.oim_report.proofs.data.Column.TheSendSync as column
use Rattle.oim_report.specs.contracts.data.Column as Column
use Rattle.oim_pieces.proofs.at_work.AtWork.TheSendSync as at_work
use Rattle.oim_pieces.specs.contracts.at_work.AtWork as AtWork
use Rattle.oim_rows.proofs.table_header.TableHeader.TheSendSync as header
use Rattle.oim_rows.proofs.ids.RowIds.TheSendSync as ids
use Rattle.oim_rows.specs.contracts.table_header.TableHeader as Header
use Rattle.oim_rows.specs.contracts.ids.RowIds as Ids
use Rattle.oim_rows.specs.contracts.row_plan.RowPlan as RowPlan
use Rattle.oim_decode.proofs.piece.piece_answer.PieceAnswer.TheSendSync as answer
use Rattle.oim_decode.specs.contracts.piece.piece_answer.PieceAnswer as Answer
use Rattle.oim_decode.specs.contracts.piece.piece_decoder.PieceDecoder as Decoder
use Rattle.keyed.proofs.ends.Giver.TheSendSync as giver
use Rattle.keyed.proofs.ends.Taker.TheSendSync as taker
use Rattle.keyed.specs.contracts.ends.Giver as Giver
use Rattle.oim_pieces.proofs.thread_spares.ThreadSpares.TheSendSync as kept
use Rattle.oim_pieces.specs.contracts.thread_spares.ThreadSpares as ThreadSpares
use Rattle.oim_pieces.specs.contracts.decoded.Asked as Asked
use Rattle.oim_pieces.specs.contracts.in_channel.OfPiece as OfPiece
use Rattle.oim_pieces.specs.contracts.in_channel.OfPieceFitAskedInChannel.TheImpl as of_piece
use Rattle.oim_pieces.specs.contracts.in_channel.OfTable as OfTable
use Rattle.oim_pieces.specs.contracts.in_channel.OfTableFitAskedJob.TheImpl as of_table
use Rattle.oim_pieces.specs.contracts.in_channel.PieceToDecode as PieceToDecode
use Rattle.oim_pieces.specs.contracts.in_channel.DecodedPiece as DecodedPiece
use Rattle.oim_pieces.specs.contracts.in_channel.InChannel as InChannel
use Rattle.oim_pieces.specs.contracts.helper_thread.HelperSetup as HelperSetup
use Rattle.oim_pieces.specs.contracts.helper_thread.HelperThread as HelperThread
use Rattle.oim_pieces.specs.contracts.helper_thread.HelperThread.TheInside as Inside

pub answer_send : IsSend Answer.the_row
answer_send = answer.the_send

column_sync : IsSync Column.the_row
column_sync = column.the_sync

row_plan_send : (a : NamedLft) → IsSend (RowPlan.the_row a)
row_plan_send a = search (sendable, crosses, column_sync) depth 20

header_send : (a : NamedLft) → IsSend (Header.the_row a)
header_send a = header.the_send a

writer_send : (a : NamedLft) → IsSend (Writer.the_row a)
writer_send a = writer.the_send a

records_send : IsSend Records.the_row
records_send = records.the_send

spare_send : IsSend Spare.the_row
spare_send = spare.the_send

pub helpers_sync : IsSync AtWork.the_row
helpers_sync = at_work.the_sync

ids_send : IsSend Ids.the_row
ids_send = ids.the_send

pub decoder_send : (a : NamedLft) → IsSend (Decoder.the_row a)
decoder_send a = search (sendable, crosses, row_plan_send, header_send, writer_send, records_send, ids_send, spare_send) depth 20

spares_send : IsSend ThreadSpares.the_row
spares_send = kept.the_send

decoded_send : IsSend DecodedPiece.the_row
decoded_send = search (sendable, crosses, answer_send) depth 20

to_decode_send : (a : NamedLft) → IsSend (PieceToDecode.the_row a)
to_decode_send a = search (sendable, crosses) depth 20

channel_send : (a : NamedLft) → IsSend (InChannel.the_row a)
channel_send a = variants_send (InChannel.enum a) ((to_decode_send a, tt), ((decoded_send, tt), tt))

job_send : (a : NamedLft) → IsSend (Giver.the_row (InChannel.the_row a) (Asked.the_row a) OfPiece.the_row of_piece.ghosts)
job_send a = giver.the_send (InChannel.the_row a) (Asked.the_row a) OfPiece.the_row of_piece.ghosts (channel_send a)

station_send : (a : NamedLft) → IsSend (HelperSetup.the_row a)
station_send a =
    let job = Giver.the_row (InChannel.the_row a) (Asked.the_row a) OfPiece.the_row of_piece.ghosts in
    let share = taker.the_send job (Asked.the_row a) OfTable.the_row of_table.ghosts (job_send a) in
    declared_send (HelperSetup.the_type a) (share, (spares_send, (search sendable, tt)))

pub post_send : (a : NamedLft) → IsSend (HelperThread.the_row a)
post_send a = view_send (Inside.the_row a) _ _ _ _ (declared_send (Inside.the_type a) (decoder_send a, (station_send a, tt)))
