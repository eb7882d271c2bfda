use denote.Param.Send.{IsSend, arg_send, param_send, recorded_send, sendable, struct_send}
use denote.Param.{param}
use denote.Exit.{no}
use denote.Ref.{NamedLft}
use denote.Struct.Struct.{Struct}
use denote.Struct.Declared.{shape, row}
use denote.Struct.Field.{shr_ref_field}
use denote.Struct.Tuple.{type_at}
use mir.Syntax.{named, ty_ptr}
use Rattle.std.proofs.Common.{[], ◌∷◌}
use Rattle.oim_pieces.specs.contracts.at_work.AtWork as AtWork
use Rattle.oim_pieces.specs.contracts.helper_thread.HelperThread as HelperThread
use Rattle.oim_pieces.proofs.Sends.{helpers_sync, post_send}
use Rattle.oim_pieces.proofs.table_threads.start.Goals as goal

pub spawn-requires-send-F : goal.spawn-requires-send-F
spawn-requires-send-F g c κs within =
    let a : NamedLft = record { mir = named 5; lft = κs.1.1.1.1.1.0 } in
    let b : NamedLft = record { mir = named 6; lft = κs.1.1.1.1.1.1.0 } in
    let d : NamedLft = record { mir = named 7; lft = κs.1.1.1.1.1.1.1.0 } in
    let rt : IsSend ((shr_ref_field a (param 1 g.row.T) tt).row) = search (sendable, c.type_bounds.sync-T) in
    let at_work : IsSend ((shr_ref_field b AtWork.the_row tt).row) = search (sendable, helpers_sync) in
    let held = type_at [] ((shr_ref_field a (param 1 g.row.T) tt).row ∷ (shr_ref_field b AtWork.the_row tt).row ∷ HelperThread.the_row d ∷ []) in
    let all = recorded_send (Struct (shape held)) held.D held.to held.to_one (struct_send (shape held) (rt, (at_work, (post_send d, tt)))) in
    let s = param_send 1 _ (arg_send ty_ptr no (row held) all) in
    record { owned = s.owned; leaving = s.leaving }
