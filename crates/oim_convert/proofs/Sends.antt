-- The types of this crate that may cross threads.
use denote.RattleType.{RattleType}
use denote.Param.Send.{IsSend, IsSync, sendable}
use Rattle.std.proofs.Crossing.{crosses}
use Rattle.oim_pieces.proofs.at_work.AtWork.TheSendSync as at_work
use Rattle.oim_pieces.specs.contracts.at_work.AtWork as AtWork
use Rattle.oim_ring.proofs.Sends.{closed_send, feed_send}
use Rattle.oim_convert.specs.contracts.table_task.TableTask as TableTask
use Rattle.oim_convert.specs.contracts.table_task.TaskResult as TaskResult

helpers_send : IsSend AtWork.the_row
helpers_send = at_work.the_send

helpers_sync : IsSync AtWork.the_row
helpers_sync = at_work.the_sync

pub task_send : (R : RattleType) → IsSend R → IsSend (TableTask.the_row R)
task_send R s = search (sendable, crosses, feed_send, helpers_send, helpers_sync) depth 20

pub task_result_send : IsSend TaskResult.the_row
task_result_send = search (sendable, crosses, closed_send) depth 20
