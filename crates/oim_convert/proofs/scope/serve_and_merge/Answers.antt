use denote.Param.Send.{sendable}
use Rattle.std.proofs.Crossing.{crosses}
use Rattle.oim_convert.proofs.Sends.{task_send, task_result_send}
use Rattle.oim_convert.proofs.scope.serve_and_merge.Goals as goal

pub start_crew-crew-requires-send-V : goal.start_crew-crew-requires-send-V
start_crew-crew-requires-send-V g c κs within = search (sendable, crosses, task_send) depth 20

pub start_crew-crew-requires-send-O : goal.start_crew-crew-requires-send-O
start_crew-crew-requires-send-O g c κs within = search (sendable, crosses, task_result_send) depth 20
