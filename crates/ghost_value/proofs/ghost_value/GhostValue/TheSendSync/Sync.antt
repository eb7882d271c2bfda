use denote.RattleType.{RattleType}
use denote.Param.Send.{IsSync}
use Rattle.ghost_value.proofs.Sent as sent
use Rattle.ghost_value.specs.contracts.ghost_value.GhostValue.{the_row}

pub sync : (T : RattleType) → IsSync (the_row T)
sync = sent.value_sync
