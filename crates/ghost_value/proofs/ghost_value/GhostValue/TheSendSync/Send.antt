use denote.RattleType.{RattleType}
use denote.Param.Send.{IsSend}
use Rattle.ghost_value.proofs.Sent as sent
use Rattle.ghost_value.specs.contracts.ghost_value.GhostValue.{the_row}

pub send : (T : RattleType) → IsSend (the_row T)
send = sent.value_send
