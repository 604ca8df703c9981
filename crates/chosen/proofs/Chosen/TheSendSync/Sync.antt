use denote.RattleType.{RattleType}
use denote.Param.Send.{IsSync, part_keyless}
use Rattle.chosen.specs.contracts.Chosen.{the_row}
use Rattle.chosen.proofs.Chosen.TheSendSync.Send.{send}

pub sync : (Y : RattleType) → IsSync (the_row Y)
sync Y = record { shared = λ d b o κ q. part_keyless (the_row Y) (send Y) q d b o }
