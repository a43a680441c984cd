use Rattle.mp_names.proofs.Listed.{packets_ascend, packet_In, packet_is}
use Rattle.mp_names.proofs.Owners.{owners_follow}
use Rattle.mp_names.proofs.laws.owners_follow_controls.Goals as goal

pub returns-clause-owners : goal.returns-clause-owners
returns-clause-owners c = owners_follow

pub returns-clause-moves : goal.returns-clause-moves
returns-clause-moves c = λ o. (packets_ascend o, (λ j b t. (packet_is o j b t, packet_In o j b t)))
