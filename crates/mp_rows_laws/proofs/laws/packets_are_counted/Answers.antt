use Rattle.mp_rows_laws.proofs.Packets.{packet_sent, packet_taken}
use Rattle.mp_rows_laws.proofs.laws.packets_are_counted.Goals as goal

pub returns-clause-sent : goal.returns-clause-sent
returns-clause-sent c = λ o w log ok j b t left more. packet_sent o w log ok j b t left more

pub returns-clause-taken : goal.returns-clause-taken
returns-clause-taken c = λ o w log ok j b t come more. packet_taken o w log ok j b t come more
