-- Why a worker stops, by why a part of its step was refused.
use Rattle.mp_board.specs.declared.causes.HubStop.{HubStop}
use Rattle.mp_board.specs.declared.causes.HubStop.TheVariants as hub
use Rattle.mp_output.specs.declared.refused.OutRefused.{OutRefused}
use Rattle.mp_output.specs.declared.refused.OutRefused.TheVariants.{WriteFault, NoMemory}
use Rattle.mp_turns.specs.declared.turn.Stop.{Stop}
use Rattle.mp_turns.specs.declared.turn.Stop.TheVariants.{Write, Memory, Other}

-- the sink failed, or there was no memory
abbrev pub stop_of_write : OutRefused → Stop
stop_of_write WriteFault = Write
stop_of_write NoMemory = Memory

-- another worker had stopped by this cause
abbrev pub stop_at_hub : HubStop → Stop
stop_at_hub (hub.Other cause) = Other cause
