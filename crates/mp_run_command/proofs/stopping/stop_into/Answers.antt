-- Both ways to run a job say the same of the sink, of the tallies and of the states.
use Rattle.mp_run_command.proofs.Handed.{ran_on, was_stopped}
use Rattle.mp_run_command.proofs.stopping.stop_into.Goals as goal

pub returns-in-Ok-clause-tells : goal.returns-in-Ok-clause-tells
returns-in-Ok-clause-tells g c = record { tallies = c.in-Ok.ensures.tallies; states = c.in-Ok.ensures.states }

pub returns-in-Ok-replay_with_states-clause-tells : goal.returns-in-Ok-replay_with_states-clause-tells
returns-in-Ok-replay_with_states-clause-tells g c =
    record { tallies = c.in-Ok-replay_with_states.ensures.tallies; states = c.in-Ok-replay_with_states.ensures.states }

pub returns-in-Ok-clause-leaves : goal.returns-in-Ok-clause-leaves
returns-in-Ok-clause-leaves g c = ran_on _ _ _ _ _ _ _ _ _ c.in-Ok.ensures.leaves

pub returns-in-Ok-replay_with_states-clause-leaves : goal.returns-in-Ok-replay_with_states-clause-leaves
returns-in-Ok-replay_with_states-clause-leaves g c = ran_on _ _ _ _ _ _ _ _ _ c.in-Ok-replay_with_states.ensures.leaves

pub returns-in-Err-clause-leaves : goal.returns-in-Err-clause-leaves
returns-in-Err-clause-leaves g c = rw c.refused_after.ensures (was_stopped _ _ _ _ _ _ _ _ c.in-Err.ensures.leaves)

pub returns-in-Err-replay_with_states-clause-leaves : goal.returns-in-Err-replay_with_states-clause-leaves
returns-in-Err-replay_with_states-clause-leaves g c = rw c.refused_after-in-Err-replay_with_states.ensures (was_stopped _ _ _ _ _ _ _ _ c.in-Err-replay_with_states.ensures.leaves)
