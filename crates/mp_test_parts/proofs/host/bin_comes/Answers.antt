use Rattle.mp_samples.proofs.Moving.{state_is_packet}
use Rattle.mp_test_parts.proofs.host.bin_comes.Goals as goal

pub install-requires-clause-state : goal.install-requires-clause-state
install-requires-clause-state g c κs within = rw (c.requires.stage, c.requires.one_move, c.in_ok-state.ensures) state_is_packet
