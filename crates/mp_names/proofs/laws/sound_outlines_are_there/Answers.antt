use Rattle.mp_names.proofs.Samples.{two_moves_are_sound, stopped_moves_are_sound}
use Rattle.mp_names.proofs.laws.sound_outlines_are_there.Goals as goal

pub returns-clause-moves : goal.returns-clause-moves
returns-clause-moves c = two_moves_are_sound

pub returns-clause-stopped : goal.returns-clause-stopped
returns-clause-stopped c = stopped_moves_are_sound
