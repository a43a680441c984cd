use Rattle.std.proofs.Common.{refl}
use Rattle.mp_buffered.proofs.Handing.{piece_passes}
use Rattle.mp_buffered.proofs.buffered.Buffered.hand_on.Goals as goal

pub returns-clause-grew : goal.returns-clause-grew
returns-clause-grew g c = piece_passes _ _ _ _ _ c.requires.none_waits refl c.in_ok-taken.ensures.grew
