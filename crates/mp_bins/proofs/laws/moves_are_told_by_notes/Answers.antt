use Rattle.mp_bins.proofs.Moved.{moves_told}
use Rattle.mp_bins.proofs.laws.moves_are_told_by_notes.Goals as goal

pub returns : goal.returns
returns c = moves_told
