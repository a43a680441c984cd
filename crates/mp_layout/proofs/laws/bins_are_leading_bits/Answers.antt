use Rattle.mp_layout.proofs.Hashing.{bins_are_leading}
use Rattle.mp_layout.proofs.laws.bins_are_leading_bits.Goals as goal

pub returns : goal.returns
returns c = bins_are_leading
