use Rattle.std.proofs.Common.{refl, arith}
use Rattle.mp_test_values.proofs.bins.many_bins.Goals as goal

pub bin_of-requires : goal.bin_of-requires
bin_of-requires g c = (12, omega arith, refl)
