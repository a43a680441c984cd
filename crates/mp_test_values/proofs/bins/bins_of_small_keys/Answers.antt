use Rattle.std.proofs.Common.{refl, arith}
use Rattle.mp_test_values.proofs.bins.bins_of_small_keys.Goals as goal

pub bin_of-requires : goal.bin_of-requires
bin_of-requires g c = (2, omega arith, refl)
