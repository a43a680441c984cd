use Rattle.std.proofs.Common.{refl}
use Rattle.mp_names.specs.Names.{ascending}
use Rattle.mp_names.specs.Outlines.{owner_before, packets_of, groups_of, owed_names}
use Rattle.mp_names.proofs.laws.moves_hold_frontiers_back.Goals as goal

pub returns : goal.returns
unfolding ascending owner_before packets_of groups_of owed_names
returns c = record { at_first = refl; once_told = refl; once_sent = refl; once_taken = refl }
