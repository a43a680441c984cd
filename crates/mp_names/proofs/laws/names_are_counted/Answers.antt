use Rattle.std.proofs.Common.{refl}
use Rattle.mp_names.specs.Names.{ascending}
use Rattle.mp_names.specs.Outlines.{owner_before, packets_of, groups_of, control_times, answer_times, owed_names, name_count}
use Rattle.mp_names.proofs.Counting.{bounded, full}
use Rattle.mp_names.proofs.laws.names_are_counted.Goals as goal

pub returns-clause-bounded : goal.returns-clause-bounded
returns-clause-bounded c = λ o logs ok good. bounded o ok logs good

pub returns-clause-full : goal.returns-clause-full
returns-clause-full c = λ o logs ok good closed written. full o ok logs good closed written

pub returns-clause-three_bids : goal.returns-clause-three_bids
unfolding ascending owner_before packets_of groups_of control_times answer_times owed_names name_count
returns-clause-three_bids c = refl

pub returns-clause-wake_moves_with_its_bin : goal.returns-clause-wake_moves_with_its_bin
unfolding ascending owner_before packets_of groups_of control_times answer_times owed_names name_count
returns-clause-wake_moves_with_its_bin c = refl

pub returns-clause-stopped_moves : goal.returns-clause-stopped_moves
unfolding ascending owner_before packets_of groups_of control_times answer_times owed_names name_count
returns-clause-stopped_moves c = refl

pub returns-clause-wake_goes_on : goal.returns-clause-wake_goes_on
unfolding ascending owner_before packets_of groups_of control_times answer_times owed_names name_count
returns-clause-wake_goes_on c = refl
