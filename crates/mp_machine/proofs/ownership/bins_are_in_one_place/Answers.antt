use Rattle.std.proofs.Common.{suc, arith}
use Rattle.mp_names.specs.declared.names.Name.TheVariants.{Packet}
use Rattle.mp_names.specs.declared.kinds.Kind.TheVariants.{Extract}
use Rattle.mp_names.proofs.Owners.{move_in_shape}
use Rattle.mp_machine.specs.Runs.{run_of_machine, turn_of_machine}
use Rattle.mp_machine.proofs.Turns.{did_to}
use Rattle.mp_machine.proofs.Worlds.{run_right}
use Rattle.mp_machine.proofs.Holding.{in_one_place, earlier_taken}
use Rattle.mp_machine.proofs.Order.{packet_given}
use Rattle.mp_machine.proofs.ownership.bins_are_in_one_place.Goals as goal

pub returns-clause-place : goal.returns-clause-place
returns-clause-place c = λ o depth steps ok j b lj lb. in_one_place o ok depth (run_of_machine o depth steps) (run_right o ok depth steps) j b lj lb

pub returns-clause-leave : goal.returns-clause-leave
unfolding turn_of_machine
returns-clause-leave c = λ o depth steps ok w i j b t n e.
    let world = run_of_machine o depth steps in
    packet_given o ok depth world (run_right o ok depth steps) w i j b t (did_to o depth world w ok (Extract i) (Packet j b t) n e)

pub returns-clause-order : goal.returns-clause-order
returns-clause-order c = λ o depth steps ok w j b m n l h k move.
    let shape = move_in_shape o ok j b n move in
    earlier_taken o ok depth (run_of_machine o depth steps) (run_right o ok depth steps) j b shape.0 shape.1 (suc m) w m (omega arith) l h n k move
