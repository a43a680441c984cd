use Rattle.std.proofs.Common.{ℕ, sym, ◌∙◌, subst}
use Rattle.std.proofs.lemmas.Bool.{both_ways, false_from_ne_true}
use Rattle.mp_names.specs.declared.names.Name.TheVariants.{Packet, Group}
use Rattle.mp_names.specs.declared.kinds.Kind.TheVariants.{Extract, Apply}
use Rattle.mp_names.specs.Names.{has, In}
use Rattle.mp_names.proofs.Steps.{applied_own, applied_before_stop}
use Rattle.mp_names.proofs.Hosts.{pending_new}
use Rattle.mp_machine.specs.Runs.{run_of_machine, turn_of_machine}
use Rattle.mp_machine.proofs.Turns.{did_to}
use Rattle.mp_machine.proofs.Keeps.{group_is_whole}
use Rattle.mp_machine.proofs.Worlds.{known, run_right}
use Rattle.mp_machine.proofs.Order.{packet_last, group_last}
use Rattle.mp_machine.proofs.ownership.groups_are_applied_once.Goals as goal

pub returns-clause-whole : goal.returns-clause-whole
unfolding turn_of_machine
returns-clause-whole c = λ o depth steps ok w i j t k n e.
    let world = run_of_machine o depth steps in
    let right = run_right o ok depth steps in
    let can = did_to o depth world w ok (Apply i) (Group j t k) n e in
    let whole = group_is_whole o ok w can.0.0 (world.worker w) (right.logs w can.0.0) (known o ok depth world right w can.0.0) i j t k can.1 can.2 in (
      whole,
      (λ v lv. false_from_ne_true (has (world.worker v).log.applied (Group j t k)) (λ h.
          let own = (applied_own o v (world.worker v).log (right.logs v lv) j t k h).1 in
          both_ways (has (world.worker w).log.applied (Group j t k)) (pending_new o w (world.worker w).log j t k can.1.0.1) (subst (λ (u : ℕ). In (Group j t k) (world.worker u).log.applied) (sym own ∙ whole.owned) h))),
    )

pub returns-clause-owner : goal.returns-clause-owner
returns-clause-owner c = λ o depth steps ok w j t k l h. (applied_own o w ((run_of_machine o depth steps).worker w).log ((run_right o ok depth steps).logs w l) j t k h).1

pub returns-clause-order : goal.returns-clause-order
unfolding turn_of_machine
returns-clause-order c = λ o depth steps ok.
    let world = run_of_machine o depth steps in
    let right = run_right o ok depth steps in
    record {
      groups = λ w i j t k n e.
          let can = did_to o depth world w ok (Apply i) (Group j t k) n e in
          let whole = group_is_whole o ok w can.0.0 (world.worker w) (right.logs w can.0.0) (known o ok depth world right w can.0.0) i j t k can.1 can.2 in
          group_last o ok depth world right w i j t k can.0.0 can.1.0.0 whole;
      packets = λ w i j b t n e. packet_last o ok depth world right w i j b t (did_to o depth world w ok (Extract i) (Packet j b t) n e);
    }

pub returns-clause-stop : goal.returns-clause-stop
returns-clause-stop c = λ o depth steps ok w j t k l h. applied_before_stop o w ((run_of_machine o depth steps).worker w).log ((run_right o ok depth steps).logs w l) j t k h
