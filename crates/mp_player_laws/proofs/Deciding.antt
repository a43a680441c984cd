-- What decides the steps of a run, by their kinds.
use Rattle.std.proofs.Common.{ℕ, ◌<◌, List}
use Rattle.mp_names.specs.declared.kinds.Kind.{Kind}
use Rattle.mp_names.specs.Outlines.{Outline, OutlineIsSound}
use Rattle.mp_machine.specs.Worlds.{Worker}
use Rattle.mp_machine.specs.Runs.{run_of_machine}
use Rattle.mp_machine.proofs.Worlds.{known, run_right}
use Rattle.mp_player_laws.proofs.Decided.{apply_to, apply_from, extract_to, extract_from, settle_to, settle_from, send_to, send_from, write_to, write_from}
use Rattle.mp_player_laws.proofs.Sending.{control_next, control_least, packet_next, packet_least, row_next, row_least, always_in_order}
use Rattle.mp_player_laws.specs.Decisions.{StepsAreDecided}

pub steps_decided : (o : Outline) (ok : OutlineIsSound o) (depth : ℕ) (steps : List (ℕ × Kind)) (w : ℕ) (l : w < o.workers) → StepsAreDecided o depth (run_of_machine o depth steps) w l
steps_decided o ok depth steps w l =
    let world = run_of_machine o depth steps in
    let right = run_right o ok depth steps in
    let worker : Worker = world.worker w in
    let good = right.logs w l in
    let knows = known o ok depth world right w l in
    let order = always_in_order o ok depth steps w l in
    record {
      apply = λ j x. ((λ can. apply_to o ok w l worker good knows j x can.1 can.2), (λ d. let r = apply_from o ok w l worker good knows j x d in ((l, d.0), r.0, r.1, tt)));
      send_control = λ x. ((λ can. (control_next o ok w l worker good knows order x can.1, can.2, can.3)), (λ d. ((l, tt), control_least o ok w l worker good knows order x d.0, d.1, d.2)));
      extract = λ j x. (
        (λ can. let r = extract_to o ok w l worker good knows j x can.1 can.2 in (can.0.1, packet_next o ok w l worker good knows order j x r.0, r.1, r.2, can.3)),
        (λ d. let r = extract_from o ok w l worker good knows j x (packet_least o ok w l worker good knows order j x d.1, d.2, d.3) in ((l, d.0), r.0, r.1, d.4)),
      );
      settle = λ j x. ((λ can. settle_to o ok w l worker good knows j x can.1 can.2), (λ d. ((l, d.0), settle_from o ok w l worker good knows j x d, d.2, tt)));
      send_row = λ x. (
        (λ can. let r = send_to o ok w l worker good knows x can.1 in (row_next o ok w l worker good knows order x r.0, r.1, can.3)),
        (λ d. ((l, tt), send_from o ok w l worker good knows x (row_least o ok w l worker good knows order x d.0, d.1), tt, d.2)),
      );
      write = λ x. (
        (λ can. write_to o ok w l worker good knows x can.1.0 can.1.1 can.2),
        (λ d. ((l, tt), (d.0, write_from o ok w l worker good knows x d), d.2, tt)),
      );
    }
