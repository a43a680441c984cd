-- The steps of a run, in numbers.
use Rattle.std.proofs.Common.{◌≡◌, ℕ, ◌-◌, ◌<◌, true, List, length, filter, take, refl, sym, subst, arith}
use Rattle.std.proofs.lemmas.Bool.{eq-eqb}
use Rattle.mp_names.specs.declared.names.Name.{Name}
use Rattle.mp_names.specs.declared.names.Name.TheVariants.{Row, Group}
use Rattle.mp_names.specs.declared.kinds.Kind.{Kind}
use Rattle.mp_names.specs.Names.{In, is_ctrl, is_packet, is_row, is_group, is_settled, is_written}
use Rattle.mp_names.specs.Outlines.{Outline, OutlineIsSound, share, control_times, answer_times}
use Rattle.mp_names.specs.Logs.{Log, LogIsLegal, is_given, owned_groups}
use Rattle.mp_names.proofs.Lists.{In_filter, filter_In}
use Rattle.mp_machine.specs.Worlds.{Worker}
use Rattle.mp_machine.specs.Runs.{run_of_machine}
use Rattle.mp_machine.proofs.Worlds.{run_right}
use Rattle.mp_player_laws.specs.Decisions.{controls_to_send, packets_to_send, rows_to_send, SendsInOrder}
use Rattle.mp_player_laws.proofs.Sending.{always_in_order}
use Rattle.mp_player_laws.proofs.Deciding.{steps_decided}
use Rattle.mp_player_laws.specs.Numbers.{ListsAreTold}
use Rattle.mp_player_laws.specs.Counted.{IsGivenWithin, StepsAreCounted}
use Rattle.mp_player_laws.proofs.Places.{beginning_is, next_stands, stands_next}
use Rattle.mp_player_laws.proofs.Settling.{settle_counted}

pub lists_told : (o : Outline) (w : ℕ) (log : Log) → LogIsLegal o w log → SendsInOrder o w log → ListsAreTold o w log
lists_told o w log good order =
    record {
      ingested = beginning_is log.ingested (share o w) good.ingested_in_order;
      controls = beginning_is (filter is_ctrl log.sent) (controls_to_send o w) order.controls;
      packets = λ j. beginning_is (filter (is_packet j) log.sent) (packets_to_send o w j) (order.packets j);
      rows = beginning_is (filter is_row log.sent) (rows_to_send o w) order.rows;
      groups = λ j l. beginning_is (filter (is_group j) log.applied) (owned_groups o w j) (good.applied_in_order j l);
      times = λ j l. beginning_is (filter (is_settled j) log.settled) (control_times o j) (good.settled_in_order j l);
      written = beginning_is (filter is_written log.settled) (answer_times o) good.written_in_order;
    }

module _ (o : Outline) (ok : OutlineIsSound o) (w : ℕ) (log : Log) (good : LogIsLegal o w log) where
  last_fits : o.stages - 1 < o.stages
  last_fits = let some = ok.some_stage in omega arith

  abbrev last : ℕ
  last = o.stages - 1

  within_is : filter (is_group last) log.applied ≡ take (length (filter (is_group last) log.applied)) (owned_groups o w last)
  within_is = beginning_is (filter (is_group last) log.applied) (owned_groups o w last) (good.applied_in_order last last_fits)

  given_within : (x : Name) → is_row x ≡ true → is_given o w log x ≡ true → IsGivenWithin o w (length (filter (is_group last) log.applied)) x
  given_within (Row t g) r given = subst (λ (l : List Name). In (Group last t g.0) l) within_is (filter_In (is_group last) (Group last t g.0) log.applied given (eq-eqb last last refl))
  given_within _ r given = absurd (cc)

  within_given : (x : Name) → IsGivenWithin o w (length (filter (is_group last) log.applied)) x → is_given o w log x ≡ true
  within_given (Row t g) h = (In_filter (is_group last) (Group last t g.0) log.applied (subst (λ (l : List Name). In (Group last t g.0) l) (sym within_is) h)).0
  within_given _ h = absurd h

pub steps_counted : (o : Outline) (ok : OutlineIsSound o) (depth : ℕ) (steps : List (ℕ × Kind)) (w : ℕ) (l : w < o.workers) → StepsAreCounted o depth (run_of_machine o depth steps) w
steps_counted o ok depth steps w l =
    let world = run_of_machine o depth steps in
    let worker : Worker = world.worker w in
    let log : Log = worker.log in
    let good = (run_right o ok depth steps).logs w l in
    let order = always_in_order o ok depth steps w l in
    let d = steps_decided o ok depth steps w l in
    record {
      ingest = λ x. ((λ can. next_stands log.ingested (share o w) x can.1), (λ h. ((l, tt), stands_next log.ingested (share o w) x good.ingested_in_order h, tt, tt)));
      send_control = λ x. (
        (λ can. let r = (d.send_control x).0 can in (next_stands (filter is_ctrl log.sent) (controls_to_send o w) x r.0, r.1, r.2)),
        (λ h. (d.send_control x).1 (stands_next (filter is_ctrl log.sent) (controls_to_send o w) x order.controls h.0, h.1, h.2)),
      );
      extract = λ j x. (
        (λ can. let r = (d.extract j x).0 can in (r.0, next_stands (filter (is_packet j) log.sent) (packets_to_send o w j) x r.1, r.2, r.3, r.4)),
        (λ h. (d.extract j x).1 (h.0, stands_next (filter (is_packet j) log.sent) (packets_to_send o w j) x (order.packets j) h.1, h.2, h.3, h.4)),
      );
      settle = λ j x. (
        (λ can.
            let r = (d.settle j x).0 can in
            let s = (settle_counted o ok w worker good order j x r.1).0 r.2 in
            (r.0, next_stands (filter (is_settled j) log.settled) (control_times o j) x r.1, s.0, s.1)),
        (λ h.
            let n = stands_next (filter (is_settled j) log.settled) (control_times o j) x (good.settled_in_order j h.0) h.1 in
            (d.settle j x).1 (h.0, n, (settle_counted o ok w worker good order j x n).1 (h.2, h.3))),
      );
      apply = λ j x. (
        (λ can. let r = (d.apply j x).0 can in (r.0, next_stands (filter (is_group j) log.applied) (owned_groups o w j) x r.1, r.2, r.3)),
        (λ h. (d.apply j x).1 (h.0, stands_next (filter (is_group j) log.applied) (owned_groups o w j) x (good.applied_in_order j h.0) h.1, h.2, h.3)),
      );
      send_row = λ x. (
        (λ can. let r = (d.send_row x).0 can in (next_stands (filter is_row log.sent) (rows_to_send o w) x r.0, given_within o ok w log good x can.1.0.0 r.1, r.2)),
        (λ h. (d.send_row x).1 (stands_next (filter is_row log.sent) (rows_to_send o w) x order.rows h.0, within_given o ok w log good x h.1, h.2)),
      );
      write = λ x. (
        (λ can. let r = (d.write x).0 can in (r.0, next_stands (filter is_written log.settled) (answer_times o) x r.1, r.2)),
        (λ h. (d.write x).1 (h.0, stands_next (filter is_written log.settled) (answer_times o) x good.written_in_order h.1, h.2)),
      );
    }
