-- Where nothing is left all is done, and the work left shows the frontiers.
use Rattle.std.proofs.Common.{◌≡◌, ◌↔◌, ℕ, zero, suc, ◌+◌, ◌<◌, ◌≤◌, ◌==◌, Bool, true, false, not, ◌&&◌, List, filter, pos, refl, sym, ap, ◌∙◌, subst, ⊎_elim, arith}
use Rattle.std.proofs.lemmas.Bool.{both_ways, eqb-true, eq-eqb, and_parts, and_from, false_from_ne_true, not-true, not_from_false, cases_Bool, cases_lt}
use Rattle.mp_names.specs.declared.names.Name.{Name}
use Rattle.mp_names.specs.declared.names.Name.TheVariants.{Settled, Written}
use Rattle.mp_names.specs.declared.locations.Loc.{Loc}
use Rattle.mp_names.specs.declared.locations.Loc.TheVariants.{Ctl, CtlMail, Source, Route, Mail, Move, State, Host, OutRoute, OutMail}
use Rattle.mp_names.specs.declared.locations.Frontier.{Frontier}
use Rattle.mp_names.specs.declared.locations.Frontier.TheVariants.{At, Done}
use Rattle.mp_names.specs.Names.{has, In, is_ctrl, is_rec, is_packet, is_row}
use Rattle.mp_names.specs.Outlines.{Outline, OutlineIsSound, time_of, groups_of, owed_by, owed_to, share, control_times, answer_times, IsBeforeStop, HasControl}
use Rattle.mp_names.specs.Logs.{Log, LogsAreLegal, is_owned}
use Rattle.mp_names.specs.Frontiers.{IsQuiet, IsFrontierOf, HasPassed, frontier_of, SentAll, TookAll, IsDoneBy, IsClosed}
use Rattle.mp_names.proofs.Lists.{In_filter, filter_In, count_none, none_counted}
use Rattle.mp_names.proofs.Listed.{earlier_stop, answer_time_In, answer_time_is, control_time_In, control_time_is, owed_by_is, owed_by_In, owed_to_is, owed_to_In}
use Rattle.mp_names.proofs.Exact.{closed_from_passed, passed_from_closed, ended_from_passed, passed_from_ended}
use Rattle.mp_names.proofs.Exists.{frontier_is}
use Rattle.mp_machine.specs.Worlds.{World, posted_logs}
use Rattle.mp_machine.specs.Runs.{IsFinished}
use Rattle.mp_machine.proofs.Feeders.{to_the_end}
use Rattle.mp_player_laws.specs.WorkLeft.{undone, hosted_groups, left_at, added_below, work_left}

module _ (o : Outline) (t : ℕ) (all done : List Name) where
  none_undone : undone o t all done ≡ 0 → (x : Name) → In x all → time_of o x ≡ t → In x done
  none_undone e x i at =
      ⊎_elim
      (λ (h : has done x ≡ true). h)
      (λ (h : has done x ≡ false).
      absurd (both_ways (not (has done x) && time_of o x == t) (none_counted (λ x. not (has done x) && time_of o x == t) all e x i) (and_from (not (has done x)) (time_of o x == t) (not_from_false (has done x) h) (eq-eqb (time_of o x) t at))))
      (cases_Bool (has done x))

  all_done : ((x : Name) → In x all → time_of o x ≡ t → In x done) → undone o t all done ≡ 0
  all_done h =
      count_none (λ x. not (has done x) && time_of o x == t) all (λ x i. false_from_ne_true (not (has done x) && time_of o x == t) (λ e.
      let p = and_parts (not (has done x)) (time_of o x == t) e in
      both_ways (has done x) (not-true (has done x) p.0) (h x i (eqb-true (time_of o x) t p.1))))

module _ (o : Outline) (ok : OutlineIsSound o) (w : ℕ) (log : Log) (t : ℕ) where
  sent_all : (p : Name → Bool) → (undone o t (filter p (owed_by o w)) log.sent ≡ 0) ↔ SentAll o w log p t
  sent_all p = (
    (λ e x m is at. none_undone o t (filter p (owed_by o w)) log.sent e x (filter_In p x (owed_by o w) (owed_by_In o w x m) is) at),
    (λ h. all_done o t (filter p (owed_by o w)) log.sent (λ x i at. let r = In_filter p x (owed_by o w) i in h x (owed_by_is o ok w x r.0) r.1 at)),
  )

  took_all : (p : Name → Bool) → (undone o t (filter p (owed_to o w)) log.took ≡ 0) ↔ TookAll o w log p t
  took_all p = (
    (λ e x m is at. none_undone o t (filter p (owed_to o w)) log.took e x (filter_In p x (owed_to o w) (owed_to_In o w x m) is) at),
    (λ h. all_done o t (filter p (owed_to o w)) log.took (λ x i at. let r = In_filter p x (owed_to o w) i in h x (owed_to_is o ok w x r.0) r.1 at)),
  )

  settled_all : (j : ℕ) → (undone o t (control_times o j) log.settled ≡ 0) ↔ (HasControl o j t → In (Settled j t) log.settled)
  settled_all j = (
    (λ e c. none_undone o t (control_times o j) log.settled e (Settled j t) (control_time_In o j t c) refl),
    (λ h. all_done o t (control_times o j) log.settled (λ x i at.
        let r = control_time_is o j x i in
        let e : r.0 ≡ t = sym (ap (time_of o) r.1) ∙ at in
        subst (λ (y : Name). In y log.settled) (sym r.1) (subst (λ (u : ℕ). In (Settled j u) log.settled) (sym e) (h (subst (HasControl o j) e r.2))))),
  )

  pub nothing_left : (a : Loc) → (left_at o w log a t ≡ 0) ↔ IsDoneBy o w log a t
  nothing_left Ctl = sent_all is_ctrl
  nothing_left CtlMail = took_all is_ctrl
  nothing_left Source = (none_undone o t (share o w) log.ingested, all_done o t (share o w) log.ingested)
  nothing_left (Route j) = sent_all (is_rec j)
  nothing_left (Mail j) = took_all (is_rec j)
  nothing_left (Move j) =
      let s = settled_all j in
      let p = sent_all (is_packet j) in
      let n = undone o t (control_times o j) log.settled in
      let m = undone o t (filter (is_packet j) (owed_by o w)) log.sent in (
        (λ e. (s.0 (first_zero n m e), p.0 (second_zero n m e))),
        (λ h. both_zero n m (s.1 h.0) (p.1 h.1)),
      )
    where
      first_zero : (n m : ℕ) → n + m ≡ 0 → n ≡ 0
      first_zero n m e = omega arith

      second_zero : (n m : ℕ) → n + m ≡ 0 → m ≡ 0
      second_zero n m e = omega arith

      both_zero : (n m : ℕ) → n ≡ 0 → m ≡ 0 → n + m ≡ 0
      both_zero n m e f = omega arith
  nothing_left (State j) = took_all (is_packet j)
  nothing_left (Host j) = (
    (λ e x g own at. none_undone o t (hosted_groups o w j) log.applied e x (filter_In (is_owned o w) x (groups_of o j) g own) at),
    (λ h. all_done o t (hosted_groups o w j) log.applied (λ x i at. let r = In_filter (is_owned o w) x (groups_of o j) i in h x r.0 r.1 at)),
  )
  nothing_left OutRoute = sent_all is_row
  nothing_left OutMail = took_all is_row

-- sums

each_nothing : (n : ℕ) (f : ℕ → ℕ) → added_below n f ≡ 0 → (w : ℕ) → w < n → f w ≡ 0
each_nothing zero f e w l = absurd (omega arith)
each_nothing (suc n) f e w l =
    ⊎_elim
    (λ (k : w < n). each_nothing n f (omega arith) w k)
    (λ (k : n ≤ w). let same : w ≡ n = omega arith in subst (λ (v : ℕ). f v ≡ 0) (sym same) (omega arith))
    (cases_lt w n)

nothing_each : (n : ℕ) (f : ℕ → ℕ) → ((w : ℕ) → w < n → f w ≡ 0) → added_below n f ≡ 0
nothing_each zero f h = refl
nothing_each (suc n) f h = let before = nothing_each n f (λ w l. h w (omega arith)) in let last = h n (omega arith) in omega arith

-- frontiers

-- two frontiers that have passed the same times are one
pub same_frontier : (f g : Frontier) → ((t : ℕ) → HasPassed f t → HasPassed g t) → ((t : ℕ) → HasPassed g t → HasPassed f t) → f ≡ g
same_frontier (At u) (At v) h k = ap At (same u v (λ l. let p = k u l in omega arith) (λ l. let p = h v l in omega arith))
  where
    same : (u v : ℕ) → (u < v → ⊥) → (v < u → ⊥) → u ≡ v
    same u v a b = grind arith
same_frontier (At u) Done h k = let p = k u tt in absurd (omega arith)
same_frontier Done (At v) h k = let p = h v tt in absurd (omega arith)
same_frontier Done Done h k = refl

pos_same : (n : ℕ) → pos n ≡ pos 0 → n ≡ 0
pos_same n e = cc

module _ (o : Outline) (ok : OutlineIsSound o) (logs : ℕ → Log) (at : Loc) where
  closed_from_quiet : (t : ℕ) → ((u : ℕ) → u ≤ t → IsQuiet (λ a t. pos (work_left o logs a t)) at u) → IsClosed o logs at t
  closed_from_quiet t quiet w l a u r h =
      (nothing_left o ok w (logs w) u a).0
      (each_nothing o.workers (λ w. left_at o w (logs w) a u) (pos_same (work_left o logs a u) (quiet u h a r)) w l)

  quiet_from_closed : (t : ℕ) → IsClosed o logs at t → IsQuiet (λ a t. pos (work_left o logs a t)) at t
  quiet_from_closed t c a r = ap pos (nothing_each o.workers (λ w. left_at o w (logs w) a t) (λ w l. (nothing_left o ok w (logs w) t a).1 (c w l a t r (omega arith))))

  passed_to_closed : (f : Frontier) → IsFrontierOf (λ a t. pos (work_left o logs a t)) at f → (t : ℕ) → HasPassed f t → IsClosed o logs at t
  passed_to_closed (At s) is t p = closed_from_quiet t (λ u h. is.1 u (omega arith))
  passed_to_closed Done is t p = closed_from_quiet t (λ u h. is u)

  closed_to_passed : (f : Frontier) → IsFrontierOf (λ a t. pos (work_left o logs a t)) at f → (t : ℕ) → IsClosed o logs at t → HasPassed f t
  closed_to_passed (At s) is t c =
      ⊎_elim
      (λ (l : t < s). l)
      (λ (l : s ≤ t). absurd (is.0 (quiet_from_closed s (λ w k a u r h. c w k a u r (omega arith)))))
      (cases_lt t s)
  closed_to_passed Done is t c = tt

  pub shows_frontier : LogsAreLegal o logs → (f : Frontier) → IsFrontierOf (λ a t. pos (work_left o logs a t)) at f → f ≡ frontier_of o logs at
  shows_frontier good f is =
      same_frontier f (frontier_of o logs at)
      (λ t p. passed_from_closed o logs ok good at (frontier_of o logs at) t (frontier_is o logs ok good at) (passed_to_closed f is t p))
      (λ t p. closed_to_passed f is t (closed_from_passed o logs ok good at (frontier_of o logs at) t (frontier_is o logs ok good at) p))

-- the end

module _ (o : Outline) (ok : OutlineIsSound o) (world : World) (good : LogsAreLegal o (posted_logs world)) where
  abbrev posted : ℕ → Log
  posted = posted_logs world

  abbrev NoWork : Type 0
  NoWork = ((a : Loc) (t : ℕ) → IsBeforeStop o.until t → work_left o posted a t ≡ 0) × ((x : Name) → In x (answer_times o) → In x (world.worker 0).log.settled)

  pub no_work_at_end : IsFinished o world → NoWork
  no_work_at_end over = (
    (λ a t early.
        let last = over.done OutMail tt in
        let closed = closed_from_passed o posted ok good OutMail last.0 t last.1 (passed_from_ended o.until last.0 last.2 t early) in
        pos_same (work_left o posted a t) (quiet_from_closed o ok posted OutMail t closed a (to_the_end a))),
    (λ x i. let r = answer_time_is o ok x i in subst (λ (y : Name). In y (world.worker 0).log.settled) (sym r.2) (over.written r.0 r.1 r.3)),
  )

  pub end_from_no_work : NoWork → IsFinished o world
  end_from_no_work none =
      record {
        done = λ at h.
            let f = frontier_of o posted at in
            let is = frontier_is o posted ok good at in (
              f,
              is,
              ended_from_passed o.until f (λ t early.
                  passed_from_closed o posted ok good at f t is (closed_from_quiet o ok posted at t (λ u l a r. ap pos (none.0 a u (earlier_stop o.until u t l early))))),
            );
        written = λ t g i. none.1 (Written t) (answer_time_In o t g i);
      }
