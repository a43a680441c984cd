-- Where all is over, every log is full.
use Rattle.std.proofs.Common.{◌≡◌, ℕ, ◌<◌, ◌==◌, List, [], ◌∷◌, ◌++◌, filter, refl, sym, ◌∙◌, subst, append-nil, arith}
use Rattle.std.proofs.lemmas.Bool.{eq-eqb, both_ways}
use Rattle.mp_names.specs.declared.names.Name.{Name}
use Rattle.mp_names.specs.declared.names.Name.TheVariants.{Ctrl, Rec, Packet, Row, Group, Settled, Written}
use Rattle.mp_names.specs.declared.locations.Loc.{Loc}
use Rattle.mp_names.specs.declared.locations.Loc.TheVariants.{Ctl, CtlMail, Source, Route, Mail, Move, State, Host, OutRoute, OutMail}
use Rattle.mp_names.specs.declared.names.Tag.{Tag}
use Rattle.mp_names.specs.Names.{has, In, Distinct, IsPrefix, is_group, is_settled, is_written}
use Rattle.mp_names.specs.Outlines.{Outline, OutlineIsSound, IsBeforeStop, control_at, time_of, sender, IsOwedBy, IsOwedTo, HasControl, group_owner, groups_of, due_groups, control_times, answer_times, share}
use Rattle.mp_names.specs.Logs.{Log, LogIsLegal, is_owned, owned_groups}
use Rattle.mp_names.specs.Frontiers.{HasPassed, frontier_of, IsDoneBy, IsClosed, IsClosedForOne}
use Rattle.mp_names.proofs.Lists.{In_here, In_right, In_filter, filter_In, Distinct_filter}
use Rattle.mp_names.proofs.Orders.{ascending_once, filter_ascends}
use Rattle.mp_names.proofs.Listed.{groups_are, group_owner_is_worker, due_group, group_due, due_groups_ascend, owed_before_stop, control_times_ascend, control_time_is, answer_times_ascend, answer_time_is}
use Rattle.mp_names.proofs.Reach.{reach_on}
use Rattle.mp_names.proofs.Exact.{closed_from_passed, passed_from_closed, ended_from_passed, passed_from_ended}
use Rattle.mp_names.proofs.Exists.{frontier_is}
use Rattle.mp_names.proofs.Grows.{grown_closed}
use Rattle.mp_machine.specs.Worlds.{World, posted_logs}
use Rattle.mp_machine.specs.Runs.{IsFinished, WorkerIsFinished}
use Rattle.mp_machine.specs.Promises.{LogIsFull}
use Rattle.mp_machine.proofs.Mailboxes.{once_apart}
use Rattle.mp_machine.proofs.Worlds.{WorldIsRight, known}
use Rattle.mp_machine.proofs.Feeders.{to_the_end}

-- a beginning of a list, in which nothing of it is missing, is the list
whole_prefix : (xs ys : List Name) → IsPrefix xs ys → Distinct ys → ((y : Name) → In y ys → In y xs) → xs ≡ ys
whole_prefix xs ys p d h = go p.0 p.1
  where
    go : (rest : List Name) → xs ++ rest ≡ ys → xs ≡ ys
    go [] e = sym (append-nil xs) ∙ e
    go (r ∷ rest) e =
        let there : In r ys = subst (λ (l : List Name). In r l) e (In_right r xs (r ∷ rest) (In_here r rest)) in
        absurd (both_ways (has xs r) (once_apart xs (r ∷ rest) r (subst Distinct (sym e) d) (In_here r rest)) (h r there))

module _ (o : Outline) (ok : OutlineIsSound o) (w : ℕ) (log : Log) (good : LogIsLegal o w log) (closed : (t : ℕ) → IsBeforeStop o.until t → IsClosedForOne o w log OutMail t) (written : w ≡ 0 → (t : ℕ) (g : Tag) → In (Row t g) log.took → In (Written t) log.settled) where
  mine : (at : Loc) (t : ℕ) → IsBeforeStop o.until t → IsDoneBy o w log at t
  mine at t early = closed t early at t (to_the_end at) (omega arith)

  all_sent : (x : Name) → IsOwedBy o w x → In x log.sent
  all_sent (Ctrl i v) m = mine Ctl (control_at o i).time (owed_before_stop o ok (Ctrl i v) m.0) (Ctrl i v) m refl refl
  all_sent (Rec j t k g) m = mine (Route j) t (owed_before_stop o ok (Rec j t k g) m.0) (Rec j t k g) m (eq-eqb j j refl) refl
  all_sent (Packet j b t) m = (mine (Move j) t (owed_before_stop o ok (Packet j b t) m.0)).1 (Packet j b t) m (eq-eqb j j refl) refl
  all_sent (Row t g) m = mine OutRoute t (owed_before_stop o ok (Row t g) m.0) (Row t g) m refl refl
  all_sent _ m = absurd m.0

  all_taken : (x : Name) → IsOwedTo o w x → In x log.took
  all_taken (Ctrl i v) m = mine CtlMail (control_at o i).time (owed_before_stop o ok (Ctrl i v) m.0) (Ctrl i v) m refl refl
  all_taken (Rec j t k g) m = mine (Mail j) t (owed_before_stop o ok (Rec j t k g) m.0) (Rec j t k g) m (eq-eqb j j refl) refl
  all_taken (Packet j b t) m = mine (State j) t (owed_before_stop o ok (Packet j b t) m.0) (Packet j b t) m (eq-eqb j j refl) refl
  all_taken (Row t g) m = mine OutMail t (owed_before_stop o ok (Row t g) m.0) (Row t g) m refl refl
  all_taken _ m = absurd m.0

  control_before_stop : (j t : ℕ) → HasControl o j t → IsBeforeStop o.until t
  control_before_stop j t c = subst (IsBeforeStop o.until) c.3 (ok.controls_stop c.0 c.1)

  pub full : LogIsFull o w log
  full =
      record {
        ingested = whole_prefix log.ingested (share o w) good.ingested_in_order (Distinct_filter (λ x. sender o x == w) (o.records 0) (ok.records_once 0)) (λ x i. mine Source (time_of o x) (ok.records_stop 0 x (In_filter (λ y. sender o y == w) x (o.records 0) i).0) x i refl);
        sent = all_sent;
        took = all_taken;
        applied = λ j lj.
            whole_prefix (filter (is_group j) log.applied) (owned_groups o w j) (good.applied_in_order j lj)
            (ascending_once (owned_groups o w j) (filter_ascends (is_owned o w) (due_groups o j) (due_groups_ascend o j)))
            (λ x i.
            let f = In_filter (is_owned o w) x (due_groups o j) i in
            let d = due_group o j x f.0 in
            filter_In (is_group j) x log.applied (mine (Host j) (time_of o x) d.1 x d.0 f.1 refl) (groups_are o ok j x d.0).1);
        settled = λ j lj.
            whole_prefix (filter (is_settled j) log.settled) (control_times o j) (good.settled_in_order j lj)
            (ascending_once (control_times o j) (control_times_ascend o j))
            (λ x i.
            let f = control_time_is o j x i in
            subst (λ (y : Name). In y (filter (is_settled j) log.settled)) (sym f.1)
            (filter_In (is_settled j) (Settled j f.0) log.settled ((mine (Move j) f.0 (control_before_stop j f.0 f.2)).0 f.2) (eq-eqb j j refl)));
        written = λ e.
            whole_prefix (filter is_written log.settled) (answer_times o) good.written_in_order
            (ascending_once (answer_times o) (answer_times_ascend o))
            (λ x i.
            let f = answer_time_is o ok x i in
            subst (λ (y : Name). In y (filter is_written log.settled)) (sym f.2)
            (filter_In is_written (Written f.0) log.settled (written e f.0 f.1 (all_taken (Row f.0 f.1) (f.3, sym e))) refl));
      }

-- in a run

module _ (o : Outline) (ok : OutlineIsSound o) (depth : ℕ) (world : World) (right : WorldIsRight o depth world) where
  pub full_at_end : IsFinished o world → (w : ℕ) → w < o.workers → LogIsFull o w (world.worker w).log
  full_at_end over w l =
      full o ok w (world.worker w).log (right.logs w l)
      (λ t early.
      let end = over.done OutMail tt in
      grown_closed o w (world.worker w).posted (world.worker w).log (right.grows w l) OutMail t (closed_from_passed o (posted_logs world) ok right.posted OutMail end.0 t end.1 (passed_from_ended o.until end.0 end.2 t early) w l))
      (λ e t g h. subst (λ (v : ℕ). In (Written t) (world.worker v).log.settled) (sym e) (over.written t g ((right.logs w l).took_owed (Row t g) h).0))

  pub all_applied_at_end : IsFinished o world → (j t k : ℕ) → In (Group j t k) (groups_of o j) → IsBeforeStop o.until t → In (Group j t k) (world.worker (group_owner o j t k)).log.applied
  all_applied_at_end over j t k h early =
      let w = group_owner o j t k in
      let lj = (groups_are o ok j (Group j t k) h).0 in
      let own = filter_In (is_owned o w) (Group j t k) (due_groups o j) (group_due o j (Group j t k) h early) (eq-eqb w w refl) in
      (In_filter (is_group j) (Group j t k) (world.worker w).log.applied (subst (λ (xs : List Name). In (Group j t k) xs) (sym ((full_at_end over w (group_owner_is_worker o ok j t k lj)).applied j lj)) own)).0

  -- what a worker that knows the end has seen to be passed
  passed_end : (w : ℕ) → w < o.workers → WorkerIsFinished o world w → (t : ℕ) → IsBeforeStop o.until t → HasPassed ((world.worker w).seen OutMail) t
  passed_end w l know = passed_from_ended o.until ((world.worker w).seen OutMail) (know.done OutMail tt)

  pub full_where_known : (w : ℕ) → w < o.workers → WorkerIsFinished o world w → LogIsFull o w (world.worker w).log
  full_where_known w l know = full o ok w (world.worker w).log (right.logs w l) (λ t early. known o ok depth world right w l OutMail t (passed_end w l know t early)) know.written

  pub over_where_known : ((w : ℕ) → w < o.workers → WorkerIsFinished o world w) → IsFinished o world
  over_where_known know =
      record {
        done = λ at in_shape.
            let closed : (t : ℕ) → IsBeforeStop o.until t → IsClosed o (posted_logs world) at t = λ t early v lv a u r h.
            right.seen 0 ok.some_worker OutMail t (passed_end 0 ok.some_worker (know 0 ok.some_worker) t early) v lv a u (reach_on a at OutMail r (to_the_end at)) h in
            let is = frontier_is o (posted_logs world) ok right.posted at in
            let f = frontier_of o (posted_logs world) at in
            (f, is, ended_from_passed o.until f (λ t early. passed_from_closed o (posted_logs world) ok right.posted at f t is (closed t early)));
        written = λ t g h. (know 0 ok.some_worker).written refl t g ((full_where_known 0 ok.some_worker (know 0 ok.some_worker)).took (Row t g) (h, refl));
      }
