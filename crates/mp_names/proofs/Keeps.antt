-- A legal log with one more name is legal, by what this one name meets.
use Rattle.std.proofs.Common.{◌≡◌, ℕ, ◌<◌, ◌≤◌, Bool, true, false, List, [], ◌∷◌, ◌++◌, filter, refl, sym, subst, ⊎_elim, arith}
use Rattle.std.proofs.lemmas.Bool.{false≢true, eqb-true, eq-eqb, both_ways, false_from_ne_true, cases_Bool}
use Rattle.mp_names.specs.declared.names.Name.{Name}
use Rattle.mp_names.specs.declared.names.Name.TheVariants.{Ctrl, Rec, Packet, Row, Group, Settled, Written}
use Rattle.mp_names.specs.declared.names.Tag.{Tag}
use Rattle.mp_names.specs.declared.locations.Loc.TheVariants.{CtlMail, Mail, State, Host, OutMail}
use Rattle.mp_names.specs.Names.{has, In, IsPrefix, is_group, is_settled, is_written, Less, IsLeast}
use Rattle.mp_names.specs.Outlines.{Outline, OutlineIsSound, IsBeforeStop, group_owner, groups_of, due_groups, control_times, answer_times, HasControl, IsOwedBy, IsOwedTo, share}
use Rattle.mp_names.specs.Logs.{Log, empty_log, LogGrows, LogIsLegal, with_ingested, with_sent, with_took, with_applied, with_settled, is_given, IsGiven, IsReadyGroup, IsReadyTime, is_owned, owned_groups}
use Rattle.mp_names.specs.Locations.{stays}
use Rattle.mp_names.specs.Frontiers.{IsClosedForOne}
use Rattle.mp_names.specs.Keeping.{IsHeld, IsUnsentPacket, IsUnsettled, IsWaiting, IsUnwritten, GroupIsWhole, NamesKeepLogsLegal}
use Rattle.mp_names.proofs.Lists.{In_left, In_filter, filter_In, In_push, Distinct_push, prefix_refl, prefix_push}
use Rattle.mp_names.proofs.Orders.{next_prefix, filter_ascends}
use Rattle.mp_names.proofs.Listed.{groups_are, due_group, group_due, due_groups_ascend, control_times_ascend, control_time_In, control_time_is, answer_times_ascend, answer_time_In, answer_time_is}
use Rattle.mp_names.proofs.Reach.{state-host}
use Rattle.mp_names.proofs.Steps.{given_own, noted_control, control_noted}
use Rattle.mp_names.proofs.Hosts.{pending_new}
use Rattle.mp_names.proofs.Grows.{grown_is_given, grown_ready, prefix_filter_push}
use Rattle.mp_names.proofs.Whole.{in_hand_before, whole}

old_or_new : (P : Name → Type 0) (xs : List Name) (x : Name) → ((y : Name) → In y xs → P y) → P x → (y : Name) → In y (xs ++ x ∷ []) → P y
old_or_new P xs x h n y i = ⊎_elim (λ (k : In y xs). h y k) (λ (e : x ≡ y). subst P e n) (In_push y x xs i)

pub empty_is_legal : (o : Outline) (w : ℕ) → LogIsLegal o w empty_log
empty_is_legal o w =
    record {
      ingested_in_order = (share o w, refl);
      sent_once = tt;
      sent_owed = λ x i. absurd (false≢true i);
      sent_given = λ x i. absurd (false≢true i);
      took_once = tt;
      took_owed = λ x i. absurd (false≢true i);
      applied_in_order = λ j l. (owned_groups o w j, refl);
      applied_ready = λ x i. absurd (false≢true i);
      settled_in_order = λ j l. (control_times o j, refl);
      written_in_order = (answer_times o, refl);
      settled_ready = λ x i. absurd (false≢true i);
    }

module _ (o : Outline) (w : ℕ) (log : Log) (good : LogIsLegal o w log) where
  -- one more name in one list

  pub ingested_keeps : (x : Name) → IsPrefix (log.ingested ++ x ∷ []) (share o w) → LogIsLegal o w (with_ingested log x)
  ingested_keeps x p =
      let new = with_ingested log x in
      let g : LogGrows log new = record { ingested = prefix_push log.ingested x; sent = prefix_refl log.sent; took = prefix_refl log.took; applied = prefix_refl log.applied; settled = prefix_refl log.settled } in
      record {
        ingested_in_order = p;
        sent_once = good.sent_once;
        sent_owed = good.sent_owed;
        sent_given = λ y i. grown_is_given o w log new g y (good.sent_given y i);
        took_once = good.took_once;
        took_owed = good.took_owed;
        applied_in_order = good.applied_in_order;
        applied_ready = λ y i. grown_ready o w log new g y (good.applied_ready y i);
        settled_in_order = good.settled_in_order;
        written_in_order = good.written_in_order;
        settled_ready = good.settled_ready;
      }

  sent_time : (x y : Name) → IsReadyTime o w log y → IsReadyTime o w (with_sent log x) y
  sent_time x (Settled j t) h = (h.0, (λ b d. In_left (Packet j b t) log.sent (x ∷ []) (h.1 b d)))
  sent_time x (Written t) h = h
  sent_time x _ h = absurd h

  pub sent_keeps : (x : Name) → has log.sent x ≡ false → IsOwedBy o w x → IsGiven o w log x → LogIsLegal o w (with_sent log x)
  sent_keeps x n d k =
      let new = with_sent log x in
      let g : LogGrows log new = record { ingested = prefix_refl log.ingested; sent = prefix_push log.sent x; took = prefix_refl log.took; applied = prefix_refl log.applied; settled = prefix_refl log.settled } in
      record {
        ingested_in_order = good.ingested_in_order;
        sent_once = Distinct_push log.sent x good.sent_once n;
        sent_owed = old_or_new (IsOwedBy o w) log.sent x good.sent_owed d;
        sent_given = old_or_new (IsGiven o w new) log.sent x (λ y i. grown_is_given o w log new g y (good.sent_given y i)) (grown_is_given o w log new g x k);
        took_once = good.took_once;
        took_owed = good.took_owed;
        applied_in_order = good.applied_in_order;
        applied_ready = λ y i. grown_ready o w log new g y (good.applied_ready y i);
        settled_in_order = good.settled_in_order;
        written_in_order = good.written_in_order;
        settled_ready = λ y i. sent_time x y (good.settled_ready y i);
      }

  took_time : (x y : Name) → IsReadyTime o w log y → IsReadyTime o w (with_took log x) y
  took_time x (Settled j t) h = h
  took_time x (Written t) h = (h.0, (λ g i. In_left (Row t g) log.took (x ∷ []) (h.1 g i)))
  took_time x _ h = absurd h

  pub took_keeps : (x : Name) → has log.took x ≡ false → IsOwedTo o w x → LogIsLegal o w (with_took log x)
  took_keeps x n d =
      let new = with_took log x in
      let g : LogGrows log new = record { ingested = prefix_refl log.ingested; sent = prefix_refl log.sent; took = prefix_push log.took x; applied = prefix_refl log.applied; settled = prefix_refl log.settled } in
      record {
        ingested_in_order = good.ingested_in_order;
        sent_once = good.sent_once;
        sent_owed = good.sent_owed;
        sent_given = λ y i. grown_is_given o w log new g y (good.sent_given y i);
        took_once = Distinct_push log.took x good.took_once n;
        took_owed = old_or_new (IsOwedTo o w) log.took x good.took_owed d;
        applied_in_order = good.applied_in_order;
        applied_ready = λ y i. grown_ready o w log new g y (good.applied_ready y i);
        settled_in_order = good.settled_in_order;
        written_in_order = good.written_in_order;
        settled_ready = λ y i. took_time x y (good.settled_ready y i);
      }

  pub applied_keeps : (x : Name) → ((j : ℕ) → j < o.stages → is_group j x ≡ true → IsPrefix (filter (is_group j) log.applied ++ x ∷ []) (owned_groups o w j)) → IsReadyGroup o w log x → LogIsLegal o w (with_applied log x)
  applied_keeps x p k =
      let new = with_applied log x in
      let g : LogGrows log new = record { ingested = prefix_refl log.ingested; sent = prefix_refl log.sent; took = prefix_refl log.took; applied = prefix_push log.applied x; settled = prefix_refl log.settled } in
      record {
        ingested_in_order = good.ingested_in_order;
        sent_once = good.sent_once;
        sent_owed = good.sent_owed;
        sent_given = λ y i. grown_is_given o w log new g y (good.sent_given y i);
        took_once = good.took_once;
        took_owed = good.took_owed;
        applied_in_order = λ j l. prefix_filter_push (is_group j) log.applied (owned_groups o w j) x (good.applied_in_order j l) (p j l);
        applied_ready = old_or_new (IsReadyGroup o w new) log.applied x (λ y i. grown_ready o w log new g y (good.applied_ready y i)) (grown_ready o w log new g x k);
        settled_in_order = good.settled_in_order;
        written_in_order = good.written_in_order;
        settled_ready = good.settled_ready;
      }

  pub settled_keeps : (x : Name) → ((j : ℕ) → j < o.stages → is_settled j x ≡ true → IsPrefix (filter (is_settled j) log.settled ++ x ∷ []) (control_times o j)) → (is_written x ≡ true → IsPrefix (filter is_written log.settled ++ x ∷ []) (answer_times o)) → IsReadyTime o w log x → LogIsLegal o w (with_settled log x)
  settled_keeps x p q k =
      let new = with_settled log x in
      let g : LogGrows log new = record { ingested = prefix_refl log.ingested; sent = prefix_refl log.sent; took = prefix_refl log.took; applied = prefix_refl log.applied; settled = prefix_push log.settled x } in
      record {
        ingested_in_order = good.ingested_in_order;
        sent_once = good.sent_once;
        sent_owed = good.sent_owed;
        sent_given = λ y i. grown_is_given o w log new g y (good.sent_given y i);
        took_once = good.took_once;
        took_owed = good.took_owed;
        applied_in_order = good.applied_in_order;
        applied_ready = λ y i. grown_ready o w log new g y (good.applied_ready y i);
        settled_in_order = λ j l. prefix_filter_push (is_settled j) log.settled (control_times o j) x (good.settled_in_order j l) (p j l);
        written_in_order = prefix_filter_push is_written log.settled (answer_times o) x good.written_in_order q;
        settled_ready = old_or_new (IsReadyTime o w log) log.settled x good.settled_ready k;
      }

  -- what is held is the worker's own

  pub held_given : (x : Name) → is_given o w log x ≡ true → IsGiven o w log x
  held_given (Packet j b t) h = absurd (false≢true h)
  held_given (Ctrl i v) h = h
  held_given (Rec j t k g) h = h
  held_given (Row t g) h = h
  held_given _ h = h

  pub held_keeps : (p : Name → Bool) (x : Name) → IsHeld o w log p x → LogIsLegal o w (with_sent log x)
  held_keeps p x h = sent_keeps x h.3 (h.1, given_own o w log good x h.2) (held_given x h.2)

  -- a packet, where the groups before it are done

  pub packet_keeps : (j b t : ℕ) → IsUnsentPacket o w log j (Packet j b t) → ((u : ℕ) → u < t → IsClosedForOne o w log (Host j) u) → LogIsLegal o w (with_sent log (Packet j b t))
  packet_keeps j b t n done =
      sent_keeps (Packet j b t) n.2 n.1 (
        in_hand_before o w log j b t n.1.1 (λ m l. done m l (State j) m (state-host j) (omega arith)),
        (λ u k l e mine i. done u l (Host j) u stays (omega arith) (Group j u k) i (eq-eqb (group_owner o j u k) w mine) refl),
      )

module _ (o : Outline) (ok : OutlineIsSound o) (w : ℕ) (is_worker : w < o.workers) (log : Log) (good : LogIsLegal o w log) where
  -- the least group that waits

  pub group_keeps : (j t k : ℕ) → IsLeast (IsWaiting o w log j) (Group j t k) → IsBeforeStop o.until t → IsClosedForOne o w log (Mail j) t → IsClosedForOne o w log (State j) t → LogIsLegal o w (with_applied log (Group j t k))
  group_keeps j t k least early mail state =
      applied_keeps o w log good (Group j t k) next (stage, all.records_taken, all.bin_in_hand)
    where
      all : GroupIsWhole o w log j t k
      all = whole o ok w log good j t k least mail state

      stage : j < o.stages
      stage = (groups_are o ok j (Group j t k) least.0.0).0

      -- what the worker owns and is less is applied
      earlier : (y : Name) → In y (owned_groups o w j) → Less y (Group j t k) → In y (filter (is_group j) log.applied)
      earlier y h less =
          let c = In_filter (is_owned o w) y (due_groups o j) h in
          form y (due_group o j y c.0).0 c.1 less
        where
          form : (y : Name) → In y (groups_of o j) → is_owned o w y ≡ true → Less y (Group j t k) → In y (filter (is_group j) log.applied)
          form (Group n s m) g mine less =
              let e : n ≡ j = eqb-true n j (groups_are o ok j (Group n s m) g).1 in
              let g' = subst (λ (n : ℕ). In (Group n s m) (groups_of o j)) e g in
              let mine' = subst (λ (n : ℕ). is_owned o w (Group n s m) ≡ true) e mine in
              let less' = subst (λ (n : ℕ). Less (Group n s m) (Group j t k)) e less in
              let a = all.earlier_applied s m g' (eqb-true (group_owner o j s m) w mine') less' in
              subst (λ (n : ℕ). In (Group n s m) (filter (is_group j) log.applied)) (sym e) (filter_In (is_group j) (Group j s m) log.applied a (eq-eqb j j refl))
          form _ g mine less = absurd (false≢true mine)

      here : IsPrefix (filter (is_group j) log.applied ++ Group j t k ∷ []) (owned_groups o w j)
      here =
          next_prefix (filter (is_group j) log.applied) (owned_groups o w j) (Group j t k)
          (filter_ascends (is_owned o w) (due_groups o j) (due_groups_ascend o j))
          (good.applied_in_order j stage)
          (filter_In (is_owned o w) (Group j t k) (due_groups o j) (group_due o j (Group j t k) least.0.0 early) (eq-eqb (group_owner o j t k) w all.owned))
          (false_from_ne_true (has (filter (is_group j) log.applied) (Group j t k)) (λ z. both_ways (has log.applied (Group j t k)) (pending_new o w log j t k least.0.1) (In_filter (is_group j) (Group j t k) log.applied z).0))
          earlier

      next : (n : ℕ) → n < o.stages → is_group n (Group j t k) ≡ true → IsPrefix (filter (is_group n) log.applied ++ Group j t k ∷ []) (owned_groups o w n)
      next n l e = subst (λ (n : ℕ). IsPrefix (filter (is_group n) log.applied ++ Group j t k ∷ []) (owned_groups o w n)) (eqb-true j n e) here

  -- the least time that isn't settled

  pub time_keeps : (j t : ℕ) → IsLeast (IsUnsettled o log j) (Settled j t) → IsClosedForOne o w log CtlMail t → ((b : ℕ) → IsOwedBy o w (Packet j b t) → In (Packet j b t) log.sent) → LogIsLegal o w (with_settled log (Settled j t))
  time_keeps j t least controls sent =
      settled_keeps o w log good (Settled j t) next (λ e. absurd (false≢true e)) (stage, sent)
    where
      control : HasControl o j t
      control = noted_control o w log good j t least.0.1

      stage : j < o.stages
      stage = subst (λ (n : ℕ). n < o.stages) control.2 (ok.controls_fit control.0 control.1).1

      earlier : (y : Name) → In y (control_times o j) → Less y (Settled j t) → In y (filter (is_settled j) log.settled)
      earlier y h less =
          let r = control_time_is o j y h in
          let s = r.0 in
          let less' = subst (λ (z : Name). Less z (Settled j t)) r.1 less in
          let sooner : s < t = omega arith in
          let noted = control_noted o w log j s is_worker (controls CtlMail s stays (omega arith)) r.2 in
          subst (λ (z : Name). In z (filter (is_settled j) log.settled)) (sym r.1)
          (⊎_elim
          (λ (q : has log.settled (Settled j s) ≡ true). filter_In (is_settled j) (Settled j s) log.settled q (eq-eqb j j refl))
          (λ (q : has log.settled (Settled j s) ≡ false). absurd (least.1 (Settled j s) (refl, noted, q) less'))
          (cases_Bool (has log.settled (Settled j s))))

      here : IsPrefix (filter (is_settled j) log.settled ++ Settled j t ∷ []) (control_times o j)
      here =
          next_prefix (filter (is_settled j) log.settled) (control_times o j) (Settled j t) (control_times_ascend o j) (good.settled_in_order j stage) (control_time_In o j t control)
          (false_from_ne_true (has (filter (is_settled j) log.settled) (Settled j t)) (λ z. both_ways (has log.settled (Settled j t)) least.0.2 (In_filter (is_settled j) (Settled j t) log.settled z).0))
          earlier

      next : (n : ℕ) → n < o.stages → is_settled n (Settled j t) ≡ true → IsPrefix (filter (is_settled n) log.settled ++ Settled j t ∷ []) (control_times o n)
      next n l e = subst (λ (n : ℕ). IsPrefix (filter (is_settled n) log.settled ++ Settled j t ∷ []) (control_times o n)) (eqb-true j n e) here

  -- the least time that isn't written

  pub written_keeps : (t : ℕ) → w ≡ 0 → IsLeast (IsUnwritten log) (Written t) → IsClosedForOne o w log OutMail t → LogIsLegal o w (with_settled log (Written t))
  written_keeps t first least rows =
      settled_keeps o w log good (Written t) (λ n l e. absurd (false≢true e)) (λ e. here) (first, (λ g i. taken t g (omega arith) i))
    where
      taken : (s : ℕ) (g : Tag) → s ≤ t → In (Row s g) o.rows → In (Row s g) log.took
      taken s g l i = rows OutMail s stays l (Row s g) (i, sym first) refl refl

      earlier : (y : Name) → In y (answer_times o) → Less y (Written t) → In y (filter is_written log.settled)
      earlier y h less =
          let r = answer_time_is o ok y h in
          let s = r.0 in
          let less' = subst (λ (z : Name). Less z (Written t)) r.2 less in
          let sooner : s < t = omega arith in
          subst (λ (z : Name). In z (filter is_written log.settled)) (sym r.2)
          (⊎_elim
          (λ (q : has log.settled (Written s) ≡ true). filter_In is_written (Written s) log.settled q refl)
          (λ (q : has log.settled (Written s) ≡ false). absurd (least.1 (Written s) ((r.1, taken s r.1 (omega arith) r.3), q) less'))
          (cases_Bool (has log.settled (Written s))))

      here : IsPrefix (filter is_written log.settled ++ Written t ∷ []) (answer_times o)
      here =
          next_prefix (filter is_written log.settled) (answer_times o) (Written t) (answer_times_ascend o) good.written_in_order
          (answer_time_In o t least.0.0.0 (good.took_owed (Row t least.0.0.0) least.0.0.1).0)
          (false_from_ne_true (has (filter is_written log.settled) (Written t)) (λ z. both_ways (has log.settled (Written t)) least.0.1 (In_filter is_written (Written t) log.settled z).0))
          earlier

  pub names_keep : NamesKeepLogsLegal o w log
  names_keep =
      record {
        ingest = ingested_keeps o w log good;
        send = held_keeps o w log good;
        take = λ x d n. took_keeps o w log good x n d;
        extract = packet_keeps o w log good;
        settle = time_keeps;
        apply = group_keeps;
        write = written_keeps;
      }
