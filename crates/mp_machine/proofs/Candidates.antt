-- The name that the search finds is the next one, and the test of a step is its condition.
use Rattle.std.proofs.Common.{◌≡◌, ℕ, zero, suc, ◌<◌, ◌≤◌, ◌==◌, nat_lt, Bool, true, false, not, ◌&&◌, ◌||◌, List, [], ◌∷◌, filter, length, None, Some, refl, sym, ap, ◌∙◌, subst, ⊎_elim, arith}
use Rattle.std.specs.List.{list_any}
use Rattle.std.proofs.lemmas.Bool.{false≢true, eqb-true, eq-eqb, ltb-true, lt-ltb, and_parts, and_from, both_ways, false_from_ne_true, cases_Bool, cases_lt, not-true, not_from_false, cond-true, cond-false}
use Rattle.mp_names.specs.declared.names.Name.{Name}
use Rattle.mp_names.specs.declared.names.Name.TheVariants.{Ctrl, Rec, Packet, Row, Group, Settled, Written}
use Rattle.mp_names.specs.declared.names.Tag.{Tag}
use Rattle.mp_names.specs.declared.locations.Loc.TheVariants.{CtlMail, Mail, State, Host, OutMail}
use Rattle.mp_names.specs.declared.kinds.Kind.{Kind}
use Rattle.mp_names.specs.declared.kinds.Kind.TheVariants.{Ingest, SendControl, Route, Receive, Extract, Settle, Apply, SendRow, Write, Exchange}
use Rattle.mp_names.specs.Names.{has, In, is_ctrl, is_rec, is_row}
use Rattle.mp_names.specs.Outlines.{Outline, OutlineIsSound, is_before_stop, control_at, time_of, owner_before, sender, receiver, IsOwed, IsOwedBy, packets_of, ctrl_names, groups_of, share}
use Rattle.mp_names.specs.Logs.{is_given, is_noted, is_ctrl_of, is_pending}
use Rattle.mp_names.specs.Frontiers.{is_held}
use Rattle.mp_names.specs.Keeping.{IsHeld, IsUnsettled, IsWaiting, IsUnwritten}
use Rattle.mp_names.proofs.Lists.{In_filter, filter_In, any_from, any_at}
use Rattle.mp_names.proofs.Listed.{In_map, map_In, before_stop, before_stop-from, packet_In, packet_is, ctrl_In, ctrl_owed, record_owed, row_owed}
use Rattle.mp_machine.specs.Worlds.{Worker, World}
use Rattle.mp_machine.specs.Messages.{first_message}
use Rattle.mp_machine.specs.Steps.{IsControlDue, IsDue, IsNext, IsReady, MaySendControl, MayLeave, MaySettle, MayApply, MailAllows}
use Rattle.mp_machine.specs.Tests.{has_passed, has_reached, all_below, goes_sooner, is_control_due, is_due, least_where, is_ctrl_in, noted_times, taken_times, next_name, first_of, is_in_hand_before, is_left_over, is_past, may_send_control, may_leave, may_settle, may_apply, is_ready, mail_allows}
use Rattle.mp_machine.proofs.Searches.{some_same, found_least, least_found, next_prefix_of, prefix_next}
use Rattle.mp_machine.proofs.Conditions.{passed, passed_back, reached, reached_back, in_hand, in_hand_back}

-- a test that is asked for only where another holds

wanted : (b c : Bool) → (b ≡ true → c ≡ true) → (not b || c) ≡ true
wanted true c h = h refl
wanted false c h = refl

wanted_at : (b c : Bool) → (not b || c) ≡ true → b ≡ true → c ≡ true
wanted_at true c h e = h
wanted_at false c h e = absurd (false≢true e)

all_from : (n : ℕ) (p : ℕ → Bool) → ((i : ℕ) → i < n → p i ≡ true) → all_below n p ≡ true
all_from zero p h = refl
all_from (suc n) p h = and_from (all_below n p) (p n) (all_from n p (λ i l. h i (omega arith))) (h n (omega arith))

all_at : (n : ℕ) (p : ℕ → Bool) → all_below n p ≡ true → (i : ℕ) → i < n → p i ≡ true
all_at zero p h i l = absurd (omega arith)
all_at (suc n) p h i l =
    let q = and_parts (all_below n p) (p n) h in
    ⊎_elim (λ (k : i < n). all_at n p q.0 i k) (λ (k : n ≤ i). let e : n ≡ i = omega arith in subst (λ (m : ℕ). p m ≡ true) e q.1) (cases_lt i n)

module _ (o : Outline) (ok : OutlineIsSound o) (w : ℕ) (worker : Worker) where
  -- what is held

  held_parts : (x : Name) → is_held o w worker.log x ≡ true → (is_given o w worker.log x ≡ true) × (has worker.log.sent x ≡ false)
  held_parts x h = let p = and_parts (is_given o w worker.log x) (not (has worker.log.sent x)) h in (p.0, not-true (has worker.log.sent x) p.1)

  held_from : (p : Name → Bool) (x : Name) → IsHeld o w worker.log p x → is_held o w worker.log x ≡ true
  held_from p x h = and_from (is_given o w worker.log x) (not (has worker.log.sent x)) h.2 (not_from_false (has worker.log.sent x) h.3)

  pub ctrl_into : (x : Name) → IsHeld o w worker.log is_ctrl x → In x (ctrl_names o) × (is_held o w worker.log x ≡ true)
  ctrl_into x h = (at x h.0 h.1, held_from is_ctrl x h)
    where
      at : (x : Name) → is_ctrl x ≡ true → IsOwed o x → In x (ctrl_names o)
      at (Ctrl i v) e m = ctrl_In o i v m.0 m.1
      at _ e m = absurd (false≢true e)

  pub ctrl_back : (x : Name) → In x (ctrl_names o) → is_held o w worker.log x ≡ true → IsHeld o w worker.log is_ctrl x
  ctrl_back x i h = let a = ctrl_owed o x i in let p = held_parts x h in (a.1, a.0, p.0, p.1)

  -- control records that are due

  abbrev sooner_than : Name → Bool
  sooner_than x = list_any (goes_sooner o w worker.log x) (ctrl_names o)

  pub control_into : (x : Name) → IsControlDue o w worker.log x → In x (ctrl_names o) × (is_control_due o w worker.log x ≡ true)
  control_into x h =
      let i = ctrl_into x h.0 in (
        i.0,
        and_from (is_held o w worker.log x) (not o.paced || not (sooner_than x)) i.1
            (wanted o.paced (not (sooner_than x)) (λ paced. not_from_false (sooner_than x) (false_from_ne_true (sooner_than x) (λ e.
            let r = any_at (goes_sooner o w worker.log x) (ctrl_names o) e in
            let p = and_parts (is_held o w worker.log r.0) (nat_lt (time_of o r.0) (time_of o x)) r.2 in
            let l = ltb-true (time_of o r.0) (time_of o x) p.1 in
            let k = h.1 paced r.0 (ctrl_back r.0 r.1 p.0) in
            crossed (time_of o r.0) (time_of o x) l k)))),
      )
    where
      crossed : (a b : ℕ) → a < b → b ≤ a → ⊥
      crossed a b l k = omega arith

  pub control_back : (x : Name) → In x (ctrl_names o) → is_control_due o w worker.log x ≡ true → IsControlDue o w worker.log x
  control_back x i h =
      let p = and_parts (is_held o w worker.log x) (not o.paced || not (sooner_than x)) h in (
        ctrl_back x i p.0,
        (λ paced y held.
            let j = ctrl_into y held in
            ⊎_elim
            (λ (l : time_of o y < time_of o x).
            absurd (both_ways (sooner_than x) (not-true (sooner_than x) (wanted_at o.paced (not (sooner_than x)) p.1 paced))
            (any_from (goes_sooner o w worker.log x) y (ctrl_names o) j.0 (and_from (is_held o w worker.log y) (nat_lt (time_of o y) (time_of o x)) j.1 (lt-ltb (time_of o y) (time_of o x) l)))))
            (λ (l : time_of o x ≤ time_of o y). l)
            (cases_lt (time_of o y) (time_of o x))),
      )

  pub rec_into : (j : ℕ) (x : Name) → IsHeld o w worker.log (is_rec j) x → In x (o.records j) × (is_held o w worker.log x ≡ true)
  rec_into j x h = (at x h.0 h.1, held_from (is_rec j) x h)
    where
      at : (x : Name) → is_rec j x ≡ true → IsOwed o x → In x (o.records j)
      at (Rec i t k g) e m = subst (λ (n : ℕ). In (Rec i t k g) (o.records n)) (eqb-true i j e) m.1
      at _ e m = absurd (false≢true e)

  pub rec_back : (j : ℕ) (x : Name) → In x (o.records j) → is_held o w worker.log x ≡ true → IsHeld o w worker.log (is_rec j) x
  rec_back j x i h = let p = held_parts x h in ((ok.records_are j x i).1, record_owed o ok j x i, p.0, p.1)

  pub row_into : (x : Name) → IsHeld o w worker.log is_row x → In x o.rows × (is_held o w worker.log x ≡ true)
  row_into x h = (at x h.0 h.1, held_from is_row x h)
    where
      at : (x : Name) → is_row x ≡ true → IsOwed o x → In x o.rows
      at (Row t g) e m = m
      at _ e m = absurd (false≢true e)

  pub row_back : (x : Name) → In x o.rows → is_held o w worker.log x ≡ true → IsHeld o w worker.log is_row x
  row_back x i h = let p = held_parts x h in (ok.rows_are x i, row_owed o ok x i, p.0, p.1)

  -- packets

  pub due_into : (j : ℕ) (x : Name) → IsDue o w worker j x → In x (packets_of o) × (is_due o w worker j x ≡ true)
  due_into j (Packet i b t) h = (
    subst (λ (n : ℕ). In (Packet n b t) (packets_of o)) (sym h.0.0) (packet_In o j b t h.0.1.0),
    and_from (i == j) (owner_before o j b t == w && (not (has worker.log.sent (Packet j b t)) && has_passed (worker.seen CtlMail) t)) (eq-eqb i j h.0.0)
        (and_from (owner_before o j b t == w) (not (has worker.log.sent (Packet j b t)) && has_passed (worker.seen CtlMail) t) (eq-eqb (owner_before o j b t) w h.0.1.1)
        (and_from (not (has worker.log.sent (Packet j b t))) (has_passed (worker.seen CtlMail) t) (not_from_false (has worker.log.sent (Packet j b t)) h.0.2) (passed_back (worker.seen CtlMail) t h.1))),
  )
  due_into j _ h = absurd h

  pub due_back : (j : ℕ) (x : Name) → In x (packets_of o) → is_due o w worker j x ≡ true → IsDue o w worker j x
  due_back j (Packet i b t) h e =
      let p = and_parts (i == j) (owner_before o j b t == w && (not (has worker.log.sent (Packet j b t)) && has_passed (worker.seen CtlMail) t)) e in
      let q = and_parts (owner_before o j b t == w) (not (has worker.log.sent (Packet j b t)) && has_passed (worker.seen CtlMail) t) p.1 in
      let r = and_parts (not (has worker.log.sent (Packet j b t))) (has_passed (worker.seen CtlMail) t) q.1 in
      let same = eqb-true i j p.0 in
      let move = packet_is o j b t (subst (λ (n : ℕ). In (Packet n b t) (packets_of o)) same h) in
      ((same, (move, eqb-true (owner_before o j b t) w q.0), not-true (has worker.log.sent (Packet j b t)) r.0), passed (worker.seen CtlMail) t r.1)
  due_back j _ h e = absurd (false≢true e)

  -- times

  settle_into : (j : ℕ) (x : Name) → IsUnsettled o worker.log j x → In x (noted_times o j worker.log) × (not (has worker.log.settled x) ≡ true)
  settle_into j (Settled i t) h =
      let r = any_at (is_ctrl_of o j t) worker.log.took h.1 in
      let at = found r.0 r.1 r.2 in (
        subst (λ (n : ℕ). In (Settled n t) (noted_times o j worker.log)) (sym h.0) at,
        not_from_false (has worker.log.settled (Settled i t)) (subst (λ (n : ℕ). has worker.log.settled (Settled n t) ≡ false) (sym h.0) h.2),
      )
    where
      found : (y : Name) → In y worker.log.took → is_ctrl_of o j t y ≡ true → In (Settled j t) (noted_times o j worker.log)
      found (Ctrl n v) i e =
          let p = and_parts ((control_at o n).stage == j) ((control_at o n).time == t) e in
          subst (λ (s : ℕ). In (Settled j s) (noted_times o j worker.log)) (eqb-true (control_at o n).time t p.1)
          (map_In (λ x. Settled j (time_of o x)) (filter (is_ctrl_in o j) worker.log.took) (Ctrl n v) (filter_In (is_ctrl_in o j) (Ctrl n v) worker.log.took i p.0))
      found _ i e = absurd (false≢true e)
  settle_into j _ h = absurd h

  settle_back : (j : ℕ) (x : Name) → In x (noted_times o j worker.log) → not (has worker.log.settled x) ≡ true → IsUnsettled o worker.log j x
  settle_back j x h e =
      let r = In_map (λ x. Settled j (time_of o x)) (filter (is_ctrl_in o j) worker.log.took) x h in
      let f = In_filter (is_ctrl_in o j) r.0 worker.log.took r.1 in
      subst (IsUnsettled o worker.log j) r.2
      (refl, noted r.0 f.0 f.1, subst (λ (y : Name). has worker.log.settled y ≡ false) (sym r.2) (not-true (has worker.log.settled x) e))
    where
      noted : (y : Name) → In y worker.log.took → is_ctrl_in o j y ≡ true → is_noted o worker.log j (time_of o y) ≡ true
      noted (Ctrl n v) i e = any_from (is_ctrl_of o j (control_at o n).time) (Ctrl n v) worker.log.took i (and_from ((control_at o n).stage == j) ((control_at o n).time == (control_at o n).time) e (eq-eqb (control_at o n).time (control_at o n).time refl))
      noted _ i e = absurd (false≢true e)

  pub write_into : (x : Name) → IsUnwritten worker.log x → In x (taken_times o worker.log) × (not (has worker.log.settled x) ≡ true)
  write_into (Written t) h = (
    map_In (λ x. Written (time_of o x)) (filter is_row worker.log.took) (Row t h.0.0) (filter_In is_row (Row t h.0.0) worker.log.took h.0.1 refl),
    not_from_false (has worker.log.settled (Written t)) h.1,
  )
  write_into _ h = absurd h

  pub write_back : (x : Name) → In x (taken_times o worker.log) → not (has worker.log.settled x) ≡ true → IsUnwritten worker.log x
  write_back x h e =
      let r = In_map (λ x. Written (time_of o x)) (filter is_row worker.log.took) x h in
      let f = In_filter is_row r.0 worker.log.took r.1 in
      subst (IsUnwritten worker.log) r.2 (took r.0 f.0 f.1, subst (λ (y : Name). has worker.log.settled y ≡ false) (sym r.2) (not-true (has worker.log.settled x) e))
    where
      took : (y : Name) → In y worker.log.took → is_row y ≡ true → (g : Tag) × In (Row (time_of o y) g) worker.log.took
      took (Row t g) i e = (g, i)
      took _ i e = absurd (false≢true e)

  -- what must be seen and held

  control_ready : (x : Name) → may_send_control o worker x ≡ true → MaySendControl o worker x
  control_ready x h paced j i lj li less =
      let stages = wanted_at o.paced (all_below o.stages (λ j. all_below (length o.controls) (is_past o worker (time_of o x) j))) h paced in
      let one = all_at (length o.controls) (is_past o worker (time_of o x) j) (all_at o.stages (λ j. all_below (length o.controls) (is_past o worker (time_of o x) j)) stages j lj) i li in
      passed (worker.seen (Host j)) (control_at o i).time (wanted_at (nat_lt (control_at o i).time (time_of o x)) (has_passed (worker.seen (Host j)) (control_at o i).time) one (lt-ltb (control_at o i).time (time_of o x) less))

  ready_control : (x : Name) → MaySendControl o worker x → may_send_control o worker x ≡ true
  ready_control x h =
      wanted o.paced (all_below o.stages (λ j. all_below (length o.controls) (is_past o worker (time_of o x) j))) (λ paced.
      all_from o.stages (λ j. all_below (length o.controls) (is_past o worker (time_of o x) j)) (λ j lj.
      all_from (length o.controls) (is_past o worker (time_of o x) j) (λ i li.
      wanted (nat_lt (control_at o i).time (time_of o x)) (has_passed (worker.seen (Host j)) (control_at o i).time) (λ l.
      passed_back (worker.seen (Host j)) (control_at o i).time (h paced j i lj li (ltb-true (control_at o i).time (time_of o x) l))))))

  settle_ready : (j : ℕ) (x : Name) → may_settle o w worker j x ≡ true → MaySettle o w worker j x
  settle_ready j (Settled i t) h =
      let p = and_parts (has_passed (worker.seen CtlMail) t) (not (list_any (is_left_over o w worker.log j t) (packets_of o))) h in
      (passed (worker.seen CtlMail) t p.0, sent (not-true (list_any (is_left_over o w worker.log j t) (packets_of o)) p.1))
    where
      sent : list_any (is_left_over o w worker.log j t) (packets_of o) ≡ false → (b : ℕ) → IsOwedBy o w (Packet j b t) → In (Packet j b t) worker.log.sent
      sent n b m =
          ⊎_elim
          (λ (e : has worker.log.sent (Packet j b t) ≡ true). e)
          (λ (e : has worker.log.sent (Packet j b t) ≡ false).
          absurd (both_ways (list_any (is_left_over o w worker.log j t) (packets_of o)) n
          (any_from (is_left_over o w worker.log j t) (Packet j b t) (packets_of o) (packet_In o j b t m.0)
          (and_from (j == j) (t == t && (sender o (Packet j b t) == w && not (has worker.log.sent (Packet j b t)))) (eq-eqb j j refl)
          (and_from (t == t) (sender o (Packet j b t) == w && not (has worker.log.sent (Packet j b t))) (eq-eqb t t refl)
          (and_from (sender o (Packet j b t) == w) (not (has worker.log.sent (Packet j b t))) (eq-eqb (sender o (Packet j b t)) w m.1) (not_from_false (has worker.log.sent (Packet j b t)) e)))))))
          (cases_Bool (has worker.log.sent (Packet j b t)))
  settle_ready j _ h = absurd (false≢true h)

  ready_settle : (j : ℕ) (x : Name) → MaySettle o w worker j x → may_settle o w worker j x ≡ true
  ready_settle j (Settled i t) h =
      and_from (has_passed (worker.seen CtlMail) t) (not (list_any (is_left_over o w worker.log j t) (packets_of o))) (passed_back (worker.seen CtlMail) t h.0)
      (not_from_false (list_any (is_left_over o w worker.log j t) (packets_of o)) (false_from_ne_true (list_any (is_left_over o w worker.log j t) (packets_of o)) (λ e.
      let r = any_at (is_left_over o w worker.log j t) (packets_of o) e in left r.0 r.1 r.2)))
    where
      left : (y : Name) → In y (packets_of o) → is_left_over o w worker.log j t y ≡ true → ⊥
      left (Packet n b m) i e =
          let p = and_parts (n == j) (m == t && (sender o (Packet n b m) == w && not (has worker.log.sent (Packet n b m)))) e in
          let q = and_parts (m == t) (sender o (Packet n b m) == w && not (has worker.log.sent (Packet n b m))) p.1 in
          let r = and_parts (sender o (Packet n b m) == w) (not (has worker.log.sent (Packet n b m))) q.1 in
          let e0 = eqb-true n j p.0 in
          let e1 = eqb-true m t q.0 in
          let same : Packet n b m ≡ Packet j b t = cc in
          both_ways (has worker.log.sent (Packet n b m)) (not-true (has worker.log.sent (Packet n b m)) r.1)
          (subst (λ (y : Name). In y worker.log.sent) (sym same) (h.1 b (packet_is o j b t (subst (λ (y : Name). In y (packets_of o)) same i), subst (λ (y : Name). sender o y ≡ w) same (eqb-true (sender o (Packet n b m)) w r.0))))
      left _ i e = false≢true e
  ready_settle j _ h = absurd h

  pub ready : (kind : Kind) (x : Name) → is_ready o w worker kind x ≡ true → IsReady o w worker kind x
  ready SendControl x h = control_ready x h
  ready (Route j) x h = passed (worker.seen CtlMail) (time_of o x) h
  ready (Extract j) x h = leave x h
    where
      leave : (x : Name) → may_leave o w worker j x ≡ true → MayLeave o w worker j x
      leave (Packet i b t) h = let p = and_parts (has_reached (worker.seen (Host j)) t) (is_in_hand_before o w worker.log j b t) h in (reached (worker.seen (Host j)) t p.0, in_hand o w worker.log j b t p.1)
      leave _ h = absurd (false≢true h)
  ready (Settle j) x h = settle_ready j x h
  ready (Apply j) x h = apply x h
    where
      apply : (x : Name) → may_apply o w worker j x ≡ true → MayApply o w worker j x
      apply (Group i t k) h =
          let hand = is_in_hand_before o w worker.log j (o.bin_of k) (suc t) in
          let p = and_parts (has_passed (worker.seen (Mail j)) t) (has_passed (worker.seen (State j)) t && (hand && is_before_stop o.until t)) h in
          let q = and_parts (has_passed (worker.seen (State j)) t) (hand && is_before_stop o.until t) p.1 in
          let r = and_parts hand (is_before_stop o.until t) q.1 in
          (passed (worker.seen (Mail j)) t p.0, passed (worker.seen (State j)) t q.0, in_hand o w worker.log j (o.bin_of k) (suc t) r.0, before_stop o.until t r.1)
      apply _ h = absurd (false≢true h)
  ready Write x h = passed (worker.seen OutMail) (time_of o x) h
  ready _ x h = tt

  pub ready_back : (kind : Kind) (x : Name) → IsReady o w worker kind x → is_ready o w worker kind x ≡ true
  ready_back SendControl x h = ready_control x h
  ready_back (Route j) x h = passed_back (worker.seen CtlMail) (time_of o x) h
  ready_back (Extract j) x h = leave x h
    where
      leave : (x : Name) → MayLeave o w worker j x → may_leave o w worker j x ≡ true
      leave (Packet i b t) h = and_from (has_reached (worker.seen (Host j)) t) (is_in_hand_before o w worker.log j b t) (reached_back (worker.seen (Host j)) t h.0) (in_hand_back o w worker.log j b t h.1)
      leave _ h = absurd h
  ready_back (Settle j) x h = ready_settle j x h
  ready_back (Apply j) x h = apply x h
    where
      apply : (x : Name) → MayApply o w worker j x → may_apply o w worker j x ≡ true
      apply (Group i t k) h =
          let hand = is_in_hand_before o w worker.log j (o.bin_of k) (suc t) in
          and_from (has_passed (worker.seen (Mail j)) t) (has_passed (worker.seen (State j)) t && (hand && is_before_stop o.until t)) (passed_back (worker.seen (Mail j)) t h.0)
          (and_from (has_passed (worker.seen (State j)) t) (hand && is_before_stop o.until t) (passed_back (worker.seen (State j)) t h.1)
          (and_from hand (is_before_stop o.until t) (in_hand_back o w worker.log j (o.bin_of k) (suc t) h.2) (before_stop-from o.until t h.3)))
      apply _ h = absurd h
  ready_back Write x h = passed_back (worker.seen OutMail) (time_of o x) h
  ready_back _ x h = refl

-- the next name, and the mail

first_is : (xs : List Name) (x : Name) → first_of xs ≡ Some x → (rest : List Name) × (xs ≡ x ∷ rest)
first_is [] x e = absurd (cc)
first_is (y ∷ ys) x e = (ys, ap (λ (z : Name). z ∷ ys) (some_same y x e))

begins_first : (messages : List (List Name)) (x : Name) → first_of (first_message messages) ≡ Some x → (rest : List Name) × (others : List (List Name)) × (messages ≡ (x ∷ rest) ∷ others)
begins_first [] x e = absurd (cc)
begins_first (xs ∷ messages) x e = let f = first_is xs x e in (f.0, messages, ap (λ (ys : List Name). ys ∷ messages) f.1)

nothing : (x : Name) → None ≡ Some x → ⊥
nothing x e = cc

module _ (o : Outline) (ok : OutlineIsSound o) (depth : ℕ) (world : World) (w : ℕ) where
  pub next : (kind : Kind) (x : Name) → next_name o world w kind ≡ Some x → mail_allows o depth world.mailbox w kind x ≡ true → IsNext o w (world.worker w) kind x × MailAllows o depth world.mailbox w kind x
  next Ingest x e m = (next_prefix_of (world.worker w).log.ingested (share o w) x e, tt)
  next SendControl x e m = (found_least (IsControlDue o w (world.worker w).log) (is_control_due o w (world.worker w).log) (ctrl_names o) (control_into o ok w (world.worker w)) (control_back o ok w (world.worker w)) x e, ltb-true (length (world.mailbox w (receiver o x))) depth m)
  next (Route j) x e m = (found_least (IsHeld o w (world.worker w).log (is_rec j)) (is_held o w (world.worker w).log) (o.records j) (rec_into o ok w (world.worker w) j) (rec_back o ok w (world.worker w) j) x e, ltb-true (length (world.mailbox w (receiver o x))) depth m)
  next (Receive v) x e m = (tt, begins_first (world.mailbox v w) x e)
  next (Extract j) x e m = (found_least (IsDue o w (world.worker w) j) (is_due o w (world.worker w) j) (packets_of o) (due_into o ok w (world.worker w) j) (due_back o ok w (world.worker w) j) x e, ltb-true (length (world.mailbox w (receiver o x))) depth m)
  next (Settle j) x e m = (found_least (IsUnsettled o (world.worker w).log j) (λ y. not (has (world.worker w).log.settled y)) (noted_times o j (world.worker w).log) (settle_into o ok w (world.worker w) j) (settle_back o ok w (world.worker w) j) x e, tt)
  next (Apply j) x e m = (found_least (IsWaiting o w (world.worker w).log j) (is_pending o w (world.worker w).log) (groups_of o j) (λ y h. h) (λ y i h. (i, h)) x e, tt)
  next SendRow x e m = (found_least (IsHeld o w (world.worker w).log is_row) (is_held o w (world.worker w).log) o.rows (row_into o ok w (world.worker w)) (row_back o ok w (world.worker w)) x e, ltb-true (length (world.mailbox w (receiver o x))) depth m)
  next Write x e m =
      ⊎_elim
      (λ (h : (w == 0) ≡ true). (
        (
          eqb-true w 0 h,
          found_least (IsUnwritten (world.worker w).log) (λ y. not (has (world.worker w).log.settled y)) (taken_times o (world.worker w).log) (write_into o ok w (world.worker w)) (write_back o ok w (world.worker w)) x
              (sym (cond-true (w == 0) (least_where (λ y. not (has (world.worker w).log.settled y)) (taken_times o (world.worker w).log)) None h) ∙ e),
        ),
        tt,
      ))
      (λ (h : (w == 0) ≡ false). absurd (nothing x (sym (cond-false (w == 0) (least_where (λ y. not (has (world.worker w).log.settled y)) (taken_times o (world.worker w).log)) None h) ∙ e)))
      (cases_Bool (w == 0))
  next Exchange x e m = absurd (nothing x e)

  pub next_back : (kind : Kind) (x : Name) → IsNext o w (world.worker w) kind x → MailAllows o depth world.mailbox w kind x → (next_name o world w kind ≡ Some x) × (mail_allows o depth world.mailbox w kind x ≡ true)
  next_back Ingest x h m = (prefix_next (world.worker w).log.ingested (share o w) x h, refl)
  next_back SendControl x h m = (least_found (IsControlDue o w (world.worker w).log) (is_control_due o w (world.worker w).log) (ctrl_names o) (control_into o ok w (world.worker w)) (control_back o ok w (world.worker w)) x h, lt-ltb (length (world.mailbox w (receiver o x))) depth m)
  next_back (Route j) x h m = (least_found (IsHeld o w (world.worker w).log (is_rec j)) (is_held o w (world.worker w).log) (o.records j) (rec_into o ok w (world.worker w) j) (rec_back o ok w (world.worker w) j) x h, lt-ltb (length (world.mailbox w (receiver o x))) depth m)
  next_back (Receive v) x h m = (ap (λ (messages : List (List Name)). first_of (first_message messages)) m.2, refl)
  next_back (Extract j) x h m = (least_found (IsDue o w (world.worker w) j) (is_due o w (world.worker w) j) (packets_of o) (due_into o ok w (world.worker w) j) (due_back o ok w (world.worker w) j) x h, lt-ltb (length (world.mailbox w (receiver o x))) depth m)
  next_back (Settle j) x h m = (least_found (IsUnsettled o (world.worker w).log j) (λ y. not (has (world.worker w).log.settled y)) (noted_times o j (world.worker w).log) (settle_into o ok w (world.worker w) j) (settle_back o ok w (world.worker w) j) x h, refl)
  next_back (Apply j) x h m = (least_found (IsWaiting o w (world.worker w).log j) (is_pending o w (world.worker w).log) (groups_of o j) (λ y k. k) (λ y i k. (i, k)) x h, refl)
  next_back SendRow x h m = (least_found (IsHeld o w (world.worker w).log is_row) (is_held o w (world.worker w).log) o.rows (row_into o ok w (world.worker w)) (row_back o ok w (world.worker w)) x h, lt-ltb (length (world.mailbox w (receiver o x))) depth m)
  next_back Write x h m = (
    cond-true (w == 0) (least_where (λ y. not (has (world.worker w).log.settled y)) (taken_times o (world.worker w).log)) None (eq-eqb w 0 h.0) ∙ least_found (IsUnwritten (world.worker w).log) (λ y. not (has (world.worker w).log.settled y)) (taken_times o (world.worker w).log) (write_into o ok w (world.worker w)) (write_back o ok w (world.worker w)) x h.1,
    refl,
  )
  next_back Exchange x h m = absurd h
