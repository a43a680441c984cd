-- What decides the steps of a run.
use Rattle.std.proofs.Common.{◌≡◌, ℕ, suc, ◌-◌, ◌<◌, ◌≤◌, ◌⊎◌, Bool, true, false, List, [], ◌∷◌, ◌++◌, filter, refl, sym, ap, ◌∙◌, subst, inl, inr, ⊎_elim, arith}
use Rattle.std.proofs.lemmas.Bool.{false≢true, eqb-true, eq-eqb, both_ways, false_from_ne_true, cond-true}
use Rattle.std.proofs.lemmas.List.Elements.{filter-append}
use Rattle.mp_names.specs.declared.names.Name.{Name}
use Rattle.mp_names.specs.declared.names.Name.TheVariants.{Packet, Row, Group, Settled, Written}
use Rattle.mp_names.specs.declared.names.Tag.{Tag}
use Rattle.mp_names.specs.declared.locations.Loc.{Loc}
use Rattle.mp_names.specs.declared.locations.Loc.TheVariants.{CtlMail, Mail, Move, State, Host, OutMail}
use Rattle.mp_names.specs.Names.{has, In, IsPrefix, Less, IsLeast, IsAscending, is_packet, is_row, is_group, is_settled, is_written}
use Rattle.mp_names.specs.Outlines.{Outline, OutlineIsSound, time_of, IsBeforeStop, group_owner, groups_of, due_groups, IsOwedBy, control_times, answer_times, HasControl}
use Rattle.mp_names.specs.Logs.{Log, LogIsLegal, is_given, is_owned, is_pending, owned_groups}
use Rattle.mp_names.specs.Locations.{stays}
use Rattle.mp_names.specs.Frontiers.{HasPassed, HasReached, SentAll, IsDoneBy, IsClosedForOne}
use Rattle.mp_names.specs.Keeping.{IsHeld, IsUnsentPacket, IsUnsettled, IsWaiting, IsUnwritten}
use Rattle.mp_names.proofs.Lists.{In_append, In_filter, filter_In}
use Rattle.mp_names.proofs.Orders.{less_irreflexive, less_trans, before_rest, filter_ascends}
use Rattle.mp_names.proofs.Reach.{move-state, state-host}
use Rattle.mp_names.proofs.Exact.{passed_earlier, passed_below}
use Rattle.mp_names.proofs.Listed.{due_groups_ascend, due_group, group_due, earlier_stop, groups_are, group_form, control_times_ascend, control_time_In, control_time_is, answer_times_ascend, answer_time_In, answer_time_is}
use Rattle.mp_names.proofs.Steps.{noted_control, control_noted, given_own}
use Rattle.mp_names.proofs.Hosts.{pending_until, pending_mine, pending_new}
use Rattle.mp_names.proofs.Whole.{in_hand_before}
use Rattle.mp_names.proofs.Keeps.{group_keeps, time_keeps, written_keeps}
use Rattle.mp_machine.specs.Worlds.{Worker}
use Rattle.mp_machine.specs.Steps.{IsDue, MayLeave, MaySettle, MayApply}
use Rattle.mp_player_laws.specs.Decisions.{ComesNext}
use Rattle.mp_player_laws.proofs.Next.{next_in, next_is_new, less_is_done}

-- an answer row that the worker owes and hasn't sent
abbrev pub IsUnsentRow : Outline → ℕ → Log → Name → Type 0
IsUnsentRow o w log x = IsOwedBy o w x × (is_row x ≡ true) × (has log.sent x ≡ false)

pub filter_push : (p : Name → Bool) (xs : List Name) (x : Name) → p x ≡ true → filter p (xs ++ x ∷ []) ≡ filter p xs ++ x ∷ []
filter_push p xs x e = filter-append p xs (x ∷ []) ∙ ap (λ (l : List Name). filter p xs ++ l) (cond-true (p x) (x ∷ []) [] e)

pub not_in_filter : (p : Name → Bool) (xs : List Name) (x : Name) → p x ≡ true → has (filter p xs) x ≡ false → has xs x ≡ false
not_in_filter p xs x e n = false_from_ne_true (has xs x) (λ h. both_ways (has (filter p xs) x) n (filter_In p x xs h e))

module _ (o : Outline) (ok : OutlineIsSound o) (w : ℕ) (l : w < o.workers) (worker : Worker) (good : LogIsLegal o w worker.log) (known : (at : Loc) (t : ℕ) → HasPassed (worker.seen at) t → IsClosedForOne o w worker.log at t) where
  abbrev log : Log
  log = worker.log

  -- a group

  module _ (j : ℕ) where
    abbrev applied : List Name
    applied = filter (is_group j) log.applied

    pub owned_ascend : IsAscending (owned_groups o w j)
    owned_ascend = filter_ascends (is_owned o w) (due_groups o j) (due_groups_ascend o j)

    abbrev GroupDecided : Name → Type 0
    GroupDecided x = (j < o.stages) × ComesNext applied (owned_groups o w j) x × HasPassed (worker.seen (Mail j)) (time_of o x) × HasPassed (worker.seen (State j)) (time_of o x)

    pub apply_to : (x : Name) → IsLeast (IsWaiting o w log j) x → MayApply o w worker j x → GroupDecided x
    apply_to (Group i t k) h r =
        let a = groups_are o ok j (Group i t k) h.0.0 in
        let e : i ≡ j = eqb-true i j a.1 in
        let least = subst (λ (n : ℕ). IsLeast (IsWaiting o w log j) (Group n t k)) e h in
        let legal = group_keeps o ok w l log good j t k least r.3 (known (Mail j) t r.0) (known (State j) t r.1) in
        let next = subst (λ (xs : List Name). IsPrefix xs (owned_groups o w j)) (filter_push (is_group j) log.applied (Group j t k) (eq-eqb j j refl)) (legal.applied_in_order j a.0) in
        (a.0, subst (λ (n : ℕ). ComesNext applied (owned_groups o w j) (Group n t k)) (sym e) next, r.0, r.1)
    apply_to _ h r = absurd r

    module _ (t k : ℕ) (next : ComesNext applied (owned_groups o w j) (Group j t k)) (mail : HasPassed (worker.seen (Mail j)) t) (state : HasPassed (worker.seen (State j)) t) where
      mails : (s : ℕ) → s ≤ t → IsDoneBy o w log (Mail j) s
      mails s h = known (Mail j) t mail (Mail j) s stays h

      states : (s : ℕ) → s ≤ t → IsDoneBy o w log (State j) s
      states s h = known (State j) t state (State j) s stays h

      packets : (s : ℕ) → s ≤ t → SentAll o w log (is_packet j) s
      packets s h = (known (State j) t state (Move j) s (move-state j) h).1

      here : In (Group j t k) (due_groups o j) × (is_owned o w (Group j t k) ≡ true)
      here = In_filter (is_owned o w) (Group j t k) (due_groups o j) (next_in applied (owned_groups o w j) (Group j t k) next)

      due : In (Group j t k) (groups_of o j) × IsBeforeStop o.until t
      due = due_group o j (Group j t k) here.0

      mine : group_owner o j t k ≡ w
      mine = eqb-true (group_owner o j t k) w here.1

      earlier : (s m : ℕ) → In (Group j s m) (groups_of o j) → is_owned o w (Group j s m) ≡ true → Less (Group j s m) (Group j t k) → In (Group j s m) log.applied
      earlier s m g own less =
          let le : s ≤ t = omega arith in
          let early = group_due o j (Group j s m) g (earlier_stop o.until s t le due.1) in
          (In_filter (is_group j) (Group j s m) log.applied (less_is_done applied (owned_groups o w j) (Group j t k) owned_ascend next (Group j s m) (filter_In (is_owned o w) (Group j s m) (due_groups o j) early own) less)).0

      hosts : (s : ℕ) → s < t → IsDoneBy o w log (Host j) s
      hosts s h x i own e = group_form o ok (λ x. is_owned o w x ≡ true → In x log.applied) j s (λ m g own. earlier s m g own (inr (refl, inl h))) x i e own

      fresh : has log.applied (Group j t k) ≡ false
      fresh = not_in_filter (is_group j) log.applied (Group j t k) (eq-eqb j j refl) (next_is_new applied (owned_groups o w j) (Group j t k) owned_ascend next)

      nothing_less : (y : Name) → IsWaiting o w log j y → Less y (Group j t k) → ⊥
      nothing_less (Group i s m) h less =
          let e : i ≡ j = eqb-true i j (groups_are o ok j (Group i s m) h.0).1 in
          let g = subst (λ (n : ℕ). In (Group n s m) (groups_of o j)) e h.0 in
          let p = subst (λ (n : ℕ). is_pending o w log (Group n s m) ≡ true) e h.1 in
          let before = subst (λ (n : ℕ). Less (Group n s m) (Group j t k)) e less in
          let le : s ≤ t = omega arith in
          let own = pending_mine o ok w log good j s (λ v q. packets v (omega arith)) m p in
          both_ways (has log.applied (Group j s m)) (pending_new o w log j s m p) (earlier s m g (eq-eqb (group_owner o j s m) w own) before)
      nothing_less _ h less = absurd (false≢true h.1)

      waits : IsLeast (IsWaiting o w log j) (Group j t k)
      waits = ((due.0, pending_until o ok w log good j t mails states hosts k due.0 mine fresh), nothing_less)

      pub apply_at : IsLeast (IsWaiting o w log j) (Group j t k) × MayApply o w worker j (Group j t k)
      apply_at = (waits, (mail, state, in_hand_before o w log j (o.bin_of k) (suc t) mine (λ m h. states m (omega arith)), due.1))

    pub apply_from : (x : Name) → GroupDecided x → IsLeast (IsWaiting o w log j) x × MayApply o w worker j x
    apply_from x d = form x d (due_group o j x (In_filter (is_owned o w) x (due_groups o j) (next_in applied (owned_groups o w j) x d.1)).0).0
      where
        form : (x : Name) → GroupDecided x → In x (groups_of o j) → IsLeast (IsWaiting o w log j) x × MayApply o w worker j x
        form (Group i t k) d g =
            let e : i ≡ j = eqb-true i j (groups_are o ok j (Group i t k) g).1 in
            let r = apply_at t k (subst (λ (n : ℕ). ComesNext applied (owned_groups o w j) (Group n t k)) e d.1) d.2 d.3 in
            (subst (λ (n : ℕ). IsLeast (IsWaiting o w log j) (Group n t k)) (sym e) r.0, r.1)
        form x d g = absurd (false≢true (In_filter (is_owned o w) x (due_groups o j) (next_in applied (owned_groups o w j) x d.1)).1)

  -- a time of control records

  module _ (j : ℕ) where
    abbrev settled : List Name
    settled = filter (is_settled j) log.settled

    abbrev TimeDecided : Name → Type 0
    TimeDecided x = (j < o.stages) × ComesNext settled (control_times o j) x × MaySettle o w worker j x

    pub settle_to : (x : Name) → IsLeast (IsUnsettled o log j) x → MaySettle o w worker j x → TimeDecided x
    settle_to (Settled i t) h r =
        let e : i ≡ j = h.0.0 in
        let control : HasControl o j t = noted_control o w log good j t h.0.1 in
        let stage = subst (λ (n : ℕ). n < o.stages) control.2 (ok.controls_fit control.0 control.1).1 in
        let least = subst (λ (n : ℕ). IsLeast (IsUnsettled o log j) (Settled n t)) e h in
        let legal = time_keeps o ok w l log good j t least (known CtlMail t r.0) r.1 in
        let next = subst (λ (xs : List Name). IsPrefix xs (control_times o j)) (filter_push (is_settled j) log.settled (Settled j t) (eq-eqb j j refl)) (legal.settled_in_order j stage) in
        (stage, subst (λ (n : ℕ). ComesNext settled (control_times o j) (Settled n t)) (sym e) next, r)
    settle_to _ h r = absurd r

    module _ (t : ℕ) (next : ComesNext settled (control_times o j) (Settled j t)) (control : HasControl o j t) (may : MaySettle o w worker j (Settled j t)) where
      no_time_less : (y : Name) → IsUnsettled o log j y → Less y (Settled j t) → ⊥
      no_time_less (Settled i s) h less =
          let before = subst (λ (n : ℕ). Less (Settled n s) (Settled j t)) h.0 less in
          let i = control_time_In o j s (noted_control o w log good j s h.1) in
          both_ways (has log.settled (Settled j s)) h.2 (In_filter (is_settled j) (Settled j s) log.settled (less_is_done settled (control_times o j) (Settled j t) (control_times_ascend o j) next (Settled j s) i before)).0
      no_time_less _ h less = absurd h

      pub settle_at : IsLeast (IsUnsettled o log j) (Settled j t)
      settle_at = (
        (
          refl,
          control_noted o w log j t l (known CtlMail t may.0 CtlMail t stays (omega arith)) control,
          not_in_filter (is_settled j) log.settled (Settled j t) (eq-eqb j j refl) (next_is_new settled (control_times o j) (Settled j t) (control_times_ascend o j) next),
        ),
        no_time_less,
      )

    pub settle_from : (x : Name) → TimeDecided x → IsLeast (IsUnsettled o log j) x
    settle_from x d =
        let r = control_time_is o j x (next_in settled (control_times o j) x d.1) in
        subst (IsLeast (IsUnsettled o log j)) (sym r.1)
        (settle_at r.0 (subst (λ (y : Name). ComesNext settled (control_times o j) y) r.1 d.1) r.2 (subst (MaySettle o w worker j) r.1 d.2))

  -- a time of answer rows

  abbrev written : List Name
  written = filter is_written log.settled

  abbrev WriteDecided : Name → Type 0
  WriteDecided x = (w ≡ 0) × ComesNext written (answer_times o) x × HasPassed (worker.seen OutMail) (time_of o x)

  pub write_to : (x : Name) → w ≡ 0 → IsLeast (IsUnwritten log) x → HasPassed (worker.seen OutMail) (time_of o x) → WriteDecided x
  write_to (Written t) z h r =
      let legal = written_keeps o ok w l log good t z h (known OutMail t r) in
      (z, subst (λ (xs : List Name). IsPrefix xs (answer_times o)) (filter_push is_written log.settled (Written t) refl) legal.written_in_order, r)
  write_to _ z h r = absurd h.0

  module _ (zero : w ≡ 0) (t : ℕ) (next : ComesNext written (answer_times o) (Written t)) (g : Tag) (row : In (Row t g) o.rows) (passed : HasPassed (worker.seen OutMail) t) where
    nothing_to_write : (y : Name) → IsUnwritten log y → Less y (Written t) → ⊥
    nothing_to_write (Written s) h less =
        let i = answer_time_In o s h.0.0 (good.took_owed (Row s h.0.0) h.0.1).0 in
        both_ways (has log.settled (Written s)) h.1 (In_filter is_written (Written s) log.settled (less_is_done written (answer_times o) (Written t) (answer_times_ascend o) next (Written s) i less)).0
    nothing_to_write _ h less = absurd h

    pub write_at : IsLeast (IsUnwritten log) (Written t)
    write_at = (
      (
        (g, known OutMail t passed OutMail t stays (omega arith) (Row t g) (row, sym zero) refl refl),
        not_in_filter is_written log.settled (Written t) refl (next_is_new written (answer_times o) (Written t) (answer_times_ascend o) next),
      ),
      nothing_to_write,
    )

  pub write_from : (x : Name) → WriteDecided x → IsLeast (IsUnwritten log) x
  write_from x d =
      let r = answer_time_is o ok x (next_in written (answer_times o) x d.1) in
      subst (IsLeast (IsUnwritten log)) (sym r.2)
      (write_at d.0 r.0 (subst (λ (y : Name). ComesNext written (answer_times o) y) r.2 d.1) r.1 r.3 (subst (λ (y : Name). HasPassed (worker.seen OutMail) (time_of o y)) r.2 d.2))

  -- a packet

  module _ (j : ℕ) where
    abbrev PacketDecided : Name → Type 0
    PacketDecided x = IsLeast (IsUnsentPacket o w log j) x × HasPassed (worker.seen CtlMail) (time_of o x) × HasReached (worker.seen (Host j)) (time_of o x)

    -- what is less than a packet that is due is due
    pub less_is_due : (x y : Name) → IsDue o w worker j x → IsUnsentPacket o w log j y → Less y x → IsDue o w worker j y
    less_is_due (Packet i b t) (Packet n c s) d u less =
        let le : s ≤ t = omega arith in
        (u, passed_earlier (worker.seen CtlMail) t s d.1 le)
    less_is_due (Packet i b t) _ d u less = absurd u
    less_is_due _ y d u less = absurd d

    due_is_unsent : (y : Name) → IsDue o w worker j y → IsUnsentPacket o w log j y × HasPassed (worker.seen CtlMail) (time_of o y)
    due_is_unsent (Packet i b t) d = d
    due_is_unsent _ d = absurd d

    pub extract_to : (x : Name) → IsLeast (IsDue o w worker j) x → MayLeave o w worker j x → PacketDecided x
    extract_to (Packet i b t) h r = ((h.0.0, (λ y u less. h.1 y (less_is_due (Packet i b t) y h.0 u less) less)), h.0.1, r.0)
    extract_to _ h r = absurd r

    pub extract_from : (x : Name) → PacketDecided x → IsLeast (IsDue o w worker j) x × MayLeave o w worker j x
    extract_from (Packet i b t) d = (
      ((d.0.0, d.1), (λ y k less. d.0.1 y (due_is_unsent y k).0 less)),
      (d.2, in_hand_before o w log j b t d.0.0.1.1 (λ m q. known (Host j) m (passed_below (worker.seen (Host j)) t m d.2 q) (State j) m (state-host j) (omega arith))),
    )
    extract_from _ d = absurd d.0.0

  -- an answer row

  abbrev last : ℕ
  last = o.stages - 1

  -- what the worker owns before a group that is applied is applied
  applied_before : (s t m k : ℕ) → In (Group last t k) log.applied → In (Group last s m) (groups_of o last) → group_owner o last s m ≡ w → IsBeforeStop o.until s → Less (Group last s m) (Group last t k) → In (Group last s m) log.applied
  applied_before s t m k i g own early less =
      let stage : last < o.stages = (let some = ok.some_stage in omega arith) in
      let p = good.applied_in_order last stage in
      let there = filter_In (is_group last) (Group last t k) log.applied i (eq-eqb last last refl) in
      let all = filter_In (is_owned o w) (Group last s m) (due_groups o last) (group_due o last (Group last s m) g early) (eq-eqb (group_owner o last s m) w own) in
      (In_filter (is_group last) (Group last s m) log.applied
      (⊎_elim
      (λ (h : In (Group last s m) (filter (is_group last) log.applied)). h)
      (λ (h : In (Group last s m) p.0).
      absurd (less_irreflexive (Group last t k)
      (less_trans (Group last t k) (Group last s m) (Group last t k)
      (before_rest (filter (is_group last) log.applied) p.0 (subst IsAscending (sym p.1) (owned_ascend last)) (Group last t k) (Group last s m) there h)
      less)))
      (In_append (Group last s m) (filter (is_group last) log.applied) p.0 (subst (λ (xs : List Name). In (Group last s m) xs) (sym p.1) all)))).0

  given_before : (x y : Name) → is_row x ≡ true → is_given o w log x ≡ true → IsUnsentRow o w log y → Less y x → is_given o w log y ≡ true
  given_before (Row t g) (Row s a) r given u less =
      let group = ok.rows_given s a u.0.0 in
      ⊎_elim
      (λ (h : (s ≡ t) × (a.0 ≡ g.0)). subst (λ (n : ℕ). In (Group last n a.0) log.applied) (sym h.0) (subst (λ (n : ℕ). In (Group last t n) log.applied) (sym h.1) given))
      (λ (h : Less (Group last s a.0) (Group last t g.0)). applied_before s t a.0 g.0 given group u.0.1 (ok.rows_stop (Row s a) u.0.0) h)
      (one_or_less last s t a g less)
    where
      one_or_less : (j s t : ℕ) (a g : Tag) → Less (Row s a) (Row t g) → ((s ≡ t) × (a.0 ≡ g.0)) ⊎ Less (Group j s a.0) (Group j t g.0)
      one_or_less j s t a g less = grind arith
  given_before (Row t g) _ r given u less = absurd (false≢true u.1)
  given_before _ y r given u less = absurd (false≢true r)

  abbrev RowDecided : Name → Type 0
  RowDecided x = IsLeast (IsUnsentRow o w log) x × (is_given o w log x ≡ true)

  pub send_to : (x : Name) → IsLeast (IsHeld o w log is_row) x → RowDecided x
  send_to x h = (
    (((h.0.1, given_own o w log good x h.0.2), h.0.0, h.0.3), (λ y u less. h.1 y (u.1, u.0.0, given_before x y h.0.0 h.0.2 u less, u.2) less)),
    h.0.2,
  )

  pub send_from : (x : Name) → RowDecided x → IsLeast (IsHeld o w log is_row) x
  send_from x d = ((d.0.0.1, d.0.0.0.0, d.1, d.0.0.2), (λ y h less. d.0.1 y ((h.1, given_own o w log good y h.2), h.0, h.3) less))
