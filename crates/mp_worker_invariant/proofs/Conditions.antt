-- The conditions of the machine's steps, as the parts of a worker say them.
use Rattle.std.proofs.Common.{◌≡◌, ℕ, [], ◌∷◌, refl, sym, subst}
use Rattle.std.proofs.lemmas.Bool.{false≢true, eqb-true}
use Rattle.mp_names.specs.declared.kinds.Kind.TheVariants.{Apply, Extract, SendControl, Settle, Write}
use Rattle.mp_names.specs.declared.locations.Loc.TheVariants.{CtlMail, Host, OutMail}
use Rattle.mp_names.specs.declared.names.Name.{Name}
use Rattle.mp_names.specs.declared.names.Name.TheVariants.{Ctrl, Packet, Group, Settled, Written}
use Rattle.mp_names.specs.Names.{In, IsLeast, is_ctrl}
use Rattle.mp_names.specs.Outlines.{IsOwedBy, OutlineIsSound, time_of}
use Rattle.mp_names.specs.Logs.{InHand, InHandBefore}
use Rattle.mp_names.specs.Frontiers.{HasPassed, HasReached}
use Rattle.mp_names.specs.Keeping.{IsHeld, IsUnsettled, IsUnwritten, IsWaiting}
use Rattle.mp_names.proofs.Listed.{groups_are}
use Rattle.mp_names.proofs.Lists.{In_here, In_right}
use Rattle.mp_machine.specs.Steps.{IsDue, MayApply, MayLeave, MaySettle}
use Rattle.mp_stamps.specs.Seen.{seen_at}
use Rattle.mp_model.specs.Facts.{JobFacts, QueryFacts}
use Rattle.mp_outline.specs.JobOutline.{outline_of}
use Rattle.mp_host_laws.specs.Hosted.{Hosted}
use Rattle.mp_host_laws.specs.HostOf.{IsReadyAt}
use Rattle.mp_handoff.specs.Due.{IsDueHere}
use Rattle.mp_worker_invariant.specs.Laws.{CanDo, ConditionsAreTold}
use Rattle.mp_worker_invariant.specs.Machine.{machine_worker}
use Rattle.mp_controller.specs.Controlling.{GoesNow}
use Rattle.mp_controller.proofs.Machine.{can_goes, goes_can}
use Rattle.mp_worker_invariant.specs.Parts.{ArePartsOf, Parts}
use Rattle.mp_worker_invariant.proofs.Legal.{packet_legal}

module _ {Cell : Type 0} (q : QueryFacts Cell) (job : JobFacts) (sound : OutlineIsSound (outline_of q job)) (p : Parts Cell) (parts : ArePartsOf q job p) where
  -- the control record that the controller tells, and no other
  can_send_control : (x : Name) → p.number ≡ 0 → GoesNow p.controller p.seen x → CanDo q job p SendControl x
  can_send_control x first goes = goes_can (outline_of q job) p.number first p.log p.controller (parts.controller first) (machine_worker p) refl p.seen refl x goes

  cant_send_control : (p.number ≡ 0 → (x : Name) → GoesNow p.controller p.seen x → ⊥) → (x : Name) → CanDo q job p SendControl x → ⊥
  cant_send_control none x can = let first = sender_is x can.0.0.0 in none first x (can_goes (outline_of q job) p.number first p.log p.controller (parts.controller first) (machine_worker p) refl p.seen refl x can.0 can.1)
    where
      sender_is : (x : Name) → IsHeld (outline_of q job) p.number p.log is_ctrl x → p.number ≡ 0
      sender_is (Ctrl i v) held = eqb-true p.number 0 held.2
      sender_is _ held = absurd (false≢true held.0)

  -- a packet that is due by what was seen is due, and the other way round
  due_here : (j : ℕ) (x : Name) → IsDue (outline_of q job) p.number (machine_worker p) j x → IsDueHere (outline_of q job) p.log p.seen p.number j x
  due_here j (Packet i b t) due = due
  due_here j _ due = due

  here_due : (j : ℕ) (x : Name) → IsDueHere (outline_of q job) p.log p.seen p.number j x → IsDue (outline_of q job) p.number (machine_worker p) j x
  here_due j (Packet i b t) due = due
  here_due j _ due = due

  -- a bin that is due to leave is in hand, since the log stays legal with its packet
  due_in_hand : (j b t : ℕ) → IsLeast (IsDueHere (outline_of q job) p.log p.seen p.number j) (Packet j b t) → HasReached (seen_at p.seen (Host j)) t → InHandBefore (outline_of q job) p.number p.log j b t
  due_in_hand j b t least reached =
      let x = Packet j b t in
      let legal = packet_legal q job sound p.number parts.worker p.log parts.legal p.seen parts.done j b t least reached in
      (legal.sent_given x (In_right x p.log.sent (x ∷ []) (In_here x []))).0

  can_extract : (j b t : ℕ) → IsLeast (IsDueHere (outline_of q job) p.log p.seen p.number j) (Packet j b t) → HasReached (seen_at p.seen (Host j)) t → CanDo q job p (Extract j) (Packet j b t)
  can_extract j b t least reached = ((here_due j (Packet j b t) least.0, (λ y due less. least.1 y (due_here j y due) less)), (reached, due_in_hand j b t least reached))

  cant_extract : (j : ℕ) → ((b t : ℕ) → IsLeast (IsDueHere (outline_of q job) p.log p.seen p.number j) (Packet j b t) → HasReached (seen_at p.seen (Host j)) t → ⊥) → (x : Name) → CanDo q job p (Extract j) x → ⊥
  cant_extract j none x can = form x (due_here j x can.0.0, (λ y due less. can.0.1 y (here_due j y due) less)) can.1
    where
      form : (x : Name) → IsLeast (IsDueHere (outline_of q job) p.log p.seen p.number j) x → MayLeave (outline_of q job) p.number (machine_worker p) j x → ⊥
      form (Packet i b t) least may =
          let o = outline_of q job in
          none b t (subst (λ (n : ℕ). IsLeast (IsDueHere o p.log p.seen p.number j) (Packet n b t)) least.0.0.0 least) may.0
      form _ least may = may

  cant_settle : (j : ℕ)
      → ((t : ℕ) → IsLeast (IsUnsettled (outline_of q job) p.log j) (Settled j t) → HasPassed (seen_at p.seen CtlMail) t → ((b : ℕ) → IsOwedBy (outline_of q job) p.number (Packet j b t) → In (Packet j b t) p.log.sent) → ⊥)
      → (x : Name) → CanDo q job p (Settle j) x → ⊥
  cant_settle j none x can = form x can.0 can.1
    where
      form : (x : Name) → IsLeast (IsUnsettled (outline_of q job) p.log j) x → MaySettle (outline_of q job) p.number (machine_worker p) j x → ⊥
      form (Settled i t) least may = none t (subst (λ (n : ℕ). IsLeast (IsUnsettled (outline_of q job) p.log j) (Settled n t)) least.0.0 least) may.0 may.1
      form _ least may = may

  -- a group that is ready is one that the machine may apply
  can_apply : (h : Hosted Cell) (t k : ℕ) → h.worker ≡ p.number → IsReadyAt q job p.log p.seen h t k → CanDo q job p (Apply h.stage) (Group h.stage t k)
  can_apply h t k own ready =
      let o = outline_of q job in
      (subst (λ (w : ℕ). IsLeast (IsWaiting o w p.log h.stage) (Group h.stage t k)) own ready.least, (ready.mail, ready.state, subst (λ (w : ℕ). InHand o w p.log h.stage (o.bin_of k) t) own ready.in_hand, ready.early))

  ready_group : (h : Hosted Cell) → h.worker ≡ p.number → (t k : ℕ) → IsLeast (IsWaiting (outline_of q job) p.number p.log h.stage) (Group h.stage t k)
      → MayApply (outline_of q job) p.number (machine_worker p) h.stage (Group h.stage t k) → IsReadyAt q job p.log p.seen h t k
  ready_group h own t k least may =
      let o = outline_of q job in
      record { least = subst (λ (w : ℕ). IsLeast (IsWaiting o w p.log h.stage) (Group h.stage t k)) (sym own) least; mail = may.0; state = may.1; in_hand = subst (λ (w : ℕ). InHand o w p.log h.stage (o.bin_of k) t) (sym own) may.2; early = may.3 }

  cant_apply : (h : Hosted Cell) → h.worker ≡ p.number → ((t k : ℕ) → IsReadyAt q job p.log p.seen h t k → ⊥) → (x : Name) → CanDo q job p (Apply h.stage) x → ⊥
  cant_apply h own none x can = form x can.0 can.1
    where
      form : (x : Name) → IsLeast (IsWaiting (outline_of q job) p.number p.log h.stage) x → MayApply (outline_of q job) p.number (machine_worker p) h.stage x → ⊥
      form (Group i t k) least may =
          let o = outline_of q job in
          let e : i ≡ h.stage = eqb-true i h.stage (groups_are o sound h.stage (Group i t k) least.0.0).1 in
          none t k (ready_group h own t k (subst (λ (n : ℕ). IsLeast (IsWaiting o p.number p.log h.stage) (Group n t k)) e least) may)
      form _ least may = may

  cant_write : (p.number ≡ 0 → (t : ℕ) → IsLeast (IsUnwritten p.log) (Written t) → HasPassed (seen_at p.seen OutMail) t → ⊥) → (x : Name) → CanDo q job p Write x → ⊥
  cant_write none x can = form x can.0.0 can.0.1 can.1
    where
      form : (x : Name) → p.number ≡ 0 → IsLeast (IsUnwritten p.log) x → HasPassed (seen_at p.seen OutMail) (time_of (outline_of q job) x) → ⊥
      form (Written t) e least passed = none e t least passed
      form _ e least passed = least.0

  pub conditions_are_told : ConditionsAreTold q job p
  conditions_are_told = record {
    ingest = λ x next. (next, tt);
    no_ingest = λ none x can. none x can.0;
    send_control = can_send_control;
    no_send_control = cant_send_control;
    extract = λ j b t below. can_extract j b t;
    no_extract = cant_extract;
    settle = λ j t least passed sent. (least, (passed, sent));
    no_settle = cant_settle;
    route = λ j x may. may;
    no_route = λ j none x can. none x can;
    apply = can_apply;
    no_apply = cant_apply;
    send_row = λ x least. (least, tt);
    no_send_row = λ none x can. none x can.0.0;
    write = λ t first least passed. ((first, least), passed);
    no_write = cant_write;
  }
