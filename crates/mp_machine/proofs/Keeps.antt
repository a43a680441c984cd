-- Each step keeps the log of its worker legal, by what this worker saw.
use Rattle.std.proofs.Common.{◌≡◌, ℕ, ◌<◌, Bool, false, List, [], ◌∷◌, ◌++◌, refl, sym, subst, ⊎_elim, append_assoc, append-nil}
use Rattle.mp_names.specs.declared.names.Name.{Name}
use Rattle.mp_names.specs.declared.names.Name.TheVariants.{Packet, Group, Settled, Written}
use Rattle.mp_names.specs.declared.locations.Loc.{Loc}
use Rattle.mp_names.specs.declared.locations.Loc.TheVariants.{CtlMail, Mail, State, Host, OutMail}
use Rattle.mp_names.specs.declared.kinds.Kind.{Kind}
use Rattle.mp_names.specs.declared.kinds.Kind.TheVariants.{Ingest, SendControl, Route, Receive, Extract, Settle, Apply, SendRow, Write, Exchange}
use Rattle.mp_names.specs.Names.{has, In, Distinct, IsLeast, is_ctrl, is_rec, is_row}
use Rattle.mp_names.specs.Outlines.{Outline, OutlineIsSound, time_of, IsOwedTo}
use Rattle.mp_names.specs.Logs.{Log, LogIsLegal, LogGrows, with_sent, with_took, with_applied, with_settled}
use Rattle.mp_names.specs.Frontiers.{HasPassed, IsClosedForOne}
use Rattle.mp_names.specs.Keeping.{IsHeld, IsUnsettled, IsWaiting, IsUnwritten, GroupIsWhole}
use Rattle.mp_names.proofs.Exact.{passed_below}
use Rattle.mp_names.proofs.Lists.{In_here, In_later, In_push, prefix_refl}
use Rattle.mp_names.proofs.Orders.{ascending_once}
use Rattle.mp_names.proofs.Grows.{grows_refl, grown_given}
use Rattle.mp_names.proofs.Listed.{groups_are}
use Rattle.mp_names.proofs.Keeps.{ingested_keeps, took_keeps, held_keeps, packet_keeps, group_keeps, time_keeps, written_keeps}
use Rattle.mp_names.proofs.Whole.{whole}
use Rattle.std.proofs.lemmas.Bool.{eqb-true, both_ways, false_from_ne_true}
use Rattle.mp_machine.specs.Worlds.{Worker}
use Rattle.mp_machine.specs.Messages.{bundle_of}
use Rattle.mp_machine.specs.Steps.{IsDue, IsNext, IsReady, MayLeave, MaySettle, MayApply, AreNamesOf, logged}
use Rattle.mp_machine.specs.Promises.{ComesRightly}
use Rattle.mp_machine.proofs.Messages.{bundle_held, bundle_ascends}

-- the log with more names has grown
pub logged_grows : (kind : Kind) (log : Log) (xs : List Name) → LogGrows log (logged kind log xs)
logged_grows Ingest log xs = record { ingested = (xs, refl); sent = prefix_refl log.sent; took = prefix_refl log.took; applied = prefix_refl log.applied; settled = prefix_refl log.settled }
logged_grows SendControl log xs = record { ingested = prefix_refl log.ingested; sent = (xs, refl); took = prefix_refl log.took; applied = prefix_refl log.applied; settled = prefix_refl log.settled }
logged_grows (Route j) log xs = record { ingested = prefix_refl log.ingested; sent = (xs, refl); took = prefix_refl log.took; applied = prefix_refl log.applied; settled = prefix_refl log.settled }
logged_grows (Receive v) log xs = record { ingested = prefix_refl log.ingested; sent = prefix_refl log.sent; took = (xs, refl); applied = prefix_refl log.applied; settled = prefix_refl log.settled }
logged_grows (Extract j) log xs = record { ingested = prefix_refl log.ingested; sent = (xs, refl); took = prefix_refl log.took; applied = prefix_refl log.applied; settled = prefix_refl log.settled }
logged_grows (Settle j) log xs = record { ingested = prefix_refl log.ingested; sent = prefix_refl log.sent; took = prefix_refl log.took; applied = prefix_refl log.applied; settled = (xs, refl) }
logged_grows (Apply j) log xs = record { ingested = prefix_refl log.ingested; sent = prefix_refl log.sent; took = prefix_refl log.took; applied = (xs, refl); settled = prefix_refl log.settled }
logged_grows SendRow log xs = record { ingested = prefix_refl log.ingested; sent = (xs, refl); took = prefix_refl log.took; applied = prefix_refl log.applied; settled = prefix_refl log.settled }
logged_grows Write log xs = record { ingested = prefix_refl log.ingested; sent = prefix_refl log.sent; took = prefix_refl log.took; applied = prefix_refl log.applied; settled = (xs, refl) }
logged_grows Exchange log xs = grows_refl log

-- a log stays legal with several names, one after the other

module _ (o : Outline) (w : ℕ) where
  -- what is held is held after another name is sent
  held_still : (p : Name → Bool) (log : Log) (x y : Name) → (x ≡ y → ⊥) → IsHeld o w log p y → IsHeld o w (with_sent log x) p y
  held_still p log x y n h = (
    h.0,
    h.1,
    grown_given o w log (with_sent log x) (logged_grows SendControl log (x ∷ [])) y h.2,
    false_from_ne_true (has (log.sent ++ x ∷ []) y) (λ i. ⊎_elim (λ (k : In y log.sent). both_ways (has log.sent y) h.3 k) (λ (e : x ≡ y). n e) (In_push y x log.sent i)),
  )

  other : (x y : Name) (xs : List Name) → has xs x ≡ false → In y xs → x ≡ y → ⊥
  other x y xs n i e = both_ways (has xs x) n (subst (λ (z : Name). In z xs) (sym e) i)

  sends_keep : (p : Name → Bool) (xs : List Name) (log : Log) → LogIsLegal o w log → Distinct xs → ((x : Name) → In x xs → IsHeld o w log p x) → LogIsLegal o w (record log { sent = log.sent ++ xs })
  sends_keep p [] log good d h = subst (λ (l : List Name). LogIsLegal o w (record log { sent = l })) (sym (append-nil log.sent)) good
  sends_keep p (x ∷ xs) log good d h =
      subst (λ (l : List Name). LogIsLegal o w (record log { sent = l })) (append_assoc log.sent (x ∷ []) xs)
      (sends_keep p xs (with_sent log x) (held_keeps o w log good p x (h x (In_here x xs))) d.1 (λ y i. held_still p log x y (other x y xs d.0 i) (h y (In_later y x xs i))))

  takes_keep : (xs : List Name) (log : Log) → LogIsLegal o w log → Distinct xs → ((x : Name) → In x xs → IsOwedTo o w x × (has log.took x ≡ false)) → LogIsLegal o w (record log { took = log.took ++ xs })
  takes_keep [] log good d h = subst (λ (l : List Name). LogIsLegal o w (record log { took = l })) (sym (append-nil log.took)) good
  takes_keep (x ∷ xs) log good d h =
      let own = h x (In_here x xs) in
      subst (λ (l : List Name). LogIsLegal o w (record log { took = l })) (append_assoc log.took (x ∷ []) xs)
      (takes_keep xs (with_took log x) (took_keeps o w log good x own.1 own.0) d.1 (λ y i.
      let mine = h y (In_later y x xs i) in (
        mine.0,
        false_from_ne_true (has (log.took ++ x ∷ []) y) (λ k. ⊎_elim (λ (g : In y log.took). both_ways (has log.took y) mine.1 g) (λ (e : x ≡ y). other x y xs d.0 i e) (In_push y x log.took k)),
      )))

module _ (o : Outline) (ok : OutlineIsSound o) (w : ℕ) (l : w < o.workers) (worker : Worker) (good : LogIsLegal o w worker.log) (known : (at : Loc) (t : ℕ) → HasPassed (worker.seen at) t → IsClosedForOne o w worker.log at t) where
  -- the least group that waits is of the kind's stage
  of_stage : (P : Name → Type 0) (j : ℕ) → ((t k : ℕ) → IsLeast (IsWaiting o w worker.log j) (Group j t k) → MayApply o w worker j (Group j t k) → P (Group j t k)) → (x : Name) → IsLeast (IsWaiting o w worker.log j) x → MayApply o w worker j x → P x
  of_stage P j f (Group i t k) h r =
      let e : i ≡ j = eqb-true i j (groups_are o ok j (Group i t k) h.0.0).1 in
      subst (λ (n : ℕ). P (Group n t k)) (sym e) (f t k (subst (λ (n : ℕ). IsLeast (IsWaiting o w worker.log j) (Group n t k)) e h) r)
  of_stage P j f _ h r = absurd r

  whole_then : (j : ℕ) (x : Name) → IsLeast (IsWaiting o w worker.log j) x → MayApply o w worker j x → LogIsLegal o w (with_applied worker.log x)
  whole_then j x h r =
      of_stage (λ (y : Name). LogIsLegal o w (with_applied worker.log y)) j
      (λ t k h r. group_keeps o ok w l worker.log good j t k h r.3 (known (Mail j) t r.0) (known (State j) t r.1))
      x h r

  pub group_is_whole : (j i t k : ℕ) → IsLeast (IsWaiting o w worker.log j) (Group i t k) → MayApply o w worker j (Group i t k) → GroupIsWhole o w worker.log i t k
  group_is_whole j i t k h r =
      let e : i ≡ j = eqb-true i j (groups_are o ok j (Group i t k) h.0.0).1 in
      subst (λ (n : ℕ). GroupIsWhole o w worker.log n t k) (sym e)
      (whole o ok w worker.log good j t k (subst (λ (n : ℕ). IsLeast (IsWaiting o w worker.log j) (Group n t k)) e h) (known (Mail j) t r.0) (known (State j) t r.1))

  extracts : (j : ℕ) (x : Name) → IsDue o w worker j x → MayLeave o w worker j x → LogIsLegal o w (with_sent worker.log x)
  extracts j (Packet i b t) d r =
      subst (λ (n : ℕ). LogIsLegal o w (with_sent worker.log (Packet n b t))) (sym d.0.0)
      (packet_keeps o w worker.log good j b t (refl, d.0.1, d.0.2) (λ u k. known (Host j) u (passed_below (worker.seen (Host j)) t u r.0 k)))
  extracts j _ d r = absurd d

  settles : (j : ℕ) (x : Name) → IsLeast (IsUnsettled o worker.log j) x → MaySettle o w worker j x → LogIsLegal o w (with_settled worker.log x)
  settles j (Settled i t) h r =
      let e = h.0.0 in
      subst (λ (n : ℕ). LogIsLegal o w (with_settled worker.log (Settled n t))) (sym e)
      (time_keeps o ok w l worker.log good j t (subst (λ (n : ℕ). IsLeast (IsUnsettled o worker.log j) (Settled n t)) e h) (known CtlMail t r.0) r.1)
  settles j _ h r = absurd r

  writes : (x : Name) → w ≡ 0 → IsLeast (IsUnwritten worker.log) x → HasPassed (worker.seen OutMail) (time_of o x) → LogIsLegal o w (with_settled worker.log x)
  writes (Written t) z h r = written_keeps o ok w l worker.log good t z h (known OutMail t r)
  writes _ z h r = absurd h.0

  one_name : (P : List Name → Type 0) (x : Name) (xs : List Name) → xs ≡ x ∷ [] → P (x ∷ []) → P xs
  one_name P x xs e h = subst P (sym e) h

  routes : (j : ℕ) (x : Name) (xs : List Name) → xs ≡ bundle_of o w worker.log j x → LogIsLegal o w (record worker.log { sent = worker.log.sent ++ xs })
  routes j x xs e =
      subst (λ (l : List Name). LogIsLegal o w (record worker.log { sent = worker.log.sent ++ l })) (sym e)
      (sends_keep o w (is_rec j) (bundle_of o w worker.log j x) worker.log good (ascending_once (bundle_of o w worker.log j x) (bundle_ascends o ok w worker j x)) (bundle_held o ok w worker j x))

  pub step_keeps : (kind : Kind) (x : Name) (xs : List Name) → IsNext o w worker kind x → IsReady o w worker kind x → AreNamesOf o w worker.log kind x xs → ComesRightly o w worker.log kind xs → LogIsLegal o w (logged kind worker.log xs)
  step_keeps Ingest x xs n r a c = one_name (λ (l : List Name). LogIsLegal o w (logged Ingest worker.log l)) x xs a (ingested_keeps o w worker.log good x n)
  step_keeps SendControl x xs n r a c = one_name (λ (l : List Name). LogIsLegal o w (logged SendControl worker.log l)) x xs a (held_keeps o w worker.log good is_ctrl x n.0.0)
  step_keeps (Route j) x xs n r a c = routes j x xs a
  step_keeps (Receive v) x xs n r a c = takes_keep o w xs worker.log good c.0 c.1
  step_keeps (Extract j) x xs n r a c = one_name (λ (l : List Name). LogIsLegal o w (logged (Extract j) worker.log l)) x xs a (extracts j x n.0 r)
  step_keeps (Settle j) x xs n r a c = one_name (λ (l : List Name). LogIsLegal o w (logged (Settle j) worker.log l)) x xs a (settles j x n r)
  step_keeps (Apply j) x xs n r a c = one_name (λ (l : List Name). LogIsLegal o w (logged (Apply j) worker.log l)) x xs a (whole_then j x n r)
  step_keeps SendRow x xs n r a c = one_name (λ (l : List Name). LogIsLegal o w (logged SendRow worker.log l)) x xs a (held_keeps o w worker.log good is_row x n.0)
  step_keeps Write x xs n r a c = one_name (λ (l : List Name). LogIsLegal o w (logged Write worker.log l)) x xs a (writes x n.0 n.1 r)
  step_keeps Exchange x xs n r a c = absurd n
