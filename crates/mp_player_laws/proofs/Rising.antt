-- How the numbers of a worker rise.
use Rattle.std.proofs.Common.{◌≡◌, ℕ, ◌+◌, ◌==◌, Bool, true, false, List, [], ◌∷◌, ◌++◌, length, filter, refl, sym, ap, ◌∙◌, subst, ⊎_elim, length-append}
use Rattle.std.proofs.Math.Path.{fun_ext}
use Rattle.std.proofs.lemmas.Bool.{false≢true, eqb-true, eq-eqb, ne_eqb, false_from_ne_true, cases_eq}
use Rattle.mp_names.specs.declared.names.Name.{Name}
use Rattle.mp_names.specs.declared.names.Name.TheVariants.{Packet, Group, Settled, Written}
use Rattle.mp_names.specs.declared.kinds.Kind.{Kind}
use Rattle.mp_names.specs.declared.kinds.Kind.TheVariants.{Ingest, SendControl, Route, Receive, Extract, Settle, Apply, SendRow, Write, Exchange}
use Rattle.mp_names.specs.Names.{In, is_ctrl, is_packet, is_row, is_group, is_settled, is_written}
use Rattle.mp_names.specs.Outlines.{Outline, OutlineIsSound}
use Rattle.mp_names.specs.Logs.{Log}
use Rattle.mp_names.specs.Keeping.{IsUnsettled, IsUnwritten}
use Rattle.mp_names.proofs.Lists.{In_cases}
use Rattle.mp_names.proofs.Listed.{groups_are}
use Rattle.mp_machine.specs.Worlds.{Worker, World, put}
use Rattle.mp_machine.specs.Messages.{bundle_of}
use Rattle.mp_machine.specs.Steps.{IsDue, CanStep, logged, names_of}
use Rattle.mp_machine.proofs.Puts.{put_here, put_other}
use Rattle.mp_machine.proofs.Messages.{bundle_held}
use Rattle.mp_player_laws.proofs.Decided.{filter_push}
use Rattle.mp_player_laws.proofs.Sending.{filter_none, record_alone, ctrl_packet, ctrl_row, packet_row}
use Rattle.mp_player_laws.specs.Numbers.{numbers_of}
use Rattle.mp_player_laws.specs.Rising.{with_one}

-- a list with one name more

one_more : (p : Name → Bool) (xs : List Name) (x : Name) → p x ≡ true → length (filter p (xs ++ x ∷ [])) ≡ length (filter p xs) + 1
one_more p xs x e = ap length (filter_push p xs x e) ∙ length-append (filter p xs) (x ∷ [])

no_more : (p : Name → Bool) (xs : List Name) (x : Name) → p x ≡ false → length (filter p (xs ++ x ∷ [])) ≡ length (filter p xs)
no_more p xs x e = ap length (filter_none p xs (x ∷ []) (λ y i. ⊎_elim (λ (f : x ≡ y). subst (λ (z : Name). p z ≡ false) f e) (λ (k : In y []). absurd (false≢true k)) (In_cases y x [] i)))

-- by stage: the number of one stage rises

one_stage_more : (p : ℕ → Name → Bool) (xs : List Name) (x : Name) (j : ℕ) → p j x ≡ true → ((n : ℕ) → (n ≡ j → ⊥) → p n x ≡ false) → (λ (n : ℕ). length (filter (p n) (xs ++ x ∷ []))) ≡ put j (length (filter (p j) xs) + 1) (λ n. length (filter (p n) xs))
one_stage_more p xs x j here other = fun_ext (λ n.
    ⊎_elim
    (λ (e : n ≡ j). subst (λ (m : ℕ). length (filter (p m) (xs ++ x ∷ [])) ≡ length (filter (p j) xs) + 1) (sym e) (one_more (p j) xs x here) ∙ sym (put_here j n (length (filter (p j) xs) + 1) (λ n. length (filter (p n) xs)) e))
    (λ (e : n ≡ j → ⊥). no_more (p n) xs x (other n e) ∙ sym (put_other j n (length (filter (p j) xs) + 1) (λ n. length (filter (p n) xs)) e))
    (cases_eq n j))

no_stage_more : (p : ℕ → Name → Bool) (xs : List Name) (x : Name) → ((n : ℕ) → p n x ≡ false) → ◌≡◌ {A = ℕ → ℕ} (λ n. length (filter (p n) (xs ++ x ∷ []))) (λ n. length (filter (p n) xs))
no_stage_more p xs x none = fun_ext (λ n. no_more (p n) xs x (none n))

-- the numbers of a log with other names sent, and with other times settled

module _ (log : Log) where
  sent_numbers : (new : List Name) (c : ℕ) (p : ℕ → ℕ) (r : ℕ) → length (filter is_ctrl new) ≡ c → (λ (j : ℕ). length (filter (is_packet j) new)) ≡ p → length (filter is_row new) ≡ r → numbers_of (record log { sent = new }) ≡ record (numbers_of log) { controls = c; packets = p; rows = r }
  sent_numbers new c p r e f g =
      ap (λ (n : ℕ). record (numbers_of log) { controls = n; packets = λ j. length (filter (is_packet j) new); rows = length (filter is_row new) }) e
      ∙ ap (λ (q : ℕ → ℕ). record (numbers_of log) { controls = c; packets = q; rows = length (filter is_row new) }) f
      ∙ ap (λ (n : ℕ). record (numbers_of log) { controls = c; packets = p; rows = n }) g

  settled_numbers : (new : List Name) (t : ℕ → ℕ) (n : ℕ) → (λ (j : ℕ). length (filter (is_settled j) new)) ≡ t → length (filter is_written new) ≡ n → numbers_of (record log { settled = new }) ≡ record (numbers_of log) { times = t; written = n }
  settled_numbers new t n e f =
      ap (λ (q : ℕ → ℕ). record (numbers_of log) { times = q; written = length (filter is_written new) }) e ∙ ap (λ (k : ℕ). record (numbers_of log) { times = t; written = k }) f

-- names of another stage aren't of this one

another : (i j n : ℕ) → i ≡ j → (n ≡ j → ⊥) → i == n ≡ false
another i j n e d = ne_eqb i n (λ f. d (sym f ∙ e))

module _ (o : Outline) (ok : OutlineIsSound o) (w : ℕ) (worker : Worker) where
  abbrev log : Log
  log = worker.log

  sends_control : (x : Name) → is_ctrl x ≡ true → numbers_of (record log { sent = log.sent ++ x ∷ [] }) ≡ with_one SendControl (numbers_of log)
  sends_control x is =
      sent_numbers log (log.sent ++ x ∷ []) _ _ _ (one_more is_ctrl log.sent x is)
      (no_stage_more is_packet log.sent x (λ n. false_from_ne_true (is_packet n x) (λ e. ctrl_packet n x is e)))
      (no_more is_row log.sent x (false_from_ne_true (is_row x) (λ e. ctrl_row x is e)))

  sends_row : (x : Name) → is_row x ≡ true → numbers_of (record log { sent = log.sent ++ x ∷ [] }) ≡ with_one SendRow (numbers_of log)
  sends_row x is =
      sent_numbers log (log.sent ++ x ∷ []) _ _ _ (no_more is_ctrl log.sent x (false_from_ne_true (is_ctrl x) (λ e. ctrl_row x e is)))
      (no_stage_more is_packet log.sent x (λ n. false_from_ne_true (is_packet n x) (λ e. packet_row n x e is)))
      (one_more is_row log.sent x is)

  sends_packet : (j : ℕ) (x : Name) → IsDue o w worker j x → numbers_of (record log { sent = log.sent ++ x ∷ [] }) ≡ with_one (Extract j) (numbers_of log)
  sends_packet j (Packet i b t) due =
      sent_numbers log (log.sent ++ Packet i b t ∷ []) _ _ _ (no_more is_ctrl log.sent (Packet i b t) refl)
      (one_stage_more is_packet log.sent (Packet i b t) j (eq-eqb i j due.0.0) (λ n d. another i j n due.0.0 d))
      (no_more is_row log.sent (Packet i b t) refl)
  sends_packet j _ due = absurd due

  routes : (j : ℕ) (x : Name) → numbers_of (record log { sent = log.sent ++ bundle_of o w log j x }) ≡ numbers_of log
  routes j x =
      let xs = bundle_of o w log j x in
      let alone = λ (y : Name) (i : In y xs). record_alone j y (bundle_held o ok w worker j x y i).0 in
      sent_numbers log (log.sent ++ xs) _ _ _ (ap length (filter_none is_ctrl log.sent xs (λ y i. (alone y i).0)))
      (fun_ext (λ n. ap length (filter_none (is_packet n) log.sent xs (λ y i. (alone y i).1 n))))
      (ap length (filter_none is_row log.sent xs (λ y i. (alone y i).2)))

  settles : (j : ℕ) (x : Name) → IsUnsettled o log j x → numbers_of (record log { settled = log.settled ++ x ∷ [] }) ≡ with_one (Settle j) (numbers_of log)
  settles j (Settled i t) h =
      settled_numbers log (log.settled ++ Settled i t ∷ []) _ _ (one_stage_more is_settled log.settled (Settled i t) j (eq-eqb i j h.0) (λ n d. another i j n h.0 d)) (no_more is_written log.settled (Settled i t) refl)
  settles j _ h = absurd h

  writes : (x : Name) → IsUnwritten log x → numbers_of (record log { settled = log.settled ++ x ∷ [] }) ≡ with_one Write (numbers_of log)
  writes (Written t) h = settled_numbers log (log.settled ++ Written t ∷ []) _ _ (no_stage_more is_settled log.settled (Written t) (λ n. refl)) (one_more is_written log.settled (Written t) refl)
  writes _ h = absurd h

  applies : (j : ℕ) (x : Name) → is_group j x ≡ true → numbers_of (record log { applied = log.applied ++ x ∷ [] }) ≡ with_one (Apply j) (numbers_of log)
  applies j (Group i t k) is = ap (λ (q : ℕ → ℕ). record (numbers_of log) { groups = q }) (one_stage_more is_group log.applied (Group i t k) j is (λ n d. another i j n (eqb-true i j is) d))
  applies j _ is = absurd (false≢true is)

pub numbers_rise : (o : Outline) (ok : OutlineIsSound o) (depth : ℕ) (world : World) (w : ℕ) (kind : Kind) (x : Name) → CanStep o depth world w kind x → numbers_of (logged kind (world.worker w).log (names_of o world w kind x)) ≡ with_one kind (numbers_of (world.worker w).log)
numbers_rise o ok depth world w Ingest x can = ap (λ (n : ℕ). record (numbers_of (world.worker w).log) { ingested = n }) (length-append (world.worker w).log.ingested (x ∷ []))
numbers_rise o ok depth world w SendControl x can = sends_control o ok w (world.worker w) x can.1.0.0.0
numbers_rise o ok depth world w (Route j) x can = routes o ok w (world.worker w) j x
numbers_rise o ok depth world w (Receive v) x can = refl
numbers_rise o ok depth world w (Extract j) x can = sends_packet o ok w (world.worker w) j x can.1.0
numbers_rise o ok depth world w (Settle j) x can = settles o ok w (world.worker w) j x can.1.0
numbers_rise o ok depth world w (Apply j) x can = applies o ok w (world.worker w) j x (groups_are o ok j x can.1.0.0).1
numbers_rise o ok depth world w SendRow x can = sends_row o ok w (world.worker w) x can.1.0.0
numbers_rise o ok depth world w Write x can = writes o ok w (world.worker w) x can.1.1.0
numbers_rise o ok depth world w Exchange x can = absurd can.1
