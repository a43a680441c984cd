-- What a worker holds to route, after each kind of step.
use Rattle.std.proofs.Common.{◌≡◌, ◌↔◌, ℕ, zero, suc, ◌⊎◌, ◌==◌, ◌&&◌, not, Bool, true, false, List, [], ◌∷◌, ◌++◌, refl, sym, ap, ◌∙◌, subst, inl, inr, ⊎_elim, arith}
use Rattle.std.proofs.lemmas.Bool.{false≢true, both_ways, eqb-true, and_parts, and_from, not-true, not_from_false, false_from_ne_true, cases_Bool}
use Rattle.mp_names.specs.declared.names.Name.{Name}
use Rattle.mp_names.specs.declared.names.Name.TheVariants.{Rec, Packet, Group}
use Rattle.mp_names.specs.declared.kinds.Kind.{Kind}
use Rattle.mp_names.specs.declared.kinds.Kind.TheVariants.{Ingest, SendControl, Route, Receive, Extract, Settle, Apply, SendRow, Write, Exchange}
use Rattle.mp_names.specs.Names.{has, In, Distinct, IsPrefix, is_ctrl, is_rec, is_row}
use Rattle.mp_names.specs.Outlines.{Outline, OutlineIsSound, sender, share}
use Rattle.mp_names.specs.Logs.{Log, LogIsLegal, is_given, is_pending}
use Rattle.mp_names.specs.Frontiers.{is_held}
use Rattle.mp_names.proofs.Lists.{In_here, In_cases, In_left, In_right, In_append, In_push, In_prefix, In_filter, Distinct_filter}
use Rattle.mp_names.proofs.Hosts.{pending_new}
use Rattle.mp_machine.specs.Worlds.{Worker, World}
use Rattle.mp_machine.specs.Steps.{IsDue, CanStep, logged, names_of}
use Rattle.mp_player_laws.proofs.Sending.{record_alone}
use Rattle.mp_player_laws.specs.Held.{Gives, Routes}

-- held, by its two parts

held_parts : (o : Outline) (w : ℕ) (log : Log) (y : Name) → is_held o w log y ≡ true → (is_given o w log y ≡ true) × (has log.sent y ≡ false)
held_parts o w log y h = let p = and_parts (is_given o w log y) (not (has log.sent y)) h in (p.0, not-true (has log.sent y) p.1)

held_from : (o : Outline) (w : ℕ) (log : Log) (y : Name) → is_given o w log y ≡ true → has log.sent y ≡ false → is_held o w log y ≡ true
held_from o w log y g n = and_from (is_given o w log y) (not (has log.sent y)) g (not_from_false (has log.sent y) n)

-- records are given alike by logs with the same share and the same groups
same_given : (o : Outline) (w : ℕ) (log new : Log) (j : ℕ) (y : Name) → new.ingested ≡ log.ingested → new.applied ≡ log.applied → is_rec j y ≡ true → is_given o w new y ≡ is_given o w log y
same_given o w log new j (Rec zero t k g) e f is = ap (λ (l : List Name). has l (Rec 0 t k g)) e
same_given o w log new j (Rec (suc i) t k g) e f is = ap (λ (l : List Name). has l (Group i t g.0)) f
same_given o w log new j _ e f is = absurd (false≢true is)

abbrev Changes : Outline → ℕ → Log → Log → Kind → List Name → Name → Name → Type 0
Changes o w log new kind xs x y = (is_held o w new y ≡ true) ↔ (((is_held o w log y ≡ true) × (Routes kind xs y → ⊥)) ⊎ Gives kind x y)

module _ (o : Outline) (ok : OutlineIsSound o) (w : ℕ) (log : Log) (good : LogIsLegal o w log) where
  -- what isn't given isn't sent
  not_given_not_sent : (j : ℕ) (y : Name) → is_rec j y ≡ true → is_given o w log y ≡ false → has log.sent y ≡ false
  not_given_not_sent j (Rec i t k g) is n = false_from_ne_true (has log.sent (Rec i t k g)) (λ h. both_ways (is_given o w log (Rec i t k g)) n (good.sent_given (Rec i t k g) h))
  not_given_not_sent j _ is n = absurd (false≢true is)

  -- with another list sent, in which the record stands where it stood before
  sent_alike : (new : List Name) (j : ℕ) (y : Name) → is_rec j y ≡ true → has new y ≡ has log.sent y → is_held o w (record log { sent = new }) y ≡ is_held o w log y
  sent_alike new j y is e = ap (λ (b : Bool). b && not (has new y)) (same_given o w log (record log { sent = new }) j y refl refl is) ∙ ap (λ (b : Bool). is_given o w log y && not b) e

  -- a name that is no record
  other_sent : (x : Name) (j : ℕ) (y : Name) → is_rec j y ≡ true → is_rec j x ≡ false → has (log.sent ++ x ∷ []) y ≡ has log.sent y
  other_sent x j y is other =
      ⊎_elim
      (λ (h : has log.sent y ≡ true). In_left y log.sent (x ∷ []) h ∙ sym h)
      (λ (h : has log.sent y ≡ false).
      false_from_ne_true (has (log.sent ++ x ∷ []) y) (λ i.
      ⊎_elim (λ (k : In y log.sent). both_ways (has log.sent y) h k) (λ (e : x ≡ y). both_ways (is_rec j x) other (subst (λ (z : Name). is_rec j z ≡ true) (sym e) is)) (In_push y x log.sent i)) ∙ sym h)
      (cases_Bool (has log.sent y))

  keeps : (kind : Kind) (xs : List Name) (x : Name) (new : Log) (y : Name) → is_held o w new y ≡ is_held o w log y → (Routes kind xs y → ⊥) → (Gives kind x y → ⊥) → Changes o w log new kind xs x y
  keeps kind xs x new y same r g = (
    (λ h. inl (sym same ∙ h, r)),
    (λ c. ⊎_elim (λ (h : (is_held o w log y ≡ true) × (Routes kind xs y → ⊥)). same ∙ h.0) (λ (h : Gives kind x y). absurd (g h)) c),
  )

  -- a record is given
  gets : (kind : Kind) (xs : List Name) (x : Name) (new : Log) (j : ℕ) (y : Name) → is_rec j y ≡ true → new.sent ≡ log.sent → (Routes kind xs y → ⊥) → ((is_given o w new y ≡ true) ↔ ((is_given o w log y ≡ true) ⊎ Gives kind x y)) → (Gives kind x y → is_given o w log y ≡ false) → Changes o w log new kind xs x y
  gets kind xs x new j y is same r given fresh = (
    (λ h.
        let p = held_parts o w new y h in
        ⊎_elim (λ (a : is_given o w log y ≡ true). inl (held_from o w log y a (ap (λ (l : List Name). has l y) (sym same) ∙ p.1), r)) (λ (b : Gives kind x y). inr b) (given.0 p.0)),
    (λ c.
        ⊎_elim
        (λ (h : (is_held o w log y ≡ true) × (Routes kind xs y → ⊥)).
        let p = held_parts o w log y h.0 in
        held_from o w new y (given.1 (inl p.0)) (ap (λ (l : List Name). has l y) same ∙ p.1))
        (λ (g : Gives kind x y). held_from o w new y (given.1 (inr g)) (ap (λ (l : List Name). has l y) same ∙ not_given_not_sent j y is (fresh g)))
        c),
  )

  ingests : (x : Name) → IsPrefix (log.ingested ++ x ∷ []) (share o w) → (j : ℕ) (y : Name) → is_rec j y ≡ true → Changes o w log (record log { ingested = log.ingested ++ x ∷ [] }) Ingest (x ∷ []) x y
  ingests x next j (Rec zero t k g) is =
      gets Ingest (x ∷ []) x (record log { ingested = log.ingested ++ x ∷ [] }) j (Rec 0 t k g) is refl (λ r. r) (
        (λ h. In_push (Rec 0 t k g) x log.ingested h),
        (λ c. ⊎_elim (λ (h : In (Rec 0 t k g) log.ingested). In_left (Rec 0 t k g) log.ingested (x ∷ []) h) (λ (e : x ≡ Rec 0 t k g). subst (λ (z : Name). In z (log.ingested ++ x ∷ [])) e (In_right x log.ingested (x ∷ []) (In_here x []))) c),
      )
      (λ e. subst (λ (z : Name). has log.ingested z ≡ false) e (fresh log.ingested (prefix_once (log.ingested ++ x ∷ []) (share o w) next (Distinct_filter (λ z. sender o z == w) (o.records 0) (ok.records_once 0)))))
    where
      prefix_once : (xs ys : List Name) → IsPrefix xs ys → Distinct ys → Distinct xs
      prefix_once xs ys p d = left_once xs p.0 (subst Distinct (sym p.1) d)
        where
          left_once : (xs ys : List Name) → Distinct (xs ++ ys) → Distinct xs
          left_once [] ys d = tt
          left_once (x ∷ xs) ys d = (false_from_ne_true (has xs x) (λ i. both_ways (has (xs ++ ys) x) d.0 (In_left x xs ys i)), left_once xs ys d.1)

      fresh : (xs : List Name) → Distinct (xs ++ x ∷ []) → has xs x ≡ false
      fresh [] d = refl
      fresh (z ∷ xs) d =
          false_from_ne_true (has (z ∷ xs) x) (λ i.
          ⊎_elim
          (λ (e : z ≡ x). both_ways (has (xs ++ x ∷ []) z) d.0 (subst (λ (u : Name). In u (xs ++ x ∷ [])) (sym e) (In_right x xs (x ∷ []) (In_here x []))))
          (λ (k : In x xs). both_ways (has xs x) (fresh xs d.1) k)
          (In_cases x z xs i))
  ingests x next j (Rec (suc i) t k g) is =
      keeps Ingest (x ∷ []) x (record log { ingested = log.ingested ++ x ∷ [] }) (Rec (suc i) t k g) refl (λ r. r)
      (λ e. not_first x (ok.records_are 0 x (In_filter (λ z. sender o z == w) x (o.records 0) (In_prefix x (log.ingested ++ x ∷ []) (share o w) next (In_right x log.ingested (x ∷ []) (In_here x [])))).0).1 e)
    where
      not_first : (x : Name) → is_rec 0 x ≡ true → x ≡ Rec (suc i) t k g → ⊥
      not_first x h e = let none : suc i ≡ 0 = eqb-true (suc i) 0 (subst (λ (z : Name). is_rec 0 z ≡ true) e h) in absurd (omega arith)
  ingests x next j _ is = absurd (false≢true is)

  applies : (n : ℕ) (x : Name) → has log.applied x ≡ false → (j : ℕ) (y : Name) → is_rec j y ≡ true → Changes o w log (record log { applied = log.applied ++ x ∷ [] }) (Apply n) (x ∷ []) x y
  applies n x new j (Rec zero t k g) is = keeps (Apply n) (x ∷ []) x (record log { applied = log.applied ++ x ∷ [] }) (Rec 0 t k g) refl (λ r. r) (λ g. g)
  applies n x new j (Rec (suc i) t k g) is =
      gets (Apply n) (x ∷ []) x (record log { applied = log.applied ++ x ∷ [] }) j (Rec (suc i) t k g) is refl (λ r. r) (
        (λ h. In_push (Group i t g.0) x log.applied h),
        (λ c. ⊎_elim (λ (h : In (Group i t g.0) log.applied). In_left (Group i t g.0) log.applied (x ∷ []) h) (λ (e : x ≡ Group i t g.0). subst (λ (z : Name). In z (log.applied ++ x ∷ [])) e (In_right x log.applied (x ∷ []) (In_here x []))) c),
      )
      (λ e. subst (λ (z : Name). has log.applied z ≡ false) e new)
  applies n x new j _ is = absurd (false≢true is)

  routes : (n : ℕ) (x : Name) (xs : List Name) (j : ℕ) (y : Name) → is_rec j y ≡ true → Changes o w log (record log { sent = log.sent ++ xs }) (Route n) xs x y
  routes n x xs j y is = (
    (λ h.
        let p = held_parts o w after y h in (
        inl (
          held_from o w log y (sym same ∙ p.0) (false_from_ne_true (has log.sent y) (λ i. both_ways (has (log.sent ++ xs) y) p.1 (In_left y log.sent xs i))),
          (λ r. both_ways (has (log.sent ++ xs) y) p.1 (In_right y log.sent xs r)),
        )
        )),
    (λ c.
        ⊎_elim
        (λ (h : (is_held o w log y ≡ true) × (In y xs → ⊥)).
        let p = held_parts o w log y h.0 in
        held_from o w after y (same ∙ p.0)
        (false_from_ne_true (has (log.sent ++ xs) y) (λ i. ⊎_elim (λ (k : In y log.sent). both_ways (has log.sent y) p.1 k) (λ (k : In y xs). h.1 k) (In_append y log.sent xs i))))
        (λ (g : Gives (Route n) x y). absurd g)
        c),
  )
    where
      after : Log
      after = record log { sent = log.sent ++ xs }

      same : is_given o w after y ≡ is_given o w log y
      same = same_given o w log after j y refl refl is

  -- a name is sent that is no record
  sends : (kind : Kind) (x : Name) (j : ℕ) (y : Name) → is_rec j y ≡ true → is_rec j x ≡ false → (Routes kind (x ∷ []) y → ⊥) → (Gives kind x y → ⊥) → Changes o w log (record log { sent = log.sent ++ x ∷ [] }) kind (x ∷ []) x y
  sends kind x j y is other r g = keeps kind (x ∷ []) x (record log { sent = log.sent ++ x ∷ [] }) y (sent_alike (log.sent ++ x ∷ []) j y is (other_sent x j y is other)) r g

  -- nothing is ingested, applied or sent
  elsewhere : (kind : Kind) (xs : List Name) (x : Name) (new : Log) (j : ℕ) (y : Name) → is_rec j y ≡ true → new.ingested ≡ log.ingested → new.applied ≡ log.applied → new.sent ≡ log.sent → (Routes kind xs y → ⊥) → (Gives kind x y → ⊥) → Changes o w log new kind xs x y
  elsewhere kind xs x new j y is e f h r g =
      keeps kind xs x new y (ap (λ (b : Bool). b && not (has new.sent y)) (same_given o w log new j y e f is) ∙ ap (λ (l : List Name). is_given o w log y && not (has l y)) h) r g

no_record : (p : Name → Bool) (j : ℕ) (x : Name) → p x ≡ true → (is_rec j x ≡ true → p x ≡ false) → is_rec j x ≡ false
no_record p j x h f = false_from_ne_true (is_rec j x) (λ e. both_ways (p x) (f e) h)

due_no_record : (o : Outline) (w : ℕ) (worker : Worker) (n j : ℕ) (x : Name) → IsDue o w worker n x → is_rec j x ≡ false
due_no_record o w worker n j (Packet i b t) due = refl
due_no_record o w worker n j _ due = absurd due

not_applied : (o : Outline) (w : ℕ) (log : Log) (x : Name) → is_pending o w log x ≡ true → has log.applied x ≡ false
not_applied o w log (Group i t k) p = pending_new o w log i t k p
not_applied o w log _ p = absurd (false≢true p)

pub held_changes : (o : Outline) (ok : OutlineIsSound o) (depth : ℕ) (world : World) (w : ℕ) → LogIsLegal o w (world.worker w).log → (kind : Kind) (x : Name) → CanStep o depth world w kind x → (j : ℕ) (y : Name) → is_rec j y ≡ true → Changes o w (world.worker w).log (logged kind (world.worker w).log (names_of o world w kind x)) kind (names_of o world w kind x) x y
held_changes o ok depth world w good Ingest x can j y is = ingests o ok w (world.worker w).log good x can.1 j y is
held_changes o ok depth world w good SendControl x can j y is = sends o ok w (world.worker w).log good SendControl x j y is (no_record is_ctrl j x can.1.0.0.0 (λ e. (record_alone j x e).0)) (λ r. r) (λ g. g)
held_changes o ok depth world w good (Route n) x can j y is = routes o ok w (world.worker w).log good n x (names_of o world w (Route n) x) j y is
held_changes o ok depth world w good (Receive v) x can j y is =
    elsewhere o ok w (world.worker w).log good (Receive v) (names_of o world w (Receive v) x) x (logged (Receive v) (world.worker w).log (names_of o world w (Receive v) x)) j y is refl refl refl (λ r. r) (λ g. g)
held_changes o ok depth world w good (Extract n) x can j y is = sends o ok w (world.worker w).log good (Extract n) x j y is (due_no_record o w (world.worker w) n j x can.1.0) (λ r. r) (λ g. g)
held_changes o ok depth world w good (Settle n) x can j y is = elsewhere o ok w (world.worker w).log good (Settle n) (x ∷ []) x (logged (Settle n) (world.worker w).log (x ∷ [])) j y is refl refl refl (λ r. r) (λ g. g)
held_changes o ok depth world w good (Apply n) x can j y is = applies o ok w (world.worker w).log good n x (not_applied o w (world.worker w).log x can.1.0.1) j y is
held_changes o ok depth world w good SendRow x can j y is = sends o ok w (world.worker w).log good SendRow x j y is (no_record is_row j x can.1.0.0 (λ e. (record_alone j x e).2)) (λ r. r) (λ g. g)
held_changes o ok depth world w good Write x can j y is = elsewhere o ok w (world.worker w).log good Write (x ∷ []) x (logged Write (world.worker w).log (x ∷ [])) j y is refl refl refl (λ r. r) (λ g. g)
held_changes o ok depth world w good Exchange x can j y is = absurd can.1
