-- The turn of a step says which condition is true.
use Rattle.std.proofs.Common.{◌≡◌, ℕ, ◌==◌, nat_lt, Bool, true, false, cond, not, ◌&&◌, ◌||◌, List, [], ◌∷◌, length, Option, None, Some, refl, sym, ap, ◌∙◌, subst, inl, inr, ⊎_elim}
use Rattle.std.proofs.lemmas.Bool.{false≢true, eqb-false, ne_eqb, ltb-true, lt-ltb, and_parts, and_from, or_cases, or_left, or_right, both_ways, false_from_ne_true, not-true, not_from_false, cond-true}
use Rattle.mp_names.specs.declared.names.Name.{Name}
use Rattle.mp_names.specs.declared.kinds.Kind.{Kind}
use Rattle.mp_names.specs.declared.kinds.Kind.TheVariants.{Ingest, SendControl, Route, Receive, Extract, Settle, Apply, SendRow, Write, Exchange}
use Rattle.mp_names.specs.Names.{same_name}
use Rattle.mp_names.specs.Outlines.{Outline, OutlineIsSound}
use Rattle.mp_names.specs.Logs.{Log}
use Rattle.mp_names.proofs.Lists.{same_name-true, same_name-refl}
use Rattle.mp_machine.specs.Worlds.{World}
use Rattle.mp_machine.specs.Steps.{IsNext, CanStep, CanExchange, names_of, same_names, same_log, version_after}
use Rattle.mp_machine.specs.Tests.{kind_fits, next_name, is_ready, mail_allows, is_allowed, can_exchange}
use Rattle.mp_machine.specs.Runs.{Turn, Did, Saw, NotNow, turn_with, turn_of}
use Rattle.mp_machine.proofs.Conditions.{fits, fits_back}
use Rattle.mp_machine.proofs.Candidates.{ready, ready_back, next, next_back}

-- two logs that pass the test are the same

same_names_are : (xs ys : List Name) → same_names xs ys ≡ true → xs ≡ ys
same_names_are [] [] h = refl
same_names_are (x ∷ xs) (y ∷ ys) h =
    let p = and_parts (same_name x y) (same_names xs ys) h in
    ap (λ (z : Name). z ∷ xs) (same_name-true x y p.0) ∙ ap (λ (zs : List Name). y ∷ zs) (same_names_are xs ys p.1)
same_names_are [] (y ∷ ys) h = absurd (false≢true h)
same_names_are (x ∷ xs) [] h = absurd (false≢true h)

own_names : (xs : List Name) → same_names xs xs ≡ true
own_names [] = refl
own_names (x ∷ xs) = and_from (same_name x x) (same_names xs xs) (same_name-refl x) (own_names xs)

log_of_lists : (a b : Log) → a.ingested ≡ b.ingested → a.sent ≡ b.sent → a.took ≡ b.took → a.applied ≡ b.applied → a.settled ≡ b.settled → a ≡ b
log_of_lists a b i s t p q = λ k. record { ingested = i k; sent = s k; took = t k; applied = p k; settled = q k }

pub same_log_is : (a b : Log) → same_log a b ≡ true → a ≡ b
same_log_is a b h =
    let p = and_parts (same_names a.ingested b.ingested) (same_names a.sent b.sent && (same_names a.took b.took && (same_names a.applied b.applied && same_names a.settled b.settled))) h in
    let q = and_parts (same_names a.sent b.sent) (same_names a.took b.took && (same_names a.applied b.applied && same_names a.settled b.settled)) p.1 in
    let r = and_parts (same_names a.took b.took) (same_names a.applied b.applied && same_names a.settled b.settled) q.1 in
    let s = and_parts (same_names a.applied b.applied) (same_names a.settled b.settled) r.1 in
    log_of_lists a b (same_names_are a.ingested b.ingested p.0) (same_names_are a.sent b.sent q.0) (same_names_are a.took b.took r.0) (same_names_are a.applied b.applied s.0) (same_names_are a.settled b.settled s.1)

pub own_log : (a : Log) → same_log a a ≡ true
own_log a =
    and_from (same_names a.ingested a.ingested) (same_names a.sent a.sent && (same_names a.took a.took && (same_names a.applied a.applied && same_names a.settled a.settled))) (own_names a.ingested)
    (and_from (same_names a.sent a.sent) (same_names a.took a.took && (same_names a.applied a.applied && same_names a.settled a.settled)) (own_names a.sent)
    (and_from (same_names a.took a.took) (same_names a.applied a.applied && same_names a.settled a.settled) (own_names a.took)
    (and_from (same_names a.applied a.applied) (same_names a.settled a.settled) (own_names a.applied) (own_names a.settled))))

-- turns

did_same : (x y : Name) (m n : ℕ) → Did x m ≡ Did y n → (x ≡ y) × (m ≡ n)
did_same x y m n e = (cc, cc)

not_did : (x : Name) (n : ℕ) → NotNow ≡ Did x n → ⊥
not_did x n e = cc

saw_did : (v : ℕ) (x : Name) (n : ℕ) → Saw v ≡ Did x n → ⊥
saw_did v x n e = cc

not_saw : (v : ℕ) → NotNow ≡ Saw v → ⊥
not_saw v e = cc

saw_same : (v u : ℕ) → Saw v ≡ Saw u → v ≡ u
saw_same v u e = cc

-- a test that chooses between a turn and NotNow
chosen : (b : Bool) (turn : Turn) (P : Turn → Type 0) → (P NotNow → ⊥) → P (cond b turn NotNow) → (b ≡ true) × P turn
chosen true turn P n h = (refl, h)
chosen false turn P n h = absurd (n h)

module _ (o : Outline) (depth : ℕ) (world : World) (w : ℕ) where
  -- how many names go into the log with the first one
  abbrev number : Kind → Name → ℕ
  number kind x = length (names_of o world w kind x)

  tried_did : (kind : Kind) (r : Option Name) (x : Name) (n : ℕ) → turn_with o depth world w kind r ≡ Did x n → (r ≡ Some x) × (is_allowed o depth world w kind x ≡ true) × (n ≡ number kind x)
  tried_did kind None x n e = absurd (not_did x n e)
  tried_did kind (Some y) x n e =
      let c = chosen (is_allowed o depth world w kind y) (Did y (number kind y)) (λ (t : Turn). t ≡ Did x n) (not_did x n) e in
      let same = did_same y x (number kind y) n c.1 in
      (ap Some same.0, subst (λ (z : Name). is_allowed o depth world w kind z ≡ true) same.0 c.0, sym same.1 ∙ ap (number kind) same.0)

  tried_saw : (kind : Kind) (r : Option Name) (v : ℕ) → turn_with o depth world w kind r ≡ Saw v → ⊥
  tried_saw kind None v e = not_saw v e
  tried_saw kind (Some y) v e = let c = chosen (is_allowed o depth world w kind y) (Did y (number kind y)) (λ (t : Turn). t ≡ Saw v) (not_saw v) e in saw_did v y (number kind y) (sym c.1)

  tried : (kind : Kind) (r : Option Name) (x : Name) → r ≡ Some x → is_allowed o depth world w kind x ≡ true → turn_with o depth world w kind r ≡ Did x (number kind x)
  tried kind r x e a = ap (λ (r : Option Name). turn_with o depth world w kind r) e ∙ cond-true (is_allowed o depth world w kind x) (Did x (number kind x)) NotNow a

  -- the turn of a kind that isn't an exchange
  IsTried : Kind → Type 0
  IsTried kind = turn_of o depth world w kind ≡ turn_with o depth world w kind (next_name o world w kind)

  is_tried : (kind : Kind) → (x : Name) → IsNext o w (world.worker w) kind x → IsTried kind
  unfolding IsTried
  is_tried Exchange x h = absurd h
  is_tried Ingest x h = refl
  is_tried SendControl x h = refl
  is_tried (Route j) x h = refl
  is_tried (Receive j) x h = refl
  is_tried (Extract j) x h = refl
  is_tried (Settle j) x h = refl
  is_tried (Apply j) x h = refl
  is_tried SendRow x h = refl
  is_tried Write x h = refl

  pub saw_to : (kind : Kind) (v : ℕ) → turn_of o depth world w kind ≡ Saw v → CanExchange o world w kind × (v ≡ version_after world w)
  saw_to Exchange v e =
      let c = chosen (can_exchange o world w) (Saw (version_after world w)) (λ (t : Turn). t ≡ Saw v) (not_saw v) e in
      let p = and_parts (nat_lt w o.workers) (not (same_log (world.worker w).log (world.worker w).posted) || not ((world.worker w).version == world.version)) c.0 in (
        (
          ltb-true w o.workers p.0,
          ⊎_elim
              (λ (h : not (same_log (world.worker w).log (world.worker w).posted) ≡ true).
              inl (λ e. both_ways (same_log (world.worker w).log (world.worker w).posted) (not-true (same_log (world.worker w).log (world.worker w).posted) h) (subst (λ (l : Log). same_log (world.worker w).log l ≡ true) e (own_log (world.worker w).log))))
              (λ (h : not ((world.worker w).version == world.version) ≡ true). inr (eqb-false (world.worker w).version world.version (not-true ((world.worker w).version == world.version) h)))
              (or_cases (not (same_log (world.worker w).log (world.worker w).posted)) (not ((world.worker w).version == world.version)) p.1),
        ),
        sym (saw_same (version_after world w) v c.1),
      )
  saw_to Ingest v e = absurd (tried_saw Ingest (next_name o world w Ingest) v e)
  saw_to SendControl v e = absurd (tried_saw SendControl (next_name o world w SendControl) v e)
  saw_to (Route j) v e = absurd (tried_saw (Route j) (next_name o world w (Route j)) v e)
  saw_to (Receive j) v e = absurd (tried_saw (Receive j) (next_name o world w (Receive j)) v e)
  saw_to (Extract j) v e = absurd (tried_saw (Extract j) (next_name o world w (Extract j)) v e)
  saw_to (Settle j) v e = absurd (tried_saw (Settle j) (next_name o world w (Settle j)) v e)
  saw_to (Apply j) v e = absurd (tried_saw (Apply j) (next_name o world w (Apply j)) v e)
  saw_to SendRow v e = absurd (tried_saw SendRow (next_name o world w SendRow) v e)
  saw_to Write v e = absurd (tried_saw Write (next_name o world w Write) v e)

  pub saw_from : (kind : Kind) → CanExchange o world w kind → turn_of o depth world w kind ≡ Saw (version_after world w)
  saw_from Exchange h =
      let differs = not (same_log (world.worker w).log (world.worker w).posted) in
      let newer = not ((world.worker w).version == world.version) in
      cond-true (can_exchange o world w) (Saw (version_after world w)) NotNow
      (and_from (nat_lt w o.workers) (differs || newer) (lt-ltb w o.workers h.0)
      (⊎_elim
      (λ (e : (world.worker w).log ≡ (world.worker w).posted → ⊥).
      or_left differs newer (not_from_false (same_log (world.worker w).log (world.worker w).posted) (false_from_ne_true (same_log (world.worker w).log (world.worker w).posted) (λ s. e (same_log_is (world.worker w).log (world.worker w).posted s)))))
      (λ (e : (world.worker w).version ≡ world.version → ⊥). or_right differs newer (not_from_false ((world.worker w).version == world.version) (ne_eqb (world.worker w).version world.version e)))
      h.1))
  saw_from _ h = absurd h

  module _ (ok : OutlineIsSound o) where
    allowed : (kind : Kind) (x : Name) → next_name o world w kind ≡ Some x → is_allowed o depth world w kind x ≡ true → CanStep o depth world w kind x
    allowed kind x e a =
        let p = and_parts (nat_lt w o.workers) (kind_fits o kind && (is_ready o w (world.worker w) kind x && mail_allows o depth world.mailbox w kind x)) a in
        let q = and_parts (kind_fits o kind) (is_ready o w (world.worker w) kind x && mail_allows o depth world.mailbox w kind x) p.1 in
        let r = and_parts (is_ready o w (world.worker w) kind x) (mail_allows o depth world.mailbox w kind x) q.1 in
        let n = next o ok depth world w kind x e r.1 in
        ((ltb-true w o.workers p.0, fits o kind q.0), n.0, ready o ok w (world.worker w) kind x r.0, n.1)

    told : (kind : Kind) (x : Name) (n : ℕ) → turn_of o depth world w kind ≡ Did x n → CanStep o depth world w kind x × (n ≡ number kind x)
    told Exchange x n e = let c = chosen (can_exchange o world w) (Saw (version_after world w)) (λ (t : Turn). t ≡ Did x n) (not_did x n) e in absurd (saw_did (version_after world w) x n c.1)
    told Ingest x n e = let r = tried_did Ingest (next_name o world w Ingest) x n e in (allowed Ingest x r.0 r.1, r.2)
    told SendControl x n e = let r = tried_did SendControl (next_name o world w SendControl) x n e in (allowed SendControl x r.0 r.1, r.2)
    told (Route j) x n e = let r = tried_did (Route j) (next_name o world w (Route j)) x n e in (allowed (Route j) x r.0 r.1, r.2)
    told (Receive j) x n e = let r = tried_did (Receive j) (next_name o world w (Receive j)) x n e in (allowed (Receive j) x r.0 r.1, r.2)
    told (Extract j) x n e = let r = tried_did (Extract j) (next_name o world w (Extract j)) x n e in (allowed (Extract j) x r.0 r.1, r.2)
    told (Settle j) x n e = let r = tried_did (Settle j) (next_name o world w (Settle j)) x n e in (allowed (Settle j) x r.0 r.1, r.2)
    told (Apply j) x n e = let r = tried_did (Apply j) (next_name o world w (Apply j)) x n e in (allowed (Apply j) x r.0 r.1, r.2)
    told SendRow x n e = let r = tried_did SendRow (next_name o world w SendRow) x n e in (allowed SendRow x r.0 r.1, r.2)
    told Write x n e = let r = tried_did Write (next_name o world w Write) x n e in (allowed Write x r.0 r.1, r.2)

    pub did_to : (kind : Kind) (x : Name) (n : ℕ) → turn_of o depth world w kind ≡ Did x n → CanStep o depth world w kind x
    did_to kind x n e = (told kind x n e).0

    pub did_number : (kind : Kind) (x : Name) (n : ℕ) → turn_of o depth world w kind ≡ Did x n → n ≡ number kind x
    did_number kind x n e = (told kind x n e).1

    pub did_from : (kind : Kind) (x : Name) → CanStep o depth world w kind x → turn_of o depth world w kind ≡ Did x (number kind x)
    unfolding IsTried
    did_from kind x h =
        let n = next_back o ok depth world w kind x h.1 h.3 in
        is_tried kind x h.1 ∙ tried kind (next_name o world w kind) x n.0
        (and_from (nat_lt w o.workers) (kind_fits o kind && (is_ready o w (world.worker w) kind x && mail_allows o depth world.mailbox w kind x)) (lt-ltb w o.workers h.0.0)
        (and_from (kind_fits o kind) (is_ready o w (world.worker w) kind x && mail_allows o depth world.mailbox w kind x) (fits_back o kind h.0.1)
        (and_from (is_ready o w (world.worker w) kind x) (mail_allows o depth world.mailbox w kind x) (ready_back o ok w (world.worker w) kind x h.2) n.1)))

    pub not_now_to : (kind : Kind) → turn_of o depth world w kind ≡ NotNow → ((x : Name) → CanStep o depth world w kind x → ⊥) × (CanExchange o world w kind → ⊥)
    not_now_to kind e = ((λ x h. not_did x (number kind x) (sym e ∙ did_from kind x h)), (λ h. not_saw (version_after world w) (sym e ∙ saw_from kind h)))

    pub not_now_from : (kind : Kind) → ((x : Name) → CanStep o depth world w kind x → ⊥) → (CanExchange o world w kind → ⊥) → turn_of o depth world w kind ≡ NotNow
    not_now_from kind n m = by_turn (turn_of o depth world w kind) refl
      where
        by_turn : (t : Turn) → turn_of o depth world w kind ≡ t → turn_of o depth world w kind ≡ NotNow
        by_turn (Did x number) e = absurd (n x (did_to kind x number e))
        by_turn (Saw v) e = absurd (m (saw_to kind v e).0)
        by_turn NotNow e = e
