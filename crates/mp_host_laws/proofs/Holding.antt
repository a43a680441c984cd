-- What is so of hosts whose parts are the same, and of states where the same groups are applied.
use Rattle.std.proofs.Common.{◌≡◌, ◌<◌, ◌≤◌, ◌||◌, ℕ, nat_lt, false, Option, None, Some, List, sym, ap, ◌∙◌, subst, inl, inr, ⊎_elim}
use Rattle.mp_names.specs.declared.names.Name.TheVariants.{Group}
use Rattle.mp_names.specs.declared.names.Name.{Name}
use Rattle.mp_names.specs.Names.{has, In}
use Rattle.mp_names.specs.Logs.{Log}
use Rattle.mp_model.specs.declared.record.Rec.{Rec}
use Rattle.mp_model.specs.Entry.{Entry}
use Rattle.mp_model.specs.Facts.{JobFacts, QueryFacts}
use Rattle.mp_model.specs.Folds.{fold_of}
use Rattle.mp_outline.specs.Laws.{timeline_of}
use Rattle.mp_msg.specs.States.{IsOpening, IsPostedAt}
use Rattle.mp_host_laws.specs.declared.held.Held.{Held}
use Rattle.mp_host_laws.specs.Hosted.{Hosted}
use Rattle.mp_host_laws.specs.HostOf.{CameInto, IsStateOf, IsWakeOf, OpensInto, is_taken_in}
use Rattle.mp_host_laws.proofs.Lists.{filter_within}

-- Logs of which the same groups are applied

came_same : (old new : Log) → old.applied ≡ new.applied → (j : ℕ) (since : Option ℕ) (k v u : ℕ) → CameInto old j since k v u → CameInto new j since k v u
came_same old new e j None k v u came = subst (In (Group j v k)) e came
came_same old new e j (Some m) k v u came =
    ⊎_elim
    (λ (c : (v < m) × (m ≤ u)). inl c)
    (λ (c : (m ≤ v) × In (Group j v k) old.applied). inr (c.0, subst (In (Group j v k)) e c.1))
    came

taken_same : (old new : Log) → old.applied ≡ new.applied → (j : ℕ) (since : Option ℕ) (u k : ℕ) → is_taken_in old j since u k ≡ is_taken_in new j since u k
taken_same old new e j None u k = ap (λ (xs : List Name). has xs (Group j u k)) e
taken_same old new e j (Some m) u k = ap (λ (xs : List Name). nat_lt u m || has xs (Group j u k)) e

module _ {Cell : Type 0} (q : QueryFacts Cell) (job : JobFacts) where
  -- a wake of a state by one log is one by another, where what records post comes into the state by both
  pub wake_same : (old new : Log) (j : ℕ) (since : Option ℕ) (k u : ℕ) → ((v : ℕ) → CameInto old j since k v u → CameInto new j since k v u) → IsWakeOf q job old j since k u → IsWakeOf q job new j since k u
  wake_same old new j since k u came wake =
      ⊎_elim
      (λ (o : IsOpening q j k u × OpensInto since u). inl o)
      (λ (p : (v : ℕ) × IsPostedAt q job j k v u × CameInto old j since k v u). inr (p.0, p.1, came p.0 p.2))
      wake

  -- a state in hand has the same by both
  pub state_same : (old new : Log) → old.applied ≡ new.applied → (j : ℕ) (s : Held Cell) → IsStateOf q job old j s → IsStateOf q job new j s
  state_same old new e j s is = record {
    wakes = λ u k b. (
      (λ w. let a = (is.wakes u k b).0 w in (subst (λ (xs : List Name). has xs (Group j u k) ≡ false) e a.0, wake_same old new j s.since k u (λ v. came_same old new e j s.since k v u) a.1)),
      (λ a. (is.wakes u k b).1 (subst (λ (xs : List Name). has xs (Group j u k) ≡ false) (sym e) a.0, wake_same new old j s.since k u (λ v. came_same new old (sym e) j s.since k v u) a.1)),
    );
    cells = λ k b.
        is.cells k b
        ∙ ap (fold_of q j (q.opening j k)) (filter_within (λ (f : Entry). is_taken_in old j s.since f.time k) (λ (f : Entry). is_taken_in new j s.since f.time k) (timeline_of q job j k) (λ f i. taken_same old new e j s.since f.time k));
  }

-- Hosts by their parts

module _ {Cell : Type 0} where
  -- the state is of this bin, and began then
  abbrev pub IsSince : ℕ → Option ℕ → Held Cell → Type 0
  IsSince b a s = (s.bin ≡ b) × (s.since ≡ a)

  -- the two states aren't of one bin and of one beginning
  abbrev pub AreApart : Held Cell → Held Cell → Type 0
  AreApart r s = (r.bin ≡ s.bin) × (r.since ≡ s.since) → ⊥

  pub apart_turn : (r s : Held Cell) → AreApart r s → AreApart s r
  apart_turn r s apart e = apart (sym e.0, sym e.1)

  -- what is so of a host that has these parts is so of one whose parts are the same
  pub by_parts : (P : Hosted Cell → Type 0) (h : Hosted Cell) (j w : ℕ) (records : List Rec) (held : List (Held Cell)) → h.stage ≡ j → h.worker ≡ w → h.records ≡ records → h.held ≡ held
      → P (record h { stage = j; worker = w; records = records; held = held }) → P h
  by_parts P h j w records held a b c d p =
      let at_held = subst (λ (hs : List (Held Cell)). P (record h { stage = j; worker = w; records = records; held = hs })) (sym d) p in
      let at_records = subst (λ (rs : List Rec). P (record h { stage = j; worker = w; records = rs })) (sym c) at_held in
      let at_worker = subst (λ (n : ℕ). P (record h { stage = j; worker = n })) (sym b) at_records in
      subst (λ (n : ℕ). P (record h { stage = n })) (sym a) at_worker
