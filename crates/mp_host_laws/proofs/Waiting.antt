-- A group waits at a host exactly where it waits by its worker's log.
use Rattle.std.proofs.Common.{◌≡◌, ◌⊎◌, ◌<◌, ℕ, ◌==◌, true, false, Option, List, Contains, refl, sym, subst, inl, inr, ⊎_elim}
use Rattle.std.specs.List.{list_any}
use Rattle.std.proofs.lemmas.Bool.{and_from, and_parts, eq-eqb, eqb-true, or_cases, or_left, or_right}
use Rattle.std.proofs.lemmas.List.Elements.{All-contains}
use Rattle.mp_names.specs.declared.names.Name.TheVariants.{Rec as RecName, Group}
use Rattle.mp_names.specs.declared.names.Tag.{Tag}
use Rattle.mp_names.specs.Names.{has, In}
use Rattle.mp_names.specs.Outlines.{OutlineIsSound, groups_of}
use Rattle.mp_names.specs.Logs.{Log, LogIsLegal, has_record, has_wake, is_pending}
use Rattle.mp_names.proofs.Listed.{record_group}
use Rattle.mp_names.proofs.NameParts.{same_parts}
use Rattle.mp_bins.specs.Bins.{bin_of_key}
use Rattle.mp_model.specs.declared.record.Rec.{Rec}
use Rattle.mp_model.specs.Facts.{JobFacts, QueryFacts}
use Rattle.mp_outline.specs.JobOutline.{outline_of}
use Rattle.mp_outline.proofs.Found.{found, found_there}
use Rattle.mp_outline.proofs.Stages.{record_named}
use Rattle.mp_postdated.specs.Wakes.{Has}
use Rattle.mp_host_laws.specs.declared.held.Held.{Held}
use Rattle.mp_host_laws.specs.Hosted.{Hosted, StandsInOrder, StateStands, has_wake_at, has_wake_in, is_of, is_wake, wakes_in, waits_at}
use Rattle.mp_host_laws.specs.HostOf.{IsHostOf, IsInHandSince, IsStateOf, IsWakeOf}
use Rattle.mp_host_laws.proofs.Lists.{passes, passing}
use Rattle.mp_host_laws.proofs.Logs.{here_in_groups, pending_is, record_pends, record_taken, same_test, source_wake, taken_record, wake_here, wake_pends, wake_source}

-- a record of a group, as a test and as two equations
pub is_of_from : (t k : ℕ) (r : Rec) → r.time ≡ t → r.key ≡ k → is_of t k r ≡ true
is_of_from t k r a b = and_from (r.time == t) (r.key == k) (eq-eqb r.time t a) (eq-eqb r.key k b)

pub from_is_of : (t k : ℕ) (r : Rec) → is_of t k r ≡ true → (r.time ≡ t) × (r.key ≡ k)
from_is_of t k r e = let p = and_parts (r.time == t) (r.key == k) e in (eqb-true r.time t p.0, eqb-true r.key k p.1)

-- a wake that is there, as a test and as an element
pub wake_in : (ws : List (ℕ × ℕ)) (t k : ℕ) → list_any (is_wake t k) ws ≡ true → Has ws t k
wake_in ws t k h =
    let r = passing (is_wake t k) ws h in
    let w = r.0 in
    let p = and_parts (w.0 == t) (w.1 == k) r.2 in
    let a = subst (λ (n : ℕ). Contains ws (n, w.1)) (eqb-true w.0 t p.0) r.1 in
    subst (λ (n : ℕ). Contains ws (t, n)) (eqb-true w.1 k p.1) a

pub in_wake : (ws : List (ℕ × ℕ)) (t k : ℕ) → Has ws t k → list_any (is_wake t k) ws ≡ true
in_wake ws t k h = passes (is_wake t k) ws (t, k) h (and_from (t == t) (k == k) (eq-eqb t t refl) (eq-eqb k k refl))

module _ {Cell : Type 0} (h : Hosted Cell) (t k : ℕ) where
  -- a wake is one of some state
  pub in_state : has_wake_at h t k ≡ true → (s : Held Cell) × Contains h.held s × Has (wakes_in s) t k
  in_state e = let r = passing (has_wake_in t k) h.held e in (r.0, r.1, wake_in (wakes_in r.0) t k r.2)

  pub state_wakes : (s : Held Cell) → Contains h.held s → Has (wakes_in s) t k → has_wake_at h t k ≡ true
  state_wakes s i w = passes (has_wake_in t k) h.held s i (in_wake (wakes_in s) t k w)

  -- why a group waits here
  pub waits_why : waits_at h t k ≡ true → ((r : Rec) × Contains h.records r × (r.time ≡ t) × (r.key ≡ k)) ⊎ (has_wake_at h t k ≡ true)
  waits_why e =
      ⊎_elim
      (λ (f : list_any (is_of t k) h.records ≡ true). let r = passing (is_of t k) h.records f in let p = from_is_of t k r.0 r.2 in inl (r.0, r.1, p.0, p.1))
      (λ (f : has_wake_at h t k ≡ true). inr f)
      (or_cases (list_any (is_of t k) h.records) (has_wake_at h t k) e)

  pub record_waits : (r : Rec) → Contains h.records r → r.time ≡ t → r.key ≡ k → waits_at h t k ≡ true
  record_waits r i a b = or_left (list_any (is_of t k) h.records) (has_wake_at h t k) (passes (is_of t k) h.records r i (is_of_from t k r a b))

  pub wake_waits : has_wake_at h t k ≡ true → waits_at h t k ≡ true
  wake_waits e = or_right (list_any (is_of t k) h.records) (has_wake_at h t k) e

module _ {Cell : Type 0} (q : QueryFacts Cell) (job : JobFacts) (log : Log) (h : Hosted Cell) (host : IsHostOf q job log h) where
  -- the state that is in hand since some time
  pub state_since : (b : ℕ) (since : Option ℕ) → IsInHandSince q job h.worker log h.stage b since → (s : Held Cell) × Contains h.held s × (s.bin ≡ b) × (s.since ≡ since)
  state_since b since own =
      let r = found (λ (s : Held Cell). (s.bin ≡ b) × (s.since ≡ since)) h.held ((host.held b since).1 own) in (r.0, r.1, r.2.0, r.2.1)

  -- and what is here is in hand
  pub since_state : (s : Held Cell) → Contains h.held s → IsInHandSince q job h.worker log h.stage s.bin s.since
  since_state s i = (host.held s.bin s.since).0 (found_there (λ (r : Held Cell). (r.bin ≡ s.bin) × (r.since ≡ s.since)) h.held s i (refl, refl))

  pub state_is : (s : Held Cell) → Contains h.held s → IsStateOf q job log h.stage s
  state_is s i = All-contains (IsStateOf q job log h.stage) h.held s host.states i

module _ {Cell : Type 0} (q : QueryFacts Cell) (job : JobFacts) (sound : OutlineIsSound (outline_of q job)) (log : Log) (h : Hosted Cell) (inside : h.stage < job.shape.stages) (host : IsHostOf q job log h) (legal : LogIsLegal (outline_of q job) h.worker log) (denotes : StandsInOrder q job h) where
  -- a wake by the log, of a group that isn't applied, is one of a state that is here
  pub log_wake_here : (t k : ℕ) → has_wake (outline_of q job) h.worker log h.stage t k ≡ true → has log.applied (Group h.stage t k) ≡ false → has_wake_at h t k ≡ true
  log_wake_here t k e unapplied =
      let j = h.stage in
      let p = wake_source q job sound h.worker log legal j t k e in
      let r = state_since q job log h host (bin_of_key k job.shape.bins) p.0 p.1 in
      let s = r.0 in
      let came = subst (λ (since : Option ℕ). IsWakeOf q job log j since k t) (sym r.3) p.2 in
      state_wakes h t k s r.1 (((state_is q job log h host s r.1).wakes t k (sym r.2)).1 (unapplied, came))

  -- the bin of a wake's key is its state's
  pub wake_bin : (s : Held Cell) (t k : ℕ) → Contains h.held s → Has (wakes_in s) t k → bin_of_key k job.shape.bins ≡ s.bin
  wake_bin s t k i w = (All-contains (StateStands q job h.stage) h.held s denotes.states i).own.wakes t k w

  -- and the other way round
  pub wake_in_log : (t k : ℕ) → has_wake_at h t k ≡ true → (has_wake (outline_of q job) h.worker log h.stage t k ≡ true) × (has log.applied (Group h.stage t k) ≡ false)
  wake_in_log t k e =
      let j = h.stage in
      let r = in_state h t k e in
      let s = r.0 in
      let bin = wake_bin s t k r.1 r.2 in
      let a = ((state_is q job log h host s r.1).wakes t k bin).0 r.2 in
      let own = subst (λ (b : ℕ). IsInHandSince q job h.worker log j b s.since) (sym bin) (since_state q job log h host s r.1) in
      (source_wake q job sound h.worker log legal j t k inside (s.since, own, a.1), a.0)

  waits_pends : (t k : ℕ) → waits_at h t k ≡ true → is_pending (outline_of q job) h.worker log (Group h.stage t k) ≡ true
  waits_pends t k e =
      let o = outline_of q job in
      let j = h.stage in
      ⊎_elim
      (λ (r : (r : Rec) × Contains h.records r × (r.time ≡ t) × (r.key ≡ k)).
      let a = (host.records r.0).0 r.1 in
      let taken = taken_record log j r.0.time r.0.key r.0.tag a.1 in
      let pends = record_pends o h.worker log j r.0.time r.0.key a.2 taken in
      subst (λ (t : ℕ). is_pending o h.worker log (Group j t k) ≡ true) r.2 (subst (λ (k : ℕ). is_pending o h.worker log (Group j r.0.time k) ≡ true) r.3 pends))
      (λ (f : has_wake_at h t k ≡ true). let a = wake_in_log t k f in wake_pends o h.worker log j t k a.1 a.0)
      (waits_why h t k e)

  -- a taken record of a group that isn't applied is here
  pub taken_is_here : (t k : ℕ) (g : Tag) → has log.applied (Group h.stage t k) ≡ false → In (RecName h.stage t k g) log.took → (r : Rec) × Contains h.records r × (r.time ≡ t) × (r.key ≡ k) × (r.tag ≡ g)
  taken_is_here t k g waits i =
      let j = h.stage in
      let owed = (legal.took_owed (RecName j t k g) i).0 in
      let a = record_named q job j (RecName j t k g) owed.1 in
      let r = a.0 in
      let parts = same_parts j j r.time t r.key k r.tag g a.2 in
      let taken = subst (λ (x : _). In x log.took) (sym a.2) i in
      let unapplied = subst (λ (t : ℕ). has log.applied (Group j t r.key) ≡ false) (sym parts.0) (subst (λ (k : ℕ). has log.applied (Group j t k) ≡ false) (sym parts.1) waits) in
      (r, (host.records r).1 ((owed.0, a.1), taken, unapplied), parts.0, parts.1, parts.2)

  pends_waits : (t k : ℕ) → is_pending (outline_of q job) h.worker log (Group h.stage t k) ≡ true → waits_at h t k ≡ true
  pends_waits t k e =
      let o = outline_of q job in
      let j = h.stage in
      let p = pending_is o h.worker log j t k e in
      ⊎_elim
      (λ (f : has_record log j t k ≡ true). let g = record_taken log j t k f in let r = taken_is_here t k g.0 p.0 g.1 in record_waits h t k r.0 r.1 r.2 r.3)
      (λ (f : has_wake o h.worker log j t k ≡ true). wake_waits h t k (log_wake_here t k f p.0))
      p.1

  -- a group waits here where it waits by the log
  pub waits_is_pending : (t k : ℕ) → waits_at h t k ≡ is_pending (outline_of q job) h.worker log (Group h.stage t k)
  waits_is_pending t k = same_test (waits_at h t k) (is_pending (outline_of q job) h.worker log (Group h.stage t k)) (waits_pends t k) (pends_waits t k)

  -- and it is one of the outline
  pub pending_in_groups : (t k : ℕ) → is_pending (outline_of q job) h.worker log (Group h.stage t k) ≡ true → In (Group h.stage t k) (groups_of (outline_of q job) h.stage)
  pending_in_groups t k e =
      let o = outline_of q job in
      let j = h.stage in
      ⊎_elim
      (λ (f : has_record log j t k ≡ true). let g = record_taken log j t k f in record_group o j t k g.0 (legal.took_owed (RecName j t k g.0) g.1).0.1)
      (λ (f : has_wake o h.worker log j t k ≡ true). here_in_groups o h.worker log j t k (wake_here o sound h.worker log j t k f))
      (pending_is o h.worker log j t k e).1
