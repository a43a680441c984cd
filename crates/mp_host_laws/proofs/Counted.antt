-- As many groups wait at a host at a time as wait by its worker's log.
use Rattle.std.proofs.Common.{◌≡◌, ◌++◌, ℕ, ◌<◌, ◌==◌, ◌&&◌, Bool, true, List, length, filter, map, Contains, refl, sym, ◌∙◌, subst, ⊎_elim, arith}
use Rattle.std.proofs.lemmas.Bool.{and_from, and_parts, eq-eqb, eqb-true, false≢true}
use Rattle.std.proofs.lemmas.List.{length-map}
use Rattle.std.proofs.lemmas.List.Elements.{Contains-append_cases, Contains-append_left, Contains-append_right}
use Rattle.mp_names.specs.declared.names.Name.{Name}
use Rattle.mp_names.specs.declared.names.Name.TheVariants.{Group}
use Rattle.mp_names.specs.Names.{In, Distinct}
use Rattle.mp_names.specs.Outlines.{OutlineIsSound, groups_of, time_of}
use Rattle.mp_names.specs.Logs.{Log, LogIsLegal, is_pending}
use Rattle.mp_names.specs.Frontiers.{number_at}
use Rattle.mp_names.proofs.Lists.{all_counted, same_count}
use Rattle.mp_names.proofs.Listed.{groups_are, groups_ascend}
use Rattle.mp_names.proofs.Orders.{ascending_once}
use Rattle.mp_names.proofs.NameParts.{same_group}
use Rattle.mp_model.specs.declared.record.Rec.{Rec}
use Rattle.mp_model.specs.Facts.{JobFacts, QueryFacts}
use Rattle.mp_job.proofs.Ascents.{Rises, Rises-ascending, ascending-Contains, Contains-ascending}
use Rattle.mp_job.proofs.Members.{Contains-filter, Contains-flat_map, Contains-map, filter-Contains, flat_map-Contains, map-Contains}
use Rattle.mp_outline.specs.JobOutline.{outline_of}
use Rattle.mp_outline.proofs.Found.{found, found_there}
use Rattle.mp_outline.proofs.Named.{In_named, named_In, named_once}
use Rattle.mp_outline.proofs.Pairs.{Pairs-Rises, Pairs-weaker}
use Rattle.mp_host_laws.specs.declared.held.Held.{Held}
use Rattle.mp_host_laws.specs.Hosted.{Hosted, StandsInOrder, all_wakes, has_wake_at, keys_at, waits_at, wakes_in}
use Rattle.mp_host_laws.specs.HostOf.{IsHostOf}
use Rattle.mp_host_laws.specs.Laws.{WaitingAreCounted}
use Rattle.mp_host_laws.proofs.Waiting.{in_state, pending_in_groups, record_waits, state_wakes, waits_is_pending, waits_why, wake_waits}

-- names of one stage and time, one for each key
names_of : ℕ → ℕ → List ℕ → List Name
names_of j t ks = map (Group j t) ks

names_stand_once : (j t : ℕ) (ks : List ℕ) → Rises ks → Distinct (names_of j t ks)
unfolding names_of
names_stand_once j t ks rises =
    named_once (Group j t) ks (Pairs-weaker (λ (k l : ℕ). k < l) (λ (k l : ℕ). Group j t k ≡ Group j t l → ⊥) (λ k l less e. let s : k ≡ l = (same_group j t k t l e).1 in omega arith) ks (Pairs-Rises ks rises))

module _ {Cell : Type 0} (h : Hosted Cell) (t k : ℕ) where
  -- a wake is one of those of all states
  all_wake : Contains (all_wakes h) (t, k) → has_wake_at h t k ≡ true
  all_wake i =
      let r = found (λ (s : Held Cell). Contains (wakes_in s) (t, k)) h.held (Contains-flat_map wakes_in h.held (t, k) i) in state_wakes h t k r.0 r.1 r.2

  wake_all : has_wake_at h t k ≡ true → Contains (all_wakes h) (t, k)
  wake_all e =
      let r = in_state h t k e in flat_map-Contains wakes_in h.held (t, k) (found_there (λ (s : Held Cell). Contains (wakes_in s) (t, k)) h.held r.0 r.1 r.2)

  -- a key stands among those of a time exactly where its group waits then
  pub key_waits : Contains (keys_at h t) k → waits_at h t k ≡ true
  key_waits i =
      let rs = filter (λ (r : Rec). r.time == t) h.records in
      let ws = filter (λ (w : ℕ × ℕ). w.0 == t) (all_wakes h) in
      let there = Contains-ascending (map (λ (r : Rec). r.key) rs ++ map (λ (w : ℕ × ℕ). w.1) ws) k i in
      ⊎_elim
      (λ (m : Contains (map (λ (r : Rec). r.key) rs) k).
      let a = found (λ (r : Rec). r.key ≡ k) rs (Contains-map (λ (r : Rec). r.key) rs k m) in
      let b = Contains-filter (λ (r : Rec). r.time == t) h.records a.0 a.1 in
      record_waits h t k a.0 b.0 (eqb-true a.0.time t b.1) a.2)
      (λ (m : Contains (map (λ (w : ℕ × ℕ). w.1) ws) k).
      let a = found (λ (w : ℕ × ℕ). w.1 ≡ k) ws (Contains-map (λ (w : ℕ × ℕ). w.1) ws k m) in
      let b = Contains-filter (λ (w : ℕ × ℕ). w.0 == t) (all_wakes h) a.0 a.1 in
      let w = a.0 in
      let timed = subst (λ (n : ℕ). Contains (all_wakes h) (n, w.1)) (eqb-true w.0 t b.1) b.0 in
      wake_waits h t k (all_wake (subst (λ (n : ℕ). Contains (all_wakes h) (t, n)) a.2 timed)))
      (Contains-append_cases (map (λ (r : Rec). r.key) rs) (map (λ (w : ℕ × ℕ). w.1) ws) k there)

  pub waits_key : waits_at h t k ≡ true → Contains (keys_at h t) k
  waits_key e =
      let rs = filter (λ (r : Rec). r.time == t) h.records in
      let ws = filter (λ (w : ℕ × ℕ). w.0 == t) (all_wakes h) in
      let keys = map (λ (r : Rec). r.key) rs in
      let woken = map (λ (w : ℕ × ℕ). w.1) ws in
      ascending-Contains (keys ++ woken) k
      (⊎_elim
      (λ (r : (r : Rec) × Contains h.records r × (r.time ≡ t) × (r.key ≡ k)).
      Contains-append_left keys woken k (map-Contains (λ (r : Rec). r.key) rs k (found_there (λ (s : Rec). s.key ≡ k) rs r.0 (filter-Contains (λ (s : Rec). s.time == t) h.records r.0 r.1 (eq-eqb r.0.time t r.2)) r.3)))
      (λ (i : has_wake_at h t k ≡ true).
      Contains-append_right keys woken k (map-Contains (λ (w : ℕ × ℕ). w.1) ws k (found_there (λ (w : ℕ × ℕ). w.1 ≡ k) ws (t, k) (filter-Contains (λ (w : ℕ × ℕ). w.0 == t) (all_wakes h) (t, k) (wake_all i) (eq-eqb t t refl)) refl)))
      (waits_why h t k e))

module _ {Cell : Type 0} (q : QueryFacts Cell) (job : JobFacts) (sound : OutlineIsSound (outline_of q job)) (log : Log) (h : Hosted Cell) (inside : h.stage < job.shape.stages) (host : IsHostOf q job log h) (legal : LogIsLegal (outline_of q job) h.worker log) (denotes : StandsInOrder q job h) (t : ℕ) where
  -- the group waits, and has the time
  pends_then : Name → Bool
  pends_then x = is_pending (outline_of q job) h.worker log x && time_of (outline_of q job) x == t

  name_pends : (x : Name) → In x (names_of h.stage t (keys_at h t)) → pends_then x ≡ true
  unfolding pends_then names_of
  name_pends x i =
      let o = outline_of q job in
      let a = In_named (Group h.stage t) (keys_at h t) x i in
      let pends = sym (waits_is_pending q job sound log h inside host legal denotes t a.0) ∙ key_waits h t a.0 a.1 in
      subst (λ (y : Name). (is_pending o h.worker log y && time_of o y == t) ≡ true) a.2 (and_from (is_pending o h.worker log (Group h.stage t a.0)) (t == t) pends (eq-eqb t t refl))

  name_listed : (x : Name) → In x (names_of h.stage t (keys_at h t)) → pends_then x ≡ true → In x (groups_of (outline_of q job) h.stage)
  unfolding pends_then names_of
  name_listed x i e =
      let o = outline_of q job in
      let a = In_named (Group h.stage t) (keys_at h t) x i in
      let pends = sym (waits_is_pending q job sound log h inside host legal denotes t a.0) ∙ key_waits h t a.0 a.1 in
      subst (λ (y : Name). In y (groups_of o h.stage)) a.2 (pending_in_groups q job sound log h inside host legal denotes t a.0 pends)

  listed_named : (x : Name) → In x (groups_of (outline_of q job) h.stage) → pends_then x ≡ true → In x (names_of h.stage t (keys_at h t))
  unfolding pends_then names_of
  listed_named (Group i u k) m e =
      let o = outline_of q job in
      let p = and_parts (is_pending o h.worker log (Group i u k)) (u == t) e in
      let staged = eqb-true i h.stage (groups_are o sound h.stage (Group i u k) m).1 in
      let timed = eqb-true u t p.1 in
      let pends = subst (λ (u : ℕ). is_pending o h.worker log (Group h.stage u k) ≡ true) timed (subst (λ (i : ℕ). is_pending o h.worker log (Group i u k) ≡ true) staged p.0) in
      let key = waits_key h t k (waits_is_pending q job sound log h inside host legal denotes t k ∙ pends) in
      let name = named_In (Group h.stage t) (keys_at h t) k key in
      subst (λ (i : ℕ). In (Group i u k) (map (Group h.stage t) (keys_at h t))) (sym staged) (subst (λ (u : ℕ). In (Group h.stage u k) (map (Group h.stage t) (keys_at h t))) (sym timed) name)
  listed_named x m e = absurd (false≢true (groups_are (outline_of q job) sound h.stage x m).1)

  pub waiting_counted : length (keys_at h t) ≡ number_at (outline_of q job) (is_pending (outline_of q job) h.worker log) t (groups_of (outline_of q job) h.stage)
  unfolding pends_then names_of
  waiting_counted =
      let o = outline_of q job in
      let names = map (Group h.stage t) (keys_at h t) in
      let p : Name → Bool = λ x. is_pending o h.worker log x && time_of o x == t in
      let rises = Rises-ascending (map (λ (r : Rec). r.key) (filter (λ (r : Rec). r.time == t) h.records) ++ map (λ (w : ℕ × ℕ). w.1) (filter (λ (w : ℕ × ℕ). w.0 == t) (all_wakes h))) in
      let same = same_count p names (groups_of o h.stage) (names_stand_once h.stage t (keys_at h t) rises) (ascending_once (groups_of o h.stage) (groups_ascend o h.stage)) name_listed listed_named in
      sym (length-map (keys_at h t) (Group h.stage t)) ∙ sym (all_counted p names name_pends) ∙ sym same

module _ {Cell : Type 0} (q : QueryFacts Cell) (job : JobFacts) where
  pub waiting_are_counted : OutlineIsSound (outline_of q job) → WaitingAreCounted q job
  waiting_are_counted sound log h t denotes host legal inside = waiting_counted q job sound log h inside host legal denotes t
