-- The keys to be woken at a time, told one state after the other: each once. With the keys of records that have no wake they are the keys that wait.
use Rattle.std.proofs.Common.{◌≡◌, ◌≢◌, ◌⊎◌, ◌++◌, ℕ, zero, suc, ◌+◌, ◌<◌, ◌≤◌, ◌==◌, Bool, true, false, not, Option, None, Some, List, [], ◌∷◌, All, Contains, drop, filter, get_or, add-one, length, map, sym, ap, ◌∙◌, subst, ⊎_elim, refl, arith}
use Rattle.std.specs.Cmp.{nat_eq_equiv}
use Rattle.std.specs.List.{cons_option, enumerate_from, filter_map, list_any}
use Rattle.std.specs.Ordering.{nat_cmp, ordering_then}
use Rattle.std.specs.declared.cmp.Ordering.TheVariants.{Less as Below}
use Rattle.std.proofs.lemmas.Bool.{and_from, and_parts, both_ways, cases_Bool, eq-eqb, eqb-true, false≢true, not-true, not_from_false, or_cases, or_left, or_right}
use Rattle.std.proofs.lemmas.Bool.Decides.{Decides-eqb}
use Rattle.std.proofs.lemmas.List.{length-append, length-map}
use Rattle.std.proofs.lemmas.List.Elements.{All-contains, All-from_recursion, All-head, All-tail, All-weaker, Contains-append_cases, Contains-append_left, Contains-append_right}
use Rattle.std.proofs.lemmas.List.FromFn.{length-enumerate_from}
use Rattle.std.proofs.lemmas.Map.Keys.{sorted_head, sorted_tail}
use Rattle.std.proofs.lemmas.Map.Made.{IsDistinct-from_AllPairs, length-le_from_is_member}
use Rattle.std.proofs.lemmas.Map.Views.{Contains-from_any, list_any-from_Contains}
use Rattle.std.proofs.Math.Seq.{drop-cons}
use Rattle.mp_names.specs.Limits.{most_bytes, most_events}
use Rattle.mp_model.specs.declared.record.Event.{Event}
use Rattle.mp_model.specs.declared.record.Rec.{Rec}
use Rattle.mp_model.specs.Facts.{JobFacts, QueryFacts, SavedState, SavedWake}
use Rattle.mp_model.specs.Legal.{EventsAreLegal}
use Rattle.mp_model.specs.QueryLaws.{LaterStagesPostNothing, SavedFits}
use Rattle.mp_model.specs.Stages.{input_records, record_of, stage_records}
use Rattle.mp_model.specs.Tables.{opening_wakes}
use Rattle.mp_msg.specs.States.{IsOpening}
use Rattle.mp_job.proofs.Ascents.{Rises, Rises-ascending}
use Rattle.mp_job.proofs.Members.{nothing_in_nil, Contains-filter, Contains-map, filter-Contains, map-Contains}
use Rattle.mp_outline.proofs.Found.{found, found_there}
use Rattle.mp_outline.proofs.Pairs.{AllPairs-Pairs, Pairs, Pairs-Rises, Pairs-append, Pairs-weaker}
use Rattle.mp_ordered.specs.InOrder.{IsInOrder}
use Rattle.mp_postdated.specs.Wakes.{Has, IsAscending, wake_cmp}
use Rattle.mp_host_laws.specs.declared.held.Held.{Held}
use Rattle.mp_host_laws.specs.Hosted.{Hosted, StandsInOrder, StateStands, all_wakes, group_rank, has_wake_at, has_wake_in, is_of, keys_at, wakes_in}
use Rattle.mp_host_laws.proofs.Counted.{key_waits, waits_key}
use Rattle.mp_host_laws.proofs.Lists.{passing}
use Rattle.mp_host_laws.proofs.Waiting.{in_wake, wake_in, wake_waits}
use Rattle.mp_host.specs.Hosts.{IsHosted, WakesAreCaused}
use Rattle.mp_host.specs.Waiting.{is_new, new_keys, unwoken_keys, woken_keys}
use Rattle.mp_host.proofs.Enough.{filter_length}
use Rattle.mp_host.proofs.Unwoken.{add_if, is_unwoken, unwoken_is, unwoken_rise}

-- lists of numbers, each once

abbrev pub Once : List ℕ → Type 0
Once xs = Pairs (λ x y. x ≢ y) xs

pub rising_once : (xs : List ℕ) → Rises xs → Once xs
rising_once xs r = Pairs-weaker (λ (x y : ℕ). x < y) (λ (x y : ℕ). x ≢ y) (λ x y l e. omega arith) xs (Pairs-Rises xs r)

-- such a list of numbers that are among others is no longer than theirs
pub length_within : (xs ys : List ℕ) → Once xs → ((k : ℕ) → Contains xs k → Contains ys k) → length xs ≤ length ys
length_within xs ys a to =
    length-le_from_is_member nat_eq_equiv xs ys
    (IsDistinct-from_AllPairs Decides-eqb xs (AllPairs-Pairs (λ (x y : ℕ). x ≢ y) xs a))
    (λ k e. list_any-from_Contains nat_eq_equiv k ys (to k (Contains-from_any eqb-true k xs e)))

same_length : (xs ys : List ℕ) → Once xs → Once ys → ((k : ℕ) → Contains xs k → Contains ys k) → ((k : ℕ) → Contains ys k → Contains xs k) → length xs ≡ length ys
same_length xs ys a b to from =
    let l = length_within xs ys a to in
    let m = length_within ys xs b from in
    omega arith

-- wakes of one time have rising keys

next_wake : (t : ℕ) (v w : ℕ × ℕ) → wake_cmp v w ≡ Below → v.0 ≡ t → w.0 ≡ t → v.1 < w.1
next_wake t v w e a b = strict v.0 w.0 v.1 w.1 e (a ∙ sym b)
  where
    strict : (a b c d : ℕ) → ordering_then (nat_cmp a b) (nat_cmp c d) ≡ Below → a ≡ b → c < d
    strict a b c d e same = grind arith

-- the keys of a state that no other state has
module _ {Cell : Type 0} (t : ℕ) (others : List (Held Cell)) where
  abbrev p : ℕ × ℕ → Bool
  p w = is_new t others w

  keys_in : List (ℕ × ℕ) → List ℕ
  keys_in ws = map (λ w. w.1) (filter p ws)

  new_wake : (ws : List (ℕ × ℕ)) (k : ℕ) → Contains (keys_in ws) k → Has ws t k × (list_any (has_wake_in t k) others ≡ false)
  unfolding keys_in
  new_wake ws k i =
      let a = found (λ (w : ℕ × ℕ). w.1 ≡ k) (filter p ws) (Contains-map (λ (w : ℕ × ℕ). w.1) (filter p ws) k i) in
      let b = Contains-filter p ws a.0 a.1 in
      let w = a.0 in
      let both = and_parts (w.0 == t) (not (list_any (has_wake_in t w.1) others)) b.1 in
      let at = subst (λ (n : ℕ). Contains ws (n, w.1)) (eqb-true w.0 t both.0) b.0 in (
        subst (λ (n : ℕ). Contains ws (t, n)) a.2 at,
        subst (λ (n : ℕ). list_any (has_wake_in t n) others ≡ false) a.2 (not-true (list_any (has_wake_in t w.1) others) both.1),
      )

  wake_new : (ws : List (ℕ × ℕ)) (k : ℕ) → Has ws t k → list_any (has_wake_in t k) others ≡ false → Contains (keys_in ws) k
  unfolding keys_in
  wake_new ws k i other =
      map-Contains (λ (w : ℕ × ℕ). w.1) (filter p ws) k
      (found_there (λ (w : ℕ × ℕ). w.1 ≡ k) (filter p ws) (t, k) (filter-Contains p ws (t, k) i (and_from (t == t) _ (eq-eqb t t refl) (not_from_false (list_any (has_wake_in t k) others) other))) refl)

  new_rise : (ws : List (ℕ × ℕ)) → IsAscending ws → Rises (keys_in ws)
  unfolding keys_in
  new_rise [] h = tt
  new_rise (w ∷ ws) h =
      let rest = new_rise ws (sorted_tail wake_cmp w ws h) in
      let below = All-from_recursion (λ (v : ℕ × ℕ). wake_cmp w v ≡ Below) ws (sorted_head wake_cmp w ws h) in
      add_if (λ (vs : List (ℕ × ℕ)). Rises (map (λ v. v.1) vs)) (p w) w (filter p ws)
      (λ e.
      let at = eqb-true w.0 t (and_parts (w.0 == t) (not (list_any (has_wake_in t w.1) others)) e).0 in
      ((λ k i. next_wake t w (t, k) (All-contains (λ (v : ℕ × ℕ). wake_cmp w v ≡ Below) ws (t, k) below (new_wake ws k i).0) at refl), rest))
      (λ e. rest)

-- the keys of all states
module _ {Cell : Type 0} (t : ℕ) where
  abbrev pub InOrder : Held Cell → Type 0
  InOrder s = IsAscending (wakes_in s)

  woken_is : (ss : List (Held Cell)) (k : ℕ) → Contains (woken_keys t ss) k → list_any (has_wake_in t k) ss ≡ true
  unfolding keys_in
  woken_is [] k i = absurd (nothing_in_nil k i)
  woken_is (s ∷ ss) k i =
      ⊎_elim
      (λ (j : Contains (new_keys t s ss) k). or_left (has_wake_in t k s) (list_any (has_wake_in t k) ss) (in_wake (wakes_in s) t k (new_wake t ss (wakes_in s) k j).0))
      (λ (j : Contains (woken_keys t ss) k). or_right (has_wake_in t k s) (list_any (has_wake_in t k) ss) (woken_is ss k j))
      (Contains-append_cases (new_keys t s ss) (woken_keys t ss) k i)

  is_woken_key : (ss : List (Held Cell)) (k : ℕ) → list_any (has_wake_in t k) ss ≡ true → Contains (woken_keys t ss) k
  unfolding keys_in
  is_woken_key [] k e = absurd (false≢true e)
  is_woken_key (s ∷ ss) k e =
      ⊎_elim
      (λ (f : list_any (has_wake_in t k) ss ≡ true). Contains-append_right (new_keys t s ss) (woken_keys t ss) k (is_woken_key ss k f))
      (λ (f : list_any (has_wake_in t k) ss ≡ false).
      Contains-append_left (new_keys t s ss) (woken_keys t ss) k
      (wake_new t ss (wakes_in s) k
      (⊎_elim
      (λ (w : has_wake_in t k s ≡ true). wake_in (wakes_in s) t k w)
      (λ (g : list_any (has_wake_in t k) ss ≡ true). absurd (both_ways (list_any (has_wake_in t k) ss) f g))
      (or_cases (has_wake_in t k s) (list_any (has_wake_in t k) ss) e))
      f))
      (cases_Bool (list_any (has_wake_in t k) ss))

  woken_once : (ss : List (Held Cell)) → All InOrder ss → Once (woken_keys t ss)
  unfolding keys_in
  woken_once [] h = tt
  woken_once (s ∷ ss) h =
      Pairs-append (λ (x y : ℕ). x ≢ y) (new_keys t s ss) (woken_keys t ss)
      (rising_once (new_keys t s ss) (new_rise t ss (wakes_in s) (All-head InOrder s ss h)))
      (woken_once ss (All-tail InOrder s ss h))
      (λ x y i j e. both_ways (list_any (has_wake_in t x) ss) (new_wake t ss (wakes_in s) x i).1 (subst (λ (k : ℕ). list_any (has_wake_in t k) ss ≡ true) (sym e) (woken_is ss y j)))

-- the states of a host are in order
pub in_order : {Cell : Type 0} (q : QueryFacts Cell) (job : JobFacts) (h : Hosted Cell) → StandsInOrder q job h → (t : ℕ) → All (InOrder t) h.held
in_order q job h denotes t = All-weaker (StateStands q job h.stage) (InOrder t) (λ s own. own.order.wakes) h.held denotes.states

-- the keys that wait at a time: those to be woken, and the others
pub waiting_counted : {Cell : Type 0} (h : Hosted Cell) (t : ℕ) → IsInOrder group_rank h.records → All (InOrder t) h.held
    → length (woken_keys t h.held) + length (unwoken_keys h t h.records) ≡ length (keys_at h t)
waiting_counted h t records wakes =
    let woken = woken_keys t h.held in
    let others = unwoken_keys h t h.records in
    let once = Pairs-append (λ (x y : ℕ). x ≢ y) woken others (woken_once t h.held wakes) (rising_once others (unwoken_rise h t None h.records records))
    (λ x y i j e. both_ways (has_wake_at h t x) (subst (λ (k : ℕ). has_wake_at h t k ≡ false) (sym e) (unwoken_is h t None h.records y j).0) (woken_is t h.held x i)) in
    let to : (k : ℕ) → Contains (woken ++ others) k → Contains (keys_at h t) k = λ k i. waits_key h t k
    (⊎_elim (λ (j : Contains woken k). wake_waits h t k (woken_is t h.held k j)) (λ (j : Contains others k). or_left (list_any (is_of t k) h.records) (has_wake_at h t k) (unwoken_is h t None h.records k j).1) (Contains-append_cases woken others k i)) in
    let from : (k : ℕ) → Contains (keys_at h t) k → Contains (woken ++ others) k = λ k i.
    ⊎_elim
    (λ (e : has_wake_at h t k ≡ true). Contains-append_left woken others k (is_woken_key t h.held k e))
    (λ (e : has_wake_at h t k ≡ false).
    Contains-append_right woken others k
    (⊎_elim
    (λ (f : list_any (is_of t k) h.records ≡ true). ⊎_elim (λ (j : Contains others k). j) (λ (g : false ≡ true). absurd (false≢true g)) (is_unwoken h t None h.records k e f))
    (λ (f : has_wake_at h t k ≡ true). absurd (both_ways (has_wake_at h t k) e f))
    (or_cases (list_any (is_of t k) h.records) (has_wake_at h t k) (key_waits h t k i))))
    (cases_Bool (has_wake_at h t k)) in
    let same = same_length (woken ++ others) (keys_at h t) once (rising_once (keys_at h t) (Rises-ascending (map (λ r. r.key) (filter (λ r. r.time == t) h.records) ++ map (λ w. w.1) (filter (λ w. w.0 == t) (all_wakes h))))) to from in
    let both = length-append woken others in
    omega arith

-- no more keys are woken than there are events and saved wakes

one_option : {X : Type 0} (o : Option X) (xs : List X) → length (cons_option o xs) ≤ length xs + 1
one_option None xs = omega arith
one_option (Some x) xs = omega arith

length-filter_map : {X Y : Type 0} (f : X → Option Y) (xs : List X) → length (filter_map f xs) ≤ length xs
length-filter_map f [] = omega arith
length-filter_map f (x ∷ xs) = omega (arith, one_option (f x) (filter_map f xs), length-filter_map f xs)

module _ {Cell : Type 0} (q : QueryFacts Cell) (nothing : LaterStagesPostNothing q) (job : JobFacts) (legal : EventsAreLegal job.events) (t : ℕ) (ss : List (Held Cell)) where
  -- a woken key is that of a wake that the job begins with, or of a record that posts
  cause_of_key : (j : ℕ) → All (WakesAreCaused q job j) ss → (k : ℕ) → Contains (woken_keys t ss) k
      → IsOpening q j k t ⊎ ((r : Rec) × Contains (stage_records q job.events j) r × (r.key ≡ k) × Contains (q.posts j r) t)
  cause_of_key j caused k i =
      let a = passing (has_wake_in t k) ss (woken_is t ss k i) in
      All-contains (WakesAreCaused q job j) ss a.0 caused a.1 t k (wake_in (wakes_in a.0) t k a.2)

  -- the key of a wake that a stage begins with
  opening_key : (j k : ℕ) → IsOpening q j k t → Contains (map (λ w. w.1) (q.waking j)) k
  opening_key j k i = map-Contains (λ (w : ℕ × ℕ). w.1) (q.waking j) k (found_there (λ (w : ℕ × ℕ). w.1 ≡ k) (q.waking j) (t, k) i refl)

  pub woken_few : (j : ℕ) → length (q.waking j) ≤ most_bytes → All (InOrder t) ss → All (WakesAreCaused q job j) ss → length (woken_keys t ss) ≤ most_events + most_bytes
  woken_few zero few order caused =
      let rs = input_records q job.events in
      let first = map (λ (w : ℕ × ℕ). w.1) (q.waking zero) in
      let others = map (λ (r : Rec). r.key) rs in
      let within = length_within (woken_keys t ss) (first ++ others) (woken_once t ss order)
      (λ k i.
      ⊎_elim
      (λ (o : IsOpening q zero k t). Contains-append_left first others k (opening_key zero k o))
      (λ (a : (r : Rec) × Contains (stage_records q job.events zero) r × (r.key ≡ k) × Contains (q.posts zero r) t).
      Contains-append_right first others k (map-Contains (λ (r : Rec). r.key) rs k (found_there (λ (r : Rec). r.key ≡ k) rs a.0 a.1 a.2)))
      (cause_of_key zero caused k i)) in
      let both = length-append first others in
      let opening = length-map (q.waking zero) (λ (w : ℕ × ℕ). w.1) in
      let keys = length-map rs (λ (r : Rec). r.key) in
      let made = length-filter_map (λ (p : ℕ × Event). record_of q p.0 p.1) (enumerate_from 0 job.events) in
      let events = length-enumerate_from 0 job.events in
      omega (arith, legal.few)
  woken_few (suc j) few order caused =
      let first = map (λ (w : ℕ × ℕ). w.1) (q.waking (suc j)) in
      let within = length_within (woken_keys t ss) first (woken_once t ss order)
      (λ k i.
      ⊎_elim
      (λ (o : IsOpening q (suc j) k t). opening_key (suc j) k o)
      (λ (a : (r : Rec) × Contains (stage_records q job.events (suc j)) r × (r.key ≡ k) × Contains (q.posts (suc j) r) t).
      absurd (nothing_in_nil t (subst (λ (ts : List ℕ). Contains ts t) (nothing j a.0) a.3)))
      (cause_of_key (suc j) caused k i)) in
      let opening = length-map (q.waking (suc j)) (λ (w : ℕ × ℕ). w.1) in
      omega arith

-- no more wakes are saved than a file can say
few_opening : (from : Option SavedState) → {Cell : Type 0} (q : QueryFacts Cell) → SavedFits q from → (j : ℕ) → length (opening_wakes from j) ≤ most_bytes
few_opening None q fits j = omega arith
few_opening (Some saved) q fits j =
    let own : List SavedWake = filter (λ (w : SavedWake). w.stage == j) saved.wakes in
    let fewer : length own ≤ length saved.wakes = filter_length (λ (w : SavedWake). w.stage == j) saved.wakes in
    let same : length (opening_wakes (Some saved) j) ≡ length own = length-map own (λ (w : SavedWake). (w.time, w.key)) in
    let few : length saved.wakes ≤ most_bytes = fits.few in
    omega arith

-- the states from a place on are one and those behind it
pub woken_step : {Cell : Type 0} (t : ℕ) (ss : List (Held Cell)) (i : ℕ) (s : Held Cell) → i < length ss → s ≡ get_or ss i s
    → length (woken_keys t (drop i ss)) ≡ length (new_keys t s (drop (i + 1) ss)) + length (woken_keys t (drop (i + 1) ss))
woken_step {Cell} t ss i s l is =
    let from : drop i ss ≡ s ∷ drop (i + 1) ss = rw add-one (drop-cons ss i s l ∙ ap (λ (r : Held Cell). r ∷ drop (suc i) ss) (sym is)) in
    ap (λ (rs : List (Held Cell)). length (woken_keys t rs)) from ∙ length-append (new_keys t s (drop (i + 1) ss)) (woken_keys t (drop (i + 1) ss))

-- what stands in a host is few
pub hosted_few : {Cell : Type 0} (q : QueryFacts Cell) → LaterStagesPostNothing q → (job its : JobFacts) (h : Hosted Cell) → IsHosted q job its h → (t : ℕ) → length (woken_keys t h.held) ≤ most_events + most_bytes
hosted_few q nothing job its h hosted t =
    let few : length (q.waking h.stage) ≤ most_bytes = subst (λ (ws : List (ℕ × ℕ)). length ws ≤ most_bytes) (sym (hosted.legal.table.waking h.stage)) (few_opening job.from q hosted.legal.saved h.stage) in
    woken_few q nothing job hosted.legal.events t h.held h.stage few (in_order q job h hosted.order t) hosted.caused
