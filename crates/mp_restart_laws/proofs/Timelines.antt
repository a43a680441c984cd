-- The groups of a key from a time on: they are those of its later records, of their posts, and of the wakes that earlier records left.
use Rattle.std.proofs.Common.{◌≡◌, ◌↔◌, ◌==◌, ℕ, ◌<◌, ◌≤◌, Bool, true, Option, List, ◌∷◌, ◌++◌, filter, map, Contains, refl, sym, ap, ◌∙◌, subst, ⊎_elim, arith}
use Rattle.std.specs.List.{list_any}
use Rattle.std.proofs.lemmas.Bool.{cases_lt, eq-eqb, eqb-true, or_cases, or_left, or_right}
use Rattle.std.proofs.lemmas.List.Elements.{Contains-append_cases, Contains-append_left, Contains-append_right}
use Rattle.mp_model.specs.declared.record.Rec.{Rec}
use Rattle.mp_model.specs.declared.value.Value.{Value}
use Rattle.mp_model.specs.Ascending.{ascending}
use Rattle.mp_model.specs.Entry.{Entry}
use Rattle.mp_model.specs.Facts.{QueryFacts}
use Rattle.mp_model.specs.Folds.{at_time, cell_before, entry_at, is_woken, of_key, outputs_along, outputs_of, timeline, times_in, waking_of}
use Rattle.mp_job.proofs.Ascents.{Contains-ascending, Rises-ascending, ascending-Contains, same_rising}
use Rattle.mp_job.proofs.Members.{Contains-cases, Contains-filter, Contains-flat_map, Contains-later, filter-Contains, flat_map-Contains}
use Rattle.mp_outline.proofs.Found.{found, found_there}
use Rattle.mp_outline.proofs.Pairs.{Pairs, Pairs-Rises}
use Rattle.mp_outline.proofs.PairsMade.{Pairs-map}
use Rattle.mp_outline.proofs.Waking.{is_waking, waking_is}
use Rattle.mp_restart_laws.specs.Saves.{IsLeft}
use Rattle.mp_restart_laws.specs.Times.{is_from, outputs_from, records_from}
use Rattle.mp_restart_laws.proofs.Lists.{Rises-filter, filter-map, filter_implied, filter_swap, map_within, passes, passing, same_answer}
use Rattle.mp_restart_laws.proofs.Split.{fold_is_split, from_above, from_told}
use Rattle.mp_restart_laws.proofs.Tables.{from_nothing, going_on}

module _ {Cell : Type 0} (q : QueryFacts Cell) (j : ℕ) where
  -- no record of these posts a time before its own
  abbrev pub PostsFollow : List Rec → Type 0
  PostsFollow rs = (r : Rec) (u : ℕ) → Contains rs r → Contains (q.posts j r) u → r.time ≤ u

  pub in_times : (own : List Rec) (r : Rec) (u : ℕ) → Contains own r → Contains (r.time ∷ q.posts j r) u → Contains (times_in q j own) u
  in_times own r u i k = flat_map-Contains (λ (s : Rec). s.time ∷ q.posts j s) own u (found_there (λ (s : Rec). Contains (s.time ∷ q.posts j s) u) own r i k)

  pub of_times : (own : List Rec) (u : ℕ) → Contains (times_in q j own) u → (r : Rec) × Contains own r × Contains (r.time ∷ q.posts j r) u
  of_times own u i = found (λ (s : Rec). Contains (s.time ∷ q.posts j s) u) own (Contains-flat_map (λ (s : Rec). s.time ∷ q.posts j s) own u i)

  pub timeline_rises : (k : ℕ) (rs : List Rec) → Pairs (λ e f. e.time < f.time) (timeline q j k rs)
  timeline_rises k rs =
      let times = waking_of q j k ++ times_in q j (of_key k rs) in
      Pairs-map (λ (s t : ℕ). s < t) (λ (e f : Entry). e.time < f.time) (entry_at q j k (of_key k rs)) (λ s t l. l) (ascending times) (Pairs-Rises (ascending times) (Rises-ascending times))

  -- the record posts the time
  abbrev pub posts_it : ℕ → Rec → Bool
  posts_it u r = list_any (λ v. v == u) (q.posts j r)

  pub posts_told : (u : ℕ) (r : Rec) → posts_it u r ≡ true → Contains (q.posts j r) u
  posts_told u r e = let a = passing (λ v. v == u) (q.posts j r) e in subst (Contains (q.posts j r)) (eqb-true a.0 u a.2) a.1

  posts_there : (u : ℕ) (r : Rec) → Contains (q.posts j r) u → posts_it u r ≡ true
  posts_there u r i = passes (λ v. v == u) (q.posts j r) u i (eq-eqb u u refl)

-- Of one key, in a table that begins with the wakes that are left of it
module _ {Cell : Type 0} (query : QueryFacts Cell) (key : ℕ → ℕ → Value → Option ℕ) (opening : ℕ → ℕ → Cell) (waking : ℕ → List (ℕ × ℕ)) (j t : ℕ) (rs : List Rec) (follow : PostsFollow query j rs)
    (k : ℕ) (left : (u : ℕ) → (Contains (waking j) (u, k) ↔ IsLeft query t j rs k u)) where
  abbrev q : QueryFacts Cell
  q = from_nothing query

  abbrev p : QueryFacts Cell
  p = going_on query key opening waking

  abbrev own : List Rec
  own = of_key k rs

  -- its records from the time on
  abbrev late : List Rec
  late = of_key k (records_from t rs)

  abbrev wakes : List ℕ
  wakes = waking_of p j k

  own_is : (r : Rec) → Contains own r → Contains rs r × (r.key ≡ k)
  own_is r i = let a = Contains-filter (λ (s : Rec). s.key == k) rs r i in (a.0, eqb-true r.key k a.1)

  is_own : (r : Rec) → Contains rs r → r.key ≡ k → Contains own r
  is_own r i e = filter-Contains (λ (s : Rec). s.key == k) rs r i (eq-eqb r.key k e)

  late_is : (r : Rec) → Contains late r → Contains own r × (t ≤ r.time)
  late_is r i =
      let a = Contains-filter (λ (s : Rec). s.key == k) (records_from t rs) r i in
      let b = Contains-filter (λ (s : Rec). is_from t s.time) rs r a.0 in
      (filter-Contains (λ (s : Rec). s.key == k) rs r b.0 a.1, from_told t r.time b.1)

  is_late : (r : Rec) → Contains own r → t ≤ r.time → Contains late r
  is_late r i l =
      let a = Contains-filter (λ (s : Rec). s.key == k) rs r i in
      filter-Contains (λ (s : Rec). s.key == k) (records_from t rs) r (filter-Contains (λ (s : Rec). is_from t s.time) rs r a.0 (from_above t r.time l)) a.1

  wake_is : (u : ℕ) → Contains wakes u → IsLeft query t j rs k u
  wake_is u i = (left u).0 (waking_is p j k u i)

  is_wake : (u : ℕ) → IsLeft query t j rs k u → Contains wakes u
  is_wake u h = is_waking p j k u ((left u).1 h)

  -- The times

  forth : (u : ℕ) → Contains (filter (is_from t) (ascending (times_in q j own))) u → Contains (wakes ++ times_in q j late) u
  forth u i =
      let a = Contains-filter (is_from t) (ascending (times_in q j own)) u i in
      let b = of_times q j own u (Contains-ascending (times_in q j own) u a.0) in
      let r = b.0 in
      let here = own_is r b.1 in
      let from : t ≤ u = from_told t u a.1 in
      ⊎_elim
      (λ (l : r.time < t).
      ⊎_elim
      (λ (e : r.time ≡ u). absurd (omega arith))
      (λ (m : Contains (q.posts j r) u). Contains-append_left wakes (times_in q j late) u (is_wake u (from, r, here.0, here.1, l, m)))
      (Contains-cases r.time u (q.posts j r) b.2))
      (λ (l : t ≤ r.time). Contains-append_right wakes (times_in q j late) u (in_times q j late r u (is_late r b.1 l) b.2))
      (cases_lt r.time t)

  from_times : (r : Rec) (u : ℕ) → Contains own r → t ≤ u → Contains (r.time ∷ q.posts j r) u → Contains (filter (is_from t) (ascending (times_in q j own))) u
  from_times r u i l m = filter-Contains (is_from t) (ascending (times_in q j own)) u (ascending-Contains (times_in q j own) u (in_times q j own r u i m)) (from_above t u l)

  back : (u : ℕ) → Contains (wakes ++ times_in q j late) u → Contains (filter (is_from t) (ascending (times_in q j own))) u
  back u i =
      ⊎_elim
      (λ (m : Contains wakes u). let a = wake_is u m in from_times a.1 u (is_own a.1 a.2 a.3) a.0 (Contains-later a.1.time u (q.posts j a.1) a.5))
      (λ (m : Contains (times_in q j late) u).
      let b = of_times q j late u m in
      let r = b.0 in
      let here = late_is r b.1 in
      let low : t ≤ r.time = here.1 in
      let high : r.time ≤ u = ⊎_elim (λ (e : r.time ≡ u). omega arith) (λ (n : Contains (q.posts j r) u). follow r u (own_is r here.0).0 n) (Contains-cases r.time u (q.posts j r) b.2) in
      from_times r u here.0 (omega arith) b.2)
      (Contains-append_cases wakes (times_in q j late) u i)

  late_times : filter (is_from t) (ascending (times_in q j own)) ≡ ascending (wakes ++ times_in q j late)
  late_times =
      same_rising
      (filter (is_from t) (ascending (times_in q j own)))
      (ascending (wakes ++ times_in q j late))
      (Rises-filter (is_from t) (ascending (times_in q j own)) (Rises-ascending (times_in q j own)))
      (Rises-ascending (wakes ++ times_in q j late))
      (λ u i. ascending-Contains (wakes ++ times_in q j late) u (forth u i))
      (λ u i. back u (Contains-ascending (wakes ++ times_in q j late) u i))

  -- The groups

  same_woken : (u : ℕ) → t ≤ u → is_woken q j k own u ≡ is_woken p j k late u
  same_woken u l = same_answer (is_woken q j k own u) (is_woken p j k late u) to from
    where
      to : is_woken q j k own u ≡ true → is_woken p j k late u ≡ true
      to e =
          let a = passing (posts_it q j u) own e in
          let r = a.0 in
          let here = own_is r a.1 in
          ⊎_elim
          (λ (m : r.time < t). or_left (list_any (λ v. v == u) wakes) (list_any (posts_it q j u) late) (passes (λ v. v == u) wakes u (is_wake u (l, r, here.0, here.1, m, posts_told q j u r a.2)) (eq-eqb u u refl)))
          (λ (m : t ≤ r.time). or_right (list_any (λ v. v == u) wakes) (list_any (posts_it q j u) late) (passes (posts_it q j u) late r (is_late r a.1 m) a.2))
          (cases_lt r.time t)

      from : is_woken p j k late u ≡ true → is_woken q j k own u ≡ true
      from e =
          ⊎_elim
          (λ (f : list_any (λ v. v == u) wakes ≡ true).
          let b = passing (λ v. v == u) wakes f in
          let a = wake_is u (subst (Contains wakes) (eqb-true b.0 u b.2) b.1) in
          passes (posts_it q j u) own a.1 (is_own a.1 a.2 a.3) (posts_there q j u a.1 a.5))
          (λ (f : list_any (posts_it q j u) late ≡ true). let a = passing (posts_it q j u) late f in passes (posts_it q j u) own a.0 (late_is a.0 a.1).0 a.2)
          (or_cases (list_any (λ v. v == u) wakes) (list_any (posts_it q j u) late) e)

  same_recs : (u : ℕ) → t ≤ u → at_time u own ≡ at_time u late
  same_recs u l =
      sym (filter_implied (λ (r : Rec). r.time == u) (λ (r : Rec). is_from t r.time) own (λ r i e. let m : r.time ≡ u = eqb-true r.time u e in from_above t r.time (omega arith)))
      ∙ ap (at_time u) (filter_swap (λ (r : Rec). is_from t r.time) (λ (r : Rec). r.key == k) rs)

  same_entry : (u : ℕ) → t ≤ u → entry_at q j k own u ≡ entry_at p j k late u
  same_entry u l = let a = same_woken u l in let b = same_recs u l in λ i. record { time = u; key = k; woken = a i; recs = b i }

  late_entries : filter (λ e. is_from t e.time) (timeline q j k rs) ≡ timeline p j k (records_from t rs)
  late_entries =
      filter-map (λ (e : Entry). is_from t e.time) (entry_at q j k own) (ascending (times_in q j own))
      ∙ map_within (entry_at q j k own) (entry_at p j k late) (filter (is_from t) (ascending (times_in q j own))) (λ u i. same_entry u (from_told t u (Contains-filter (is_from t) (ascending (times_in q j own)) u i).1))
      ∙ ap (map (entry_at p j k late)) late_times

  -- What the groups of the key give from the time on is what the groups of its later records and of its wakes give on its cell just before the time
  pub late_outputs : opening j k ≡ cell_before q j rs k t → outputs_from t (outputs_of q j rs k) ≡ outputs_of p j (records_from t rs) k
  late_outputs opens =
      fold_is_split q j t (q.fresh j) (timeline q j k rs) (timeline_rises q j k rs)
      ∙ (λ i. outputs_along q j (sym opens i) (late_entries i))
