-- The first group that waits at a host comes before all others.
use Rattle.std.proofs.Common.{◌≡◌, ◌⊎◌, ℕ, ◌<◌, ◌≤◌, ◌==◌, ◌&&◌, ◌||◌, nat_lt, Bool, true, false, Option, None, Some, List, [], ◌∷◌, slice_get, Contains, refl, sym, subst, inl, inr, ⊎_elim, arith}
use Rattle.std.specs.List.{list_any}
use Rattle.std.specs.Option.{option_map}
use Rattle.std.specs.Ordering.{nat_cmp, ordering_then}
use Rattle.std.specs.declared.cmp.Ordering.TheVariants.{Less as Below}
use Rattle.std.proofs.lemmas.Bool.{and_from, and_parts, both_ways, cases_order, cond_both, eq-eqb, eqb-true, false≢true, lt-ltb, ltb-true, or_cases, or_left, or_right}
use Rattle.std.proofs.lemmas.List.Elements.{All-contains, All-from_recursion}
use Rattle.std.proofs.lemmas.Map.Keys.{sorted_head}
use Rattle.mp_names.specs.Names.{is_before}
use Rattle.mp_model.specs.declared.record.Rec.{Rec}
use Rattle.mp_model.specs.Facts.{JobFacts, QueryFacts}
use Rattle.mp_ordered.specs.InOrder.{IsInOrder}
use Rattle.mp_postdated.specs.Wakes.{ComesNoLater, IsAscending, wake_cmp}
use Rattle.mp_job.proofs.Members.{Contains-cases, Contains-here, Contains-later}
use Rattle.mp_host_laws.specs.declared.held.Held.{Held}
use Rattle.mp_host_laws.specs.Hosted.{Hosted, StandsInOrder, StateStands, first_group, first_record, first_wake_of, group_rank, has_wake_at, has_wake_in, is_of, is_wake, waits_at, wakes_in}
use Rattle.mp_tournament.specs.Firsts.{earlier_of}
use Rattle.mp_host_laws.proofs.Lists.{Pairs-AllPairs, passing}
use Rattle.mp_host_laws.proofs.Waiting.{from_is_of, is_of_from, wake_in}

-- of the groups of which P holds, each a time and a key, none comes before the one that is given; where none is given it holds of none
abbrev pub IsFirst : (ℕ → ℕ → Type 0) → Option (ℕ × ℕ) → Type 0
IsFirst P None = (u l : ℕ) → P u l → ⊥
IsFirst P (Some g) = P g.0 g.1 × ((u l : ℕ) → P u l → ComesNoLater g (u, l))

no_later_trans : (f g h : ℕ × ℕ) → ComesNoLater f g → ComesNoLater g h → ComesNoLater f h
no_later_trans f g h a b =
    ⊎_elim
    (λ (l : f.0 < g.0). ⊎_elim (λ (m : g.0 < h.0). inl (omega arith)) (λ (m : (g.0 ≡ h.0) × (g.1 ≤ h.1)). let e : g.0 ≡ h.0 = m.0 in inl (omega arith)) b)
    (λ (l : (f.0 ≡ g.0) × (f.1 ≤ g.1)).
    let e : f.0 ≡ g.0 = l.0 in
    let d : f.1 ≤ g.1 = l.1 in
    ⊎_elim (λ (m : g.0 < h.0). inl (omega arith)) (λ (m : (g.0 ≡ h.0) × (g.1 ≤ h.1)). let k : g.0 ≡ h.0 = m.0 in let n : g.1 ≤ h.1 = m.1 in inr (omega arith, omega arith)) b)
    a

-- the test by which the earlier one is found
abbrev later_test : ℕ × ℕ → ℕ × ℕ → Bool
later_test f g = nat_lt g.0 f.0 || g.0 == f.0 && nat_lt g.1 f.1

later_is : (f g : ℕ × ℕ) → later_test f g ≡ true → ComesNoLater g f
later_is f g e =
    ⊎_elim
    (λ (l : nat_lt g.0 f.0 ≡ true). inl (ltb-true g.0 f.0 l))
    (λ (l : (g.0 == f.0 && nat_lt g.1 f.1) ≡ true). let p = and_parts (g.0 == f.0) (nat_lt g.1 f.1) l in let m : g.1 < f.1 = ltb-true g.1 f.1 p.1 in inr (eqb-true g.0 f.0 p.0, omega arith))
    (or_cases (nat_lt g.0 f.0) (g.0 == f.0 && nat_lt g.1 f.1) e)

not_later : (f g : ℕ × ℕ) → later_test f g ≡ false → ComesNoLater f g
not_later f g e =
    ⊎_elim
    (λ (s : g.0 ≡ f.0). inr (sym s, not_above s))
    (λ (s : (g.0 < f.0) ⊎ (f.0 < g.0)). ⊎_elim (λ (l : g.0 < f.0). absurd (both_ways (later_test f g) e (or_left (nat_lt g.0 f.0) (g.0 == f.0 && nat_lt g.1 f.1) (lt-ltb g.0 f.0 l)))) (λ (l : f.0 < g.0). inl l) s)
    (cases_order g.0 f.0)
  where
    not_above : g.0 ≡ f.0 → f.1 ≤ g.1
    not_above s =
        ⊎_elim
        (λ (d : g.1 ≡ f.1). omega arith)
        (λ (d : (g.1 < f.1) ⊎ (f.1 < g.1)). ⊎_elim (λ (l : g.1 < f.1). absurd (both_ways (later_test f g) e (or_right (nat_lt g.0 f.0) (g.0 == f.0 && nat_lt g.1 f.1) (and_from (g.0 == f.0) (nat_lt g.1 f.1) (eq-eqb g.0 f.0 s) (lt-ltb g.1 f.1 l))))) (λ (l : f.1 < g.1). omega arith) d)
        (cases_order g.1 f.1)

-- the earlier of two first ones is the first of both
earlier_is : (P Q : ℕ → ℕ → Type 0) (a b : Option (ℕ × ℕ)) → IsFirst P a → IsFirst Q b → IsFirst (λ u l. P u l ⊎ Q u l) (earlier_of a b)
earlier_is P Q None None h k = λ u l i. ⊎_elim (λ (p : P u l). h u l p) (λ (p : Q u l). k u l p) i
earlier_is P Q None (Some g) h k = (inr k.0, (λ u l i. ⊎_elim (λ (p : P u l). absurd (h u l p)) (λ (p : Q u l). k.1 u l p) i))
earlier_is P Q (Some f) None h k = (inl h.0, (λ u l i. ⊎_elim (λ (p : P u l). h.1 u l p) (λ (p : Q u l). absurd (k u l p)) i))
earlier_is P Q (Some f) (Some g) h k =
    cond_both (nat_lt g.0 f.0 || g.0 == f.0 && nat_lt g.1 f.1) (Some g) (Some f) (IsFirst (λ u l. P u l ⊎ Q u l))
    (λ e. (inr k.0, (λ u l i. ⊎_elim (λ (p : P u l). no_later_trans g f (u, l) (later_is f g e) (h.1 u l p)) (λ (p : Q u l). k.1 u l p) i)))
    (λ e. (inl h.0, (λ u l i. ⊎_elim (λ (p : P u l). h.1 u l p) (λ (p : Q u l). no_later_trans f g (u, l) (not_later f g e) (k.1 u l p)) i)))

-- a record whose rank isn't before another's has no earlier group
rank_no_later : (r s : Rec) → is_before (group_rank s) (group_rank r) ≡ false → ComesNoLater (r.time, r.key) (s.time, s.key)
rank_no_later r s e =
    ⊎_elim
    (λ (d : s.time ≡ r.time). inr (sym d, keys d))
    (λ (d : (s.time < r.time) ⊎ (r.time < s.time)). ⊎_elim (λ (l : s.time < r.time). absurd (both_ways (is_before (group_rank s) (group_rank r)) e (or_left (nat_lt s.time r.time) _ (lt-ltb s.time r.time l)))) (λ (l : r.time < s.time). inl l) d)
    (cases_order s.time r.time)
  where
    keys : s.time ≡ r.time → r.key ≤ s.key
    keys d =
        ⊎_elim
        (λ (m : s.key ≡ r.key). omega arith)
        (λ (m : (s.key < r.key) ⊎ (r.key < s.key)). ⊎_elim (λ (l : s.key < r.key). absurd (both_ways (is_before (group_rank s) (group_rank r)) e (or_right (nat_lt s.time r.time) _ (and_from (s.time == r.time) _ (eq-eqb s.time r.time d) (or_left (nat_lt s.key r.key) _ (lt-ltb s.key r.key l)))))) (λ (l : r.key < s.key). omega arith) m)
        (cases_order s.key r.key)

-- the first record's group is the first of all that have a record
records_first : (rs : List Rec) → IsInOrder group_rank rs → IsFirst (λ u l. list_any (is_of u l) rs ≡ true) (option_map (λ r. (r.time, r.key)) (slice_get rs 0))
records_first [] h = λ u l e. false≢true e
records_first (r ∷ rs) h = (
  or_left (is_of r.time r.key r) (list_any (is_of r.time r.key) rs) (is_of_from r.time r.key r refl refl),
  (λ u l e.
      let s = passing (is_of u l) (r ∷ rs) e in
      let p = from_is_of u l s.0 s.2 in
      let before = Pairs-AllPairs (λ (x y : Rec). is_before (group_rank y) (group_rank x) ≡ false) (r ∷ rs) h in
      let no_later : ComesNoLater (r.time, r.key) (s.0.time, s.0.key) = ⊎_elim
      (λ (d : r ≡ s.0). subst (λ (z : Rec). ComesNoLater (r.time, r.key) (z.time, z.key)) d (inr (refl, omega arith)))
      (λ (i : Contains rs s.0). rank_no_later r s.0 (before.0 s.0 i))
      (Contains-cases r s.0 rs s.1) in
      subst (λ (n : ℕ). ComesNoLater (r.time, r.key) (n, l)) p.0 (subst (λ (n : ℕ). ComesNoLater (r.time, r.key) (s.0.time, n)) p.1 no_later)),
)

less_wake : (a b c d : ℕ) → ordering_then (nat_cmp a b) (nat_cmp c d) ≡ Below → (a < b) ⊎ ((a ≡ b) × (c ≤ d))
less_wake a b c d e = grind arith

-- the first wake is the first of all
wakes_first : (ws : List (ℕ × ℕ)) → IsAscending ws → IsFirst (λ u l. list_any (is_wake u l) ws ≡ true) (slice_get ws 0)
wakes_first [] h = λ u l e. false≢true e
wakes_first (w ∷ ws) h = (
  or_left (is_wake w.0 w.1 w) (list_any (is_wake w.0 w.1) ws) (and_from (w.0 == w.0) (w.1 == w.1) (eq-eqb w.0 w.0 refl) (eq-eqb w.1 w.1 refl)),
  (λ u l e.
      ⊎_elim
      (λ (d : w ≡ (u, l)). subst (ComesNoLater w) d (inr (refl, omega arith)))
      (λ (i : Contains ws (u, l)). less_wake w.0 u w.1 l (All-contains (λ (v : ℕ × ℕ). wake_cmp w v ≡ Below) ws (u, l) (All-from_recursion (λ (v : ℕ × ℕ). wake_cmp w v ≡ Below) ws (sorted_head wake_cmp w ws h)) i))
      (Contains-cases w (u, l) ws (wake_in (w ∷ ws) u l e))),
)

-- what is first of one property is first of another that holds of the same groups
first_as : (P Q : ℕ → ℕ → Type 0) → ((u l : ℕ) → P u l → Q u l) → ((u l : ℕ) → Q u l → P u l) → (g : Option (ℕ × ℕ)) → IsFirst P g → IsFirst Q g
first_as P Q to from None h = λ u l i. h u l (from u l i)
first_as P Q to from (Some g) h = (to g.0 g.1 h.0, (λ u l i. h.1 u l (from u l i)))

module _ {Cell : Type 0} where
  -- the first of the first wakes of some states is the first of all their wakes
  states_first : (ss : List (Held Cell)) → ((s : Held Cell) → Contains ss s → IsAscending (wakes_in s)) → IsFirst (λ u l. list_any (has_wake_in u l) ss ≡ true) (first_wake_of ss)
  states_first [] h = λ u l e. false≢true e
  states_first (s ∷ ss) h =
      first_as (λ u l. (has_wake_in u l s ≡ true) ⊎ (list_any (has_wake_in u l) ss ≡ true)) (λ u l. list_any (has_wake_in u l) (s ∷ ss) ≡ true)
      (λ u l i.
      ⊎_elim
      (λ (p : has_wake_in u l s ≡ true). or_left (has_wake_in u l s) (list_any (has_wake_in u l) ss) p)
      (λ (p : list_any (has_wake_in u l) ss ≡ true). or_right (has_wake_in u l s) (list_any (has_wake_in u l) ss) p)
      i)
      (λ u l i. or_cases (has_wake_in u l s) (list_any (has_wake_in u l) ss) i)
      (first_wake_of (s ∷ ss))
      (earlier_is (λ u l. has_wake_in u l s ≡ true) (λ u l. list_any (has_wake_in u l) ss ≡ true) (slice_get (wakes_in s) 0) (first_wake_of ss)
      (wakes_first (wakes_in s) (h s (Contains-here s ss)))
      (states_first ss (λ r i. h r (Contains-later s r ss i))))

module _ {Cell : Type 0} (q : QueryFacts Cell) (job : JobFacts) (h : Hosted Cell) (denotes : StandsInOrder q job h) where
  -- the first group that waits is the first of all that wait
  first_is_first : IsFirst (λ u l. waits_at h u l ≡ true) (first_group h)
  first_is_first =
      first_as (λ u l. (list_any (is_of u l) h.records ≡ true) ⊎ (has_wake_at h u l ≡ true)) (λ u l. waits_at h u l ≡ true)
      (λ u l i.
      ⊎_elim
      (λ (p : list_any (is_of u l) h.records ≡ true). or_left (list_any (is_of u l) h.records) (has_wake_at h u l) p)
      (λ (p : has_wake_at h u l ≡ true). or_right (list_any (is_of u l) h.records) (has_wake_at h u l) p)
      i)
      (λ u l i. or_cases (list_any (is_of u l) h.records) (has_wake_at h u l) i)
      (first_group h)
      (earlier_is (λ u l. list_any (is_of u l) h.records ≡ true) (λ u l. has_wake_at h u l ≡ true) (first_record h) (first_wake_of h.held)
      (records_first h.records denotes.records)
      (states_first h.held (λ s i. (All-contains (StateStands q job h.stage) h.held s denotes.states i).order.wakes)))

  -- it waits, and what waits isn't before it
  pub first_waits : (t k : ℕ) → first_group h ≡ Some (t, k) → (waits_at h t k ≡ true) × ((u l : ℕ) → waits_at h u l ≡ true → ComesNoLater (t, k) (u, l))
  first_waits t k e = subst (IsFirst (λ u l. waits_at h u l ≡ true)) e first_is_first

  -- where there is none nothing waits
  pub none_waits : first_group h ≡ None → (u l : ℕ) → waits_at h u l ≡ true → ⊥
  none_waits e u l p = let f = subst (IsFirst (λ u l. waits_at h u l ≡ true)) e first_is_first in f u l p
