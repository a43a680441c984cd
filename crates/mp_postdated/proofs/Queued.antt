-- The queue of a set of wakes: what a removal of its first leaves, and that its first is the least.
use Rattle.std.proofs.Common.{◌≡◌, ◌⊎◌, ℕ, zero, suc, ◌<◌, ◌≤◌, ◌+◌, ◌/◌, Bool, true, false, not, List, [], ◌∷◌, Option, None, Some, IfSome, IsSome, OnSome, IsPermutation, Contains, length, get_or, slice_get, slice_index_or, refl, sym, ap, ◌∙◌, subst, inl, inr, ⊎_elim, arith}
use Rattle.std.proofs.lemmas.Bool.{false≢true}
use Rattle.std.proofs.lemmas.List.Sorted.{Contains-permutation, IsPermutation-remove, IsPermutation-sym, length_permutation}
use Rattle.std.proofs.lemmas.Map.Keys.{IsDistinct-head, IsDistinct-tail, sorted_head}
use Rattle.std.specs.BinaryHeap.{IsHeap, IsUpperBound, PopsGreatest, lt_by_cmp}
use Rattle.std.specs.Bool.{OnFalse}
use Rattle.std.specs.List.{AllByRecursion, IsDistinct, list_any, remove}
use Rattle.std.specs.List.Sorted.{IsStrictlySortedBy}
use Rattle.std.specs.Ordering.{eq_by_cmp, is_lt}
use Rattle.std.specs.declared.cmp.Ordering.TheVariants.{Less}
use Rattle.std.specs.declared.cmp.Reverse.{Reverse}
use Rattle.mp_postdated.proofs.Membership.{has-by_search}
use Rattle.mp_postdated.proofs.Ordered.{AreSame, Finds, has-ordered, has_found, has_in, has_out, is_ordered, none_equal, same_pair, same_pair-exact, same_parts}
use Rattle.mp_postdated.specs.Wakes.{AreQueued, BeginsLive, ComesNoLater, Has, IsAscending, IsQueueOf, IsWake, ordered, queue_cmp, reversed, wake_cmp}

-- two neither of which comes later are the same
pub neither_later : (v w : ℕ × ℕ) → ComesNoLater v w → ComesNoLater w v → v ≡ w
neither_later v w l m =
    let times : v.0 ≡ w.0 = grind arith in
    let keys : v.1 ≡ w.1 = grind arith in
    λ i. (times i, keys i)

nothing_in_nil : {X : Type 0} (x : X) → Contains [] x → ⊥
nothing_in_nil x h = let l : h.0 < 0 = h.1 in omega arith

cases_in : {X : Type 0} (x y : X) (xs : List X) → Contains (x ∷ xs) y → (x ≡ y) ⊎ Contains xs y
cases_in x y xs h = at h.0 h.1 h.2
  where
    at : (k : ℕ) → k < length (x ∷ xs) → get_or (x ∷ xs) k y ≡ y → (x ≡ y) ⊎ Contains xs y
    at zero l e = inl e
    at (suc k) l e = inr (k, omega arith, e)

first_of : {X : Type 0} (xs : List X) (x : X) → 0 < length xs → x ≡ slice_index_or xs 0 x → slice_get xs 0 ≡ Some x
first_of [] x l e = absurd (omega arith)
first_of (y ∷ ys) x l e = ap Some (sym e)

none_of : {X : Type 0} (xs : List X) → length xs ≤ 0 → xs ≡ []
none_of [] l = refl
none_of (x ∷ xs) l = absurd (omega arith)

-- a wake is not among those that it is distinct from
not_again : (w : ℕ × ℕ) (ws : List (ℕ × ℕ)) → IsDistinct same_pair (w ∷ ws) → Contains ws w → ⊥
not_again w ws d i = false≢true (sym (none_equal same_pair same_pair-exact w ws (IsDistinct-head same_pair w ws d)) ∙ (has-by_search ws w.0 w.1).1 i)

-- the others are queued where one is taken out of the queue
others_queued : (w : ℕ × ℕ) (ws : List (ℕ × ℕ)) (queue rest : List (Reverse (ℕ × ℕ))) → IsDistinct same_pair (w ∷ ws) → IsPermutation queue (reversed w ∷ rest) → AreQueued (w ∷ ws) queue → AreQueued ws rest
others_queued w ws queue rest d moved all v there =
    ⊎_elim
    (λ (e : reversed w ≡ reversed v). absurd (not_again w ws d (subst (λ (r : Reverse (ℕ × ℕ)). Contains ws r.0) (sym e) there)))
    (λ (i : Contains rest (reversed v)). i)
    (cases_in (reversed w) (reversed v) rest (Contains-permutation queue (reversed w ∷ rest) (reversed v) moved (all v (let l : there.0 < length ws = there.1 in (suc there.0, omega arith, there.2)))))

-- a queue of distinct wakes is no shorter than they
as_many : (ws : List (ℕ × ℕ)) (queue : List (Reverse (ℕ × ℕ))) → IsDistinct same_pair ws → AreQueued ws queue → length ws ≤ length queue
as_many [] queue d all = omega arith
as_many (w ∷ ws) queue d all =
    let i = all w (0, omega arith, refl) in
    let rest = remove queue i.0 in
    let moved = IsPermutation-remove queue i.0 (reversed w) i.1 (sym i.2) in
    let more : length (reversed w ∷ rest) ≡ length queue = length_permutation queue (reversed w ∷ rest) moved in
    let fewer : length ws ≤ length rest = as_many ws rest (IsDistinct-tail same_pair w ws d) (others_queued w ws queue rest d moved all) in
    omega arith

module _ (live : List (ℕ × ℕ)) where
  -- a queue that is no longer than there are live wakes has no others
  pub only_live : (queue : List (Reverse (ℕ × ℕ))) → IsDistinct same_pair live → AreQueued live queue → length queue ≤ length live → BeginsLive live queue
  only_live [] d all few = tt
  only_live (r ∷ rs) d all few = by_search (list_any (eq_by_cmp wake_cmp r.0) live) refl
    where
      by_search : (b : Bool) → list_any (eq_by_cmp wake_cmp r.0) live ≡ b → Contains live r.0
      by_search true e = (has-by_search live r.0.0 r.0.1).0 e
      by_search false e =
          let behind : AreQueued live rs = λ w there.
          ⊎_elim
          (λ (same : r ≡ reversed w). absurd (false≢true (sym e ∙ (has-by_search live r.0.0 r.0.1).1 (subst (λ (s : Reverse (ℕ × ℕ)). Contains live s.0) (sym same) there))))
          (λ (i : Contains rs (reversed w)). i)
          (cases_in r (reversed w) rs (all w there)) in
          let fewer : length live ≤ length rs = as_many live rs d behind in
          absurd (omega arith)

  -- whether a search finds the first says whether it is live
  pub begins_live : (queue : List (Reverse (ℕ × ℕ))) (r : Reverse (ℕ × ℕ)) (b : Bool) → 0 < length queue → r ≡ slice_index_or queue 0 r → b ≡ list_any (same_pair r.0) live → OnFalse (not b) (BeginsLive live queue)
  begins_live queue r false l e f = tt
  begins_live queue r true l e f = subst (λ (o : Option (Reverse (ℕ × ℕ))). IfSome o (λ p. Contains live p.0)) (sym (first_of queue r l e)) ((has_found live r.0.0 r.0.1).0 (sym f))

  pub begins_taken : (queue : List (Reverse (ℕ × ℕ))) (r : Reverse (ℕ × ℕ)) (b : Bool) → 0 < length queue → r ≡ slice_index_or queue 0 r → b ≡ list_any (same_pair r.0) live → not b ≡ true → IfSome (slice_get queue 0) (λ p. Contains live p.0 → ⊥)
  begins_taken queue r b l e f taken = subst (λ (o : Option (Reverse (ℕ × ℕ))). IfSome o (λ p. Contains live p.0 → ⊥)) (sym (first_of queue r l e))
      (λ there. let found : b ≡ true = f ∙ (has_found live r.0.0 r.0.1).1 there in false≢true (ap not (sym found) ∙ taken))

  -- what is live stays queued where the first, which isn't, goes
  pub still_queued : (old new : List (Reverse (ℕ × ℕ))) (o : Option (Reverse (ℕ × ℕ))) → IsSome o → IfSome o (λ r. r ≡ slice_index_or old 0 r) → IfSome o (λ r. IsPermutation old (r ∷ new))
      → IfSome (slice_get old 0) (λ p. Contains live p.0 → ⊥) → AreQueued live old → AreQueued live new
  still_queued old new None some first moved taken all w there = absurd (false≢true some)
  still_queued old new (Some r) some first moved taken all w there =
      let queued = all w there in
      ⊎_elim
      (λ (e : r ≡ reversed w).
      let not_live : Contains live r.0 → ⊥ = subst (λ (p : Option (Reverse (ℕ × ℕ))). IfSome p (λ s. Contains live s.0 → ⊥)) (first_of old r (omega (arith, queued.1)) first) taken in
      absurd (not_live (subst (λ (s : Reverse (ℕ × ℕ)). Contains live s.0) (sym e) there)))
      (λ (i : Contains new (reversed w)). i)
      (cases_in r (reversed w) new (Contains-permutation old (r ∷ new) (reversed w) moved queued))

  -- without one the first is live still, or that one
  pub begins_beside : (less : List (ℕ × ℕ)) (t k : ℕ) (queue : List (Reverse (ℕ × ℕ))) → Finds false t k live less → BeginsLive live queue → BeginsLive ((t, k) ∷ less) queue
  begins_beside less t k [] f begins = tt
  begins_beside less t k (r ∷ rs) f begins = by_test (same_pair (t, k) r.0) refl
    where
      by_test : (b : Bool) → same_pair (t, k) r.0 ≡ b → Contains ((t, k) ∷ less) r.0
      by_test true e = let same = (same_parts t k r.0).0 e in (0, omega arith, λ i. (sym same.0 i, sym same.1 i))
      by_test false e =
          let there : Contains less r.0 = (has_out t k live less f r.0.0 r.0.1).1 (begins, λ same. false≢true (sym e ∙ (same_parts t k r.0).1 same)) in
          let l : there.0 < length less = there.1 in (suc there.0, omega arith, there.2)

  pub still_heap : (old new : List (Reverse (ℕ × ℕ))) (o : Option (Reverse (ℕ × ℕ))) → IsSome o → IfSome o (λ r. PopsGreatest queue_cmp old r new) → IsHeap queue_cmp old → IsHeap queue_cmp new
  still_heap old new None some kept heap = absurd (false≢true some)
  still_heap old new (Some r) some kept heap = (kept heap).0

  pub shorter : (n m : ℕ) (o : Option (Reverse (ℕ × ℕ))) → IsSome o → OnSome o (n + 1 ≡ m) → n ≤ m
  shorter n m None some e = absurd (false≢true some)
  shorter n m (Some r) some e = omega arith

  -- and so does what is new
  pub more_queued : (more : List (ℕ × ℕ)) (t k : ℕ) (old new : List (Reverse (ℕ × ℕ))) → Finds true t k live more → IsPermutation (reversed (t, k) ∷ old) new → AreQueued live old → AreQueued more new
  more_queued more t k old new f moved all w there =
      Contains-permutation (reversed (t, k) ∷ old) new (reversed w) moved
      (⊎_elim
      (λ (i : Contains live w). let q = all w i in let l : q.0 < length old = q.1 in (suc q.0, omega arith, q.2))
      (λ (same : IsWake t k w). subst (λ (v : ℕ × ℕ). Contains (reversed (t, k) ∷ old) (reversed v)) (λ i. (sym same.0 i, sym same.1 i)) (0, omega arith, refl))
      ((has_in t k live more f w.0 w.1).0 there))

  begins_same : (again : List (ℕ × ℕ)) (o : Option (Reverse (ℕ × ℕ))) → AreSame live again → IfSome o (λ r. Contains live r.0) → IfSome o (λ r. Contains again r.0)
  begins_same again None same begins = begins
  begins_same again (Some r) same begins = (same r.0.0 r.0.1).1 begins

  -- a queue of live wakes is that of each list with the same wakes
  pub queue-same : (again : List (ℕ × ℕ)) (queue : List (Reverse (ℕ × ℕ))) → AreSame live again → IsQueueOf live queue → IsQueueOf again queue
  queue-same again queue same is_queue = record {
    heap = is_queue.heap;
    all = λ w there. is_queue.all w ((same w.0 w.1).0 there);
    first = begins_same again (slice_get queue 0) same is_queue.first;
  }

  no_later : (v w : ℕ × ℕ) → is_lt (wake_cmp w v) ≡ false → ComesNoLater v w
  no_later v w e = grind arith

  no_later_yet : (u v w : ℕ × ℕ) → ComesNoLater u v → ComesNoLater v w → ComesNoLater u w
  no_later_yet u v w a b = grind arith

  -- no wake in a heap comes before its first
  from_first : (queue : List (Reverse (ℕ × ℕ))) → IsHeap queue_cmp queue → (n k : ℕ) (d : Reverse (ℕ × ℕ)) → k ≤ n → k < length queue → ComesNoLater (slice_index_or queue 0 d).0 (slice_index_or queue k d).0
  unfolding IsHeap
  from_first queue heap n zero d l inside = inr (refl, omega arith)
  from_first queue heap zero (suc k) d l inside = absurd (omega arith)
  from_first queue heap (suc n) (suc k) d l inside =
      no_later_yet (slice_index_or queue 0 d).0 (slice_index_or queue (k / 2) d).0 (slice_index_or queue (suc k) d).0
      (from_first queue heap n (k / 2) d (omega arith) (omega arith))
      (no_later (slice_index_or queue (k / 2) d).0 (slice_index_or queue (suc k) d).0 (heap (k / 2) (suc k) d (omega arith) (omega arith) (omega arith) inside))

  first_no_later : (r s : Reverse (ℕ × ℕ)) (rs : List (Reverse (ℕ × ℕ))) → IsHeap queue_cmp (r ∷ rs) → Contains (r ∷ rs) s → ComesNoLater r.0 s.0
  first_no_later r s rs heap i = subst (λ (x : Reverse (ℕ × ℕ)). ComesNoLater r.0 x.0) i.2 (from_first (r ∷ rs) heap i.0 i.0 s (omega arith) i.1)

  first_again : (p r : Reverse (ℕ × ℕ)) (old rs : List (Reverse (ℕ × ℕ))) → IsPermutation (p ∷ old) (r ∷ rs) → IsHeap queue_cmp old → IsHeap queue_cmp (r ∷ rs) → BeginsLive live old → Contains old r → Contains live r.0
  first_again p r [] rs moved was is begins i = absurd (nothing_in_nil r i)
  first_again p r (s ∷ ss) rs moved was is begins i =
      let j : Contains (r ∷ rs) s = Contains-permutation (p ∷ s ∷ ss) (r ∷ rs) s moved (1, omega arith, refl) in
      subst (Contains live) (neither_later s.0 r.0 (first_no_later s r ss was i) (first_no_later r s rs is j)) begins

  -- with one more the first is that one, or the one before
  pub begins_pushed : (more : List (ℕ × ℕ)) (t k : ℕ) (old new : List (Reverse (ℕ × ℕ))) → Finds true t k live more → IsPermutation (reversed (t, k) ∷ old) new
      → IsHeap queue_cmp old → IsHeap queue_cmp new → BeginsLive live old → BeginsLive more new
  begins_pushed more t k old [] f moved was is begins = tt
  begins_pushed more t k old (r ∷ rs) f moved was is begins =
      let i : Contains (reversed (t, k) ∷ old) r = Contains-permutation (r ∷ rs) (reversed (t, k) ∷ old) r (IsPermutation-sym (reversed (t, k) ∷ old) (r ∷ rs) moved) (0, omega arith, refl) in
      (has_in t k live more f r.0.0 r.0.1).1
      (⊎_elim
      (λ (e : reversed (t, k) ≡ r). inr (ap (λ (s : Reverse (ℕ × ℕ)). s.0.0) (sym e), ap (λ (s : Reverse (ℕ × ℕ)). s.0.1) (sym e)))
      (λ (there : Contains old r). inl (first_again (reversed (t, k)) r old rs moved was is begins there))
      (cases_in (reversed (t, k)) r old i))

  bounded : (r : Reverse (ℕ × ℕ)) (queue : List (Reverse (ℕ × ℕ))) → AllByRecursion (λ y. lt_by_cmp queue_cmp r y ≡ false) queue → (w : ℕ × ℕ) → Contains queue (reversed w) → ComesNoLater r.0 w
  bounded r [] a w h = absurd (nothing_in_nil (reversed w) h)
  bounded r (x ∷ xs) a w h =
      ⊎_elim
      (λ (e : x ≡ reversed w). no_later r.0 w (subst (λ (y : Reverse (ℕ × ℕ)). lt_by_cmp queue_cmp r y ≡ false) e a.0))
      (λ (i : Contains xs (reversed w)). bounded r xs a.1 w i)
      (cases_in x (reversed w) xs h)

  -- no live wake comes before the first in the queue
  pub least : (queue : List (Reverse (ℕ × ℕ))) (r : Reverse (ℕ × ℕ)) → AreQueued live queue → IsUpperBound queue_cmp r queue → (t k : ℕ) → Has (ordered live) t k → ComesNoLater r.0 (t, k)
  least queue r all bound t k h = bounded r queue bound (t, k) (all (t, k) ((has-ordered live t k).0 h))

  pub there : (queue : List (Reverse (ℕ × ℕ))) (r : Reverse (ℕ × ℕ)) → BeginsLive live queue → 0 < length queue → r ≡ slice_index_or queue 0 r → Has (ordered live) r.0.0 r.0.1
  there queue r begins l e = (has-ordered live r.0.0 r.0.1).1 (subst (λ (o : Option (Reverse (ℕ × ℕ))). IfSome o (λ p. Contains live p.0)) (first_of queue r l e) begins)

  -- where the queue is empty nothing is live
  pub none_live : (queue : List (Reverse (ℕ × ℕ))) → length queue ≤ 0 → AreQueued live queue → ordered live ≡ []
  unfolding IsStrictlySortedBy
  none_live queue l all =
      let none : (w : ℕ × ℕ) → Contains live w → ⊥ = λ w h. nothing_in_nil (reversed w) (subst (λ (q : List (Reverse (ℕ × ℕ))). Contains q (reversed w)) (none_of queue l) (all w h)) in
      is_ordered live [] tt (λ t k. ((λ h. absurd (none (t, k) h)), (λ h. absurd (nothing_in_nil (t, k) h))))

after_head : (x : ℕ × ℕ) (xs : List (ℕ × ℕ)) (w : ℕ × ℕ) → AllByRecursion (λ y. wake_cmp x y ≡ Less) xs → Contains xs w → wake_cmp x w ≡ Less
after_head x [] w a h = absurd (nothing_in_nil w h)
after_head x (y ∷ ys) w a h = ⊎_elim (λ (e : y ≡ w). subst (λ (v : ℕ × ℕ). wake_cmp x v ≡ Less) e a.0) (λ (i : Contains ys w). after_head x ys w a.1 i) (cases_in y w ys h)

not_both : (v w : ℕ × ℕ) → wake_cmp v w ≡ Less → ComesNoLater w v → ⊥
not_both v w e n = grind arith

-- of ascending wakes the one that no other comes before stands first
pub first_is_least : (ws : List (ℕ × ℕ)) (w : ℕ × ℕ) → IsAscending ws → Has ws w.0 w.1 → ((t k : ℕ) → Has ws t k → ComesNoLater w (t, k)) → slice_get ws 0 ≡ Some w
first_is_least [] w a h n = absurd (nothing_in_nil w h)
first_is_least (x ∷ xs) w a h n =
    ⊎_elim
    (λ (e : x ≡ w). ap Some e)
    (λ (i : Contains xs w). absurd (not_both x w (after_head x xs w (sorted_head wake_cmp x xs a) i) (n x.0 x.1 (0, omega arith, refl))))
    (cases_in x w xs h)
