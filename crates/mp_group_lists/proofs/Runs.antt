-- Entries by moments, and the run of one moment among them.
use Rattle.std.proofs.Common.{◌≡◌, ℕ, ◌+◌, ◌-◌, ◌<◌, ◌≤◌, ◌⊎◌, Bool, true, false, not, cond, ◌&&◌, List, [], ◌∷◌, ◌++◌, filter, drop, take, get_or, length, All, length-drop, length-take, refl, sym, ap, ◌∙◌, subst, ⊎_elim, append-nil, add-zero, arith}
use Rattle.std.specs.List.{AllByRecursion, AllWithin}
use Rattle.std.specs.List.Sorted.{IsPartitionPoint, IsPartitionedBy}
use Rattle.std.proofs.lemmas.Bool.{false≢true, and_from, and_right, both_ways, false_from_ne_true}
use Rattle.std.proofs.lemmas.List.{get_or-drop, get_or-take, take-append-drop}
use Rattle.std.proofs.lemmas.List.Elements.{filter-append, recursion_from_All}
use Rattle.mp_names.specs.Names.{IsBefore, is_before}
use Rattle.mp_names.proofs.Orders.{before_connected, before_irreflexive, before_is, before_trans, is_before-from}
use Rattle.mp_chart.specs.declared.entry.Entry.{Entry}
use Rattle.mp_group_lists.specs.declared.moments.Moment.{Moment}
use Rattle.mp_group_lists.specs.Moments.{AreByMoment, comes_before, is_at, moment_of, rank_of}

-- What a filter keeps of a list that is cut in three

module _ {X : Type 0} (p : X → Bool) where
  none_pass : (xs : List X) → AllByRecursion (λ x. p x ≡ false) xs → filter p xs ≡ []
  none_pass [] h = refl
  none_pass (x ∷ xs) h = ap (λ (b : Bool). cond b (x ∷ filter p xs) (filter p xs)) h.0 ∙ none_pass xs h.1

  all_pass : (xs : List X) → AllByRecursion (λ x. p x ≡ true) xs → filter p xs ≡ xs
  all_pass [] h = refl
  all_pass (x ∷ xs) h = ap (λ (b : Bool). cond b (x ∷ filter p xs) (filter p xs)) h.0 ∙ ap (λ (ys : List X). x ∷ ys) (all_pass xs h.1)

  cut : (n : ℕ) (xs : List X) → filter p xs ≡ filter p (take n xs) ++ filter p (drop n xs)
  cut n xs = ap (filter p) (sym (take-append-drop n xs)) ∙ filter-append p (take n xs) (drop n xs)

  front : (b : Bool) (n : ℕ) (xs : List X) → n ≤ length xs → AllWithin (λ x. p x ≡ b) xs 0 n → All (λ x. p x ≡ b) (take n xs)
  front b n xs l h = λ i d m. let e = length-take n xs in let near : i < n = omega arith in subst (λ (x : X). p x ≡ b) (sym (get_or-take n xs i d near)) (h i d (omega arith) near)

  rest : (b : Bool) (n : ℕ) (xs : List X) → AllWithin (λ x. p x ≡ b) xs n (length xs) → All (λ x. p x ≡ b) (drop n xs)
  rest b n xs h = λ i d m. let e = length-drop n xs in subst (λ (x : X). p x ≡ b) (sym (get_or-drop n xs i d)) (h (n + i) d (omega arith) (omega arith))

  pub filter_run : (xs : List X) (n m : ℕ) → n ≤ length xs → m ≤ length (drop n xs) → AllWithin (λ x. p x ≡ false) xs 0 n → AllWithin (λ x. p x ≡ true) (drop n xs) 0 m → AllWithin (λ x. p x ≡ false) (drop n xs) m (length (drop n xs)) → filter p xs ≡ take m (drop n xs)
  filter_run xs n m l k before within after =
      let later = drop n xs in
      let ahead = none_pass (take n xs) (recursion_from_All (λ x. p x ≡ false) (take n xs) (front false n xs l before)) in
      let kept = all_pass (take m later) (recursion_from_All (λ x. p x ≡ true) (take m later) (front true m later k within)) in
      let behind = none_pass (drop m later) (recursion_from_All (λ x. p x ≡ false) (drop m later) (rest false m later after)) in
      cut n xs
      ∙ ap (λ (ys : List X). ys ++ filter p later) ahead
      ∙ cut m later
      ∙ ap (λ (ys : List X). filter p (take m later) ++ ys) behind
      ∙ append-nil (filter p (take m later))
      ∙ kept

-- Moments in a row

pub before_later : (m n l : Moment) → comes_before n m ≡ false → comes_before n l ≡ true → comes_before m l ≡ true
before_later m n l not_back h =
    ⊎_elim
    (λ (e : rank_of m ≡ rank_of n). subst (λ (r : List ℕ). is_before r (rank_of l) ≡ true) (sym e) h)
    (λ (u : IsBefore (rank_of m) (rank_of n) ⊎ IsBefore (rank_of n) (rank_of m)).
    ⊎_elim
    (λ (b : IsBefore (rank_of m) (rank_of n)). is_before-from (rank_of m) (rank_of l) (before_trans (rank_of m) (rank_of n) (rank_of l) b (before_is (rank_of n) (rank_of l) h)))
    (λ (b : IsBefore (rank_of n) (rank_of m)). absurd (both_ways (comes_before n m) not_back (is_before-from (rank_of n) (rank_of m) b)))
    u)
    (before_connected (rank_of m) (rank_of n))

pub later_before : (l m n : Moment) → comes_before n m ≡ false → comes_before l m ≡ true → comes_before l n ≡ true
later_before l m n not_back h =
    ⊎_elim
    (λ (e : rank_of m ≡ rank_of n). subst (λ (r : List ℕ). is_before (rank_of l) r ≡ true) e h)
    (λ (u : IsBefore (rank_of m) (rank_of n) ⊎ IsBefore (rank_of n) (rank_of m)).
    ⊎_elim
    (λ (b : IsBefore (rank_of m) (rank_of n)). is_before-from (rank_of l) (rank_of n) (before_trans (rank_of l) (rank_of m) (rank_of n) (before_is (rank_of l) (rank_of m) h) b))
    (λ (b : IsBefore (rank_of n) (rank_of m)). absurd (both_ways (comes_before n m) not_back (is_before-from (rank_of n) (rank_of m) b)))
    u)
    (before_connected (rank_of m) (rank_of n))

pub never_before_itself : (m : Moment) → comes_before m m ≡ false
never_before_itself m = false_from_ne_true (comes_before m m) (λ e. before_irreflexive (rank_of m) (before_is (rank_of m) (rank_of m) e))

-- What the tests of a search by halving ask

abbrev moment_at : Entry → Moment
moment_at e = moment_of e.name

abbrev pub goes_before : Moment → Entry → Bool
goes_before m e = comes_before (moment_at e) m

abbrev pub goes_no_later : Moment → Entry → Bool
goes_no_later m e = not (comes_before m (moment_at e))

not_true : (b : Bool) → not b ≡ true → b ≡ false
not_true true h = absurd (false≢true h)
not_true false h = refl

same_or_less : (i j : ℕ) → i ≤ j → (i ≡ j) ⊎ (i < j)
same_or_less i j l = grind arith

pub parted_before : (m : Moment) (es : List Entry) → AreByMoment es → IsPartitionedBy (goes_before m) es
parted_before m es by i j d le l h =
    ⊎_elim
    (λ (e : i ≡ j). subst (λ (k : ℕ). goes_before m (get_or es k d) ≡ true) (sym e) h)
    (λ (lt : i < j). before_later (moment_at (get_or es i d)) (moment_at (get_or es j d)) m (by i j d lt l) h)
    (same_or_less i j le)

pub parted_upto : (m : Moment) (es : List Entry) → AreByMoment es → IsPartitionedBy (goes_no_later m) es
parted_upto m es by i j d le l h =
    ⊎_elim
    (λ (e : i ≡ j). subst (λ (k : ℕ). goes_no_later m (get_or es k d) ≡ true) (sym e) h)
    (λ (lt : i < j).
    ap not (false_from_ne_true (comes_before m (moment_at (get_or es i d))) (λ b. both_ways (comes_before m (moment_at (get_or es j d))) (not_true (comes_before m (moment_at (get_or es j d))) h) (later_before m (moment_at (get_or es i d)) (moment_at (get_or es j d)) (by i j d lt l) b))))
    (same_or_less i j le)

-- an end of entries by moments is by moments
pub by_moment-drop : (n : ℕ) (es : List Entry) → AreByMoment es → AreByMoment (drop n es)
by_moment-drop n es by i j d lt l =
    let e = length-drop n es in
    let P : Entry → Entry → Type 0 = λ a b. comes_before (moment_at b) (moment_at a) ≡ false in
    subst (λ (a : Entry). P a (get_or (drop n es) j d)) (sym (get_or-drop n es i d)) (subst (λ (b : Entry). P (get_or es (n + i) d) b) (sym (get_or-drop n es j d)) (by (n + i) (n + j) d (omega arith) (omega arith)))

-- The run of a moment

-- so many entries come before the moment or are of it
abbrev pub IsUpto : Moment → List Entry → ℕ → Type 0
IsUpto m = IsPartitionPoint (λ e. comes_before m (moment_of e.name) ≡ false) (λ e. comes_before m (moment_of e.name) ≡ true)

module _ (m : Moment) where
  not_at_before : (e : Entry) → comes_before (moment_at e) m ≡ true → is_at m e ≡ false
  not_at_before e h = ap (λ (b : Bool). not b && not (comes_before m (moment_at e))) h

  not_at_after : (e : Entry) → comes_before m (moment_at e) ≡ true → is_at m e ≡ false
  not_at_after e h = and_right (not (comes_before (moment_at e) m)) (not (comes_before m (moment_at e))) (ap not h)

  at_between : (e : Entry) → comes_before (moment_at e) m ≡ false → comes_before m (moment_at e) ≡ false → is_at m e ≡ true
  at_between e h k = and_from (not (comes_before (moment_at e) m)) (not (comes_before m (moment_at e))) (ap not h) (ap not k)

  pub run_is :
      (es : List Entry) (n k : ℕ)
      → n ≤ length es
      → k ≤ length (drop n es)
      → IsPartitionPoint (λ e. comes_before (moment_of e.name) m ≡ true) (λ e. comes_before (moment_of e.name) m ≡ false) es n
      → IsUpto m (drop n es) k
      → filter (is_at m) es ≡ take k (drop n es)
  run_is es n k l i before upto =
      filter_run
      (is_at m)
      es
      n
      k
      l
      i
      (λ a d low high. not_at_before (get_or es a d) (before.0 a d low high))
      (λ a d low high.
      let e = length-drop n es in
      let no_earlier = subst (λ (x : Entry). comes_before (moment_at x) m ≡ false) (sym (get_or-drop n es a d)) (before.1 (n + a) d (omega arith) (omega arith)) in
      at_between (get_or (drop n es) a d) no_earlier (upto.0 a d low high))
      (λ a d low high. not_at_after (get_or (drop n es) a d) (upto.1 a d low high))

not_false : (b : Bool) → not b ≡ false → b ≡ true
not_false true h = refl
not_false false h = absurd (false≢true (sym h))

not_back : (m n : Moment) → comes_before n m ≡ true → comes_before m n ≡ false
not_back m n h = false_from_ne_true (comes_before m n) (λ b. before_irreflexive (rank_of m) (before_trans (rank_of m) (rank_of n) (rank_of m) (before_is (rank_of m) (rank_of n) b) (before_is (rank_of n) (rank_of m) h)))

less_or_not : (i n : ℕ) → (i < n) ⊎ (n ≤ i)
less_or_not i n = grind arith

-- those before a moment, and then those up to it
pub upto_in_parts : (m : Moment) (es : List Entry) (n k : ℕ) → n ≤ length es → IsPartitionPoint (λ e. comes_before (moment_of e.name) m ≡ true) (λ e. comes_before (moment_of e.name) m ≡ false) es n → IsUpto m (drop n es) k → IsUpto m es (n + k)
upto_in_parts m es n k l before upto = (
  (λ i d low high.
      ⊎_elim
      (λ (front : i < n). not_back m (moment_at (get_or es i d)) (before.0 i d low front))
      (λ (back : n ≤ i). subst (λ (x : Entry). comes_before m (moment_at x) ≡ false) (at i d back) (upto.0 (i - n) d (omega arith) (omega arith)))
      (less_or_not i n)),
  (λ i d low high.
      let e = length-drop n es in
      subst (λ (x : Entry). comes_before m (moment_at x) ≡ true) (at i d (omega arith)) (upto.1 (i - n) d (omega arith) (omega arith))),
)
  where
    at : (i : ℕ) (d : Entry) → n ≤ i → get_or (drop n es) (i - n) d ≡ get_or es i d
    at i d back = let e : n + (i - n) ≡ i = omega arith in get_or-drop n es (i - n) d ∙ ap (λ (j : ℕ). get_or es j d) e

-- What looks at the ends of a part tell

pub before_from_ends :
    (m : Moment) (es : List Entry) (n : ℕ)
    → n ≤ length es
    → AreByMoment es
    → ((d : Entry) → 0 < length (take n es) → comes_before (moment_of (get_or (take n es) (length (take n es) - 1) d).name) m ≡ true)
    → ((d : Entry) → 0 < length (drop n es) → comes_before (moment_of (get_or (drop n es) 0 d).name) m ≡ false)
    → IsPartitionPoint (λ e. comes_before (moment_of e.name) m ≡ true) (λ e. comes_before (moment_of e.name) m ≡ false) es n
before_from_ends m es n l by last next = (
  (λ k d low high.
      let e = length-take n es in
      let len : length (take n es) ≡ n = omega arith in
      let end : get_or (take n es) (length (take n es) - 1) d ≡ get_or es (n - 1) d = ap (λ (i : ℕ). get_or (take n es) (i - 1) d) len ∙ get_or-take n es (n - 1) d (omega arith) in
      let earlier = subst (λ (x : Entry). comes_before (moment_at x) m ≡ true) end (last d (omega arith)) in
      parted_before m es by k (n - 1) d (omega arith) (omega arith) earlier),
  (λ k d low high.
      let e = length-drop n es in
      let start : get_or (drop n es) 0 d ≡ get_or es n d = get_or-drop n es 0 d ∙ ap (λ (i : ℕ). get_or es i d) (add-zero n) in
      let no_earlier = subst (λ (x : Entry). comes_before (moment_at x) m ≡ false) start (next d (omega arith)) in
      false_from_ne_true (goes_before m (get_or es k d)) (λ h. both_ways (goes_before m (get_or es n d)) no_earlier (parted_before m es by n k d low high h))),
)

-- no later entries up to one that is later
pub upto_at : (m : Moment) (es : List Entry) (n : ℕ) → AreByMoment es → ((k : ℕ) (d : Entry) → k < n → comes_before m (moment_of (get_or es k d).name) ≡ false) → ((d : Entry) → n < length es → comes_before m (moment_of (get_or es n d).name) ≡ true) → IsUpto m es n
upto_at m es n by before next = (
  (λ k d low high. before k d high),
  (λ k d low high. not_false (comes_before m (moment_at (get_or es k d))) (false_from_ne_true (goes_no_later m (get_or es k d)) (λ h. both_ways (goes_no_later m (get_or es n d)) (ap not (next d (omega arith))) (parted_upto m es by n k d low high h)))),
)
