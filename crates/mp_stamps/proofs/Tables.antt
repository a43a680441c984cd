-- What a table of counts says of each location and time.
use Rattle.std.proofs.Common.{◌≡◌, ◌≢◌, ◌⊎◌, ℕ, zero, suc, ◌+◌, ◌*◌, ◌<◌, ◌≤◌, min, Bool, true, false, ◌==◌, cond, List, [], ◌∷◌, length, get_or, set, replicate, ℤ, pos, refl, sym, ap, ◌∙◌, subst, arith, ⊎_elim, inl, inr, Contains, All, Ok, Err, ◌+ℤ◌, SFits}
use Rattle.std.specs.Int.{w128}
use Rattle.std.specs.declared.result.Result.{Result}
use Rattle.std.specs.List.Sorted.{IsBinarySearchResult, IsStrictlyIncreasing}
use Rattle.std.specs.Ordering.{nat_cmp}
use Rattle.std.proofs.lemmas.Bool.{cases_eq, cases_lt, eqb-true, eq-eqb, false_from_ne_true}
use Rattle.std.proofs.lemmas.Grind.{get_or_default_zero}
use Rattle.std.proofs.lemmas.List.{get_or_default, get_or_past, get_or-replicate, get_or-set_same, get_or-set_other, length-replicate, length-set}
use Rattle.std.proofs.lemmas.List.Elements.{All-get_or, All-set}
use Rattle.std.proofs.lemmas.List.Kept.{AllPairs-from_increasing}
use Rattle.std.proofs.lemmas.List.Sorted.{searched}
use Rattle.mp_names.specs.declared.locations.Frontier.TheVariants.{At, Done}
use Rattle.mp_names.specs.declared.locations.Loc.{Loc}
use Rattle.mp_names.specs.declared.locations.Loc.TheVariants.{Ctl, CtlMail, Source, Route, Mail, Move, State, Host, OutRoute, OutMail}
use Rattle.mp_names.specs.Frontiers.{IsFrontierOf, IsQuiet}
use Rattle.mp_names.specs.Limits.{most_stages}
use Rattle.mp_names.specs.Locations.{IsLocation, Reaches}
use Rattle.mp_stamps.specs.Counts.{CountTable, IsCounted, IsFirstFor, IsRowFor, IsTable, count_in, count_of, low_of, row_of}
use Rattle.mp_stamps.specs.Places.{place_of, places_of}
use Rattle.mp_stamps.specs.Rows.{IsFirstOpen, count_there, pieces_of}

-- Places

pub place_once : (a b : Loc) → place_of a ≡ place_of b → a ≡ b
place_once a b e = grind arith

pub place_inside : (stages : ℕ) (a : Loc) → IsLocation stages a → place_of a < places_of stages
place_inside stages Ctl h = omega arith
place_inside stages CtlMail h = omega arith
place_inside stages Source h = omega arith
place_inside stages OutRoute h = omega arith
place_inside stages OutMail h = omega arith
place_inside stages (Route j) h = omega arith
place_inside stages (Mail j) h = omega arith
place_inside stages (Move j) h = omega arith
place_inside stages (State j) h = omega arith
place_inside stages (Host j) h = omega arith

pub location_placed : (stages : ℕ) (a : Loc) → place_of a < places_of stages → IsLocation stages a
location_placed stages Ctl h = tt
location_placed stages CtlMail h = tt
location_placed stages Source h = tt
location_placed stages OutRoute h = tt
location_placed stages OutMail h = tt
location_placed stages (Route j) h = omega arith
location_placed stages (Mail j) h = omega arith
location_placed stages (Move j) h = omega arith
location_placed stages (State j) h = omega arith
location_placed stages (Host j) h = omega arith

pub location_later : (m n : ℕ) (a : Loc) → m ≤ n → IsLocation m a → IsLocation n a
location_later m n a l h = let p = place_inside m a h in location_placed n a (omega arith)

-- Times that rise

abbrev pub Rises : List ℕ → Type 0
Rises times = (i j : ℕ) → i < j → j < length times → get_or times i 0 < get_or times j 0

pub rises : (times : List ℕ) → IsStrictlyIncreasing times → Rises times
rises times h i j l m = AllPairs-from_increasing times h i j 0 l m

pub never_falls : (times : List ℕ) → Rises times → (i j : ℕ) → i ≤ j → j < length times → get_or times i 0 ≤ get_or times j 0
never_falls times h i j l m =
    ⊎_elim
    (λ (k : i < j). let r = h i j k m in omega arith)
    (λ (k : j ≤ i). let e : i ≡ j = omega arith in rw e (omega arith))
    (cases_lt i j)

rest_rises : (u : ℕ) (times : List ℕ) → Rises (u ∷ times) → Rises times
rest_rises u times h i j l m = h (suc i) (suc j) (omega arith) (omega arith)

-- no time is this one
abbrev pub HasNot : List ℕ → ℕ → Type 0
HasNot times t = (k : ℕ) → k < length times → get_or times k 0 ≢ t

pub contains_there : (times : List ℕ) (t k : ℕ) → k < length times → get_or times k 0 ≡ t → Contains times t
contains_there times t k l e = (k, l, get_or_default_zero times k t l ∙ e)

pub has_not_contained : (times : List ℕ) (t : ℕ) → HasNot times t → Contains times t → ⊥
has_not_contained times t h c = h c.0 c.1 (sym (get_or_default_zero times c.0 t c.1) ∙ c.2)

-- a time is one of them, or none of them
pub find_time : (times : List ℕ) (t : ℕ) → ((k : ℕ) × (k < length times) × (get_or times k 0 ≡ t)) ⊎ HasNot times t
find_time [] t = inr (λ k l. absurd (omega arith))
find_time (u ∷ us) t = ⊎_elim (λ (e : u ≡ t). inl (0, omega arith, e)) (λ (n : u ≢ t). later n (find_time us t)) (cases_eq u t)
  where
    none : u ≢ t → HasNot us t → HasNot (u ∷ us) t
    none n h zero l = n
    none n h (suc k) l = h k (omega arith)

    later : u ≢ t → ((k : ℕ) × (k < length us) × (get_or us k 0 ≡ t)) ⊎ HasNot us t → ((k : ℕ) × (k < length (u ∷ us)) × (get_or (u ∷ us) k 0 ≡ t)) ⊎ HasNot (u ∷ us) t
    later n r = ⊎_elim (λ (f : (k : ℕ) × (k < length us) × (get_or us k 0 ≡ t)). inl (suc f.0, (let l : f.0 < length us = f.1 in omega arith), f.2)) (λ (h : HasNot us t). inr (none n h)) r

-- Counts by time

pub count_of_nil : (times : List ℕ) (t : ℕ) → count_of times [] t ≡ pos 0
count_of_nil [] t = refl
count_of_nil (u ∷ us) t = refl

pub count_of_there : (times : List ℕ) (row : List ℤ) (k : ℕ) → Rises times → k < length times → length times ≤ length row → count_of times row (get_or times k 0) ≡ count_there row k
count_of_there [] row k h l e = absurd (omega arith)
count_of_there (u ∷ us) [] k h l e = absurd (omega arith)
count_of_there (u ∷ us) (n ∷ ns) zero h l e = let f = eq-eqb u u refl in rw f refl
count_of_there (u ∷ us) (n ∷ ns) (suc k) h l e =
    let m = h 0 (suc k) (omega arith) l in
    let f : (u == get_or us k 0) ≡ false = false_from_ne_true (u == get_or us k 0) (λ g. let s = eqb-true u (get_or us k 0) g in absurd (omega arith)) in
    rw f (count_of_there us ns k (rest_rises u us h) (omega arith) (omega arith))

pub count_of_none : (times : List ℕ) (row : List ℤ) (t : ℕ) → HasNot times t → count_of times row t ≡ pos 0
count_of_none [] row t h = refl
count_of_none (u ∷ us) [] t h = refl
count_of_none (u ∷ us) (n ∷ ns) t h =
    let f : (u == t) ≡ false = false_from_ne_true (u == t) (λ g. h 0 (omega arith) (eqb-true u t g)) in
    rw f (count_of_none us ns t (λ k l. h (suc k) (omega arith)))

-- another count at an index leaves the other times' as they were
pub count_of_set : (times : List ℕ) (row : List ℤ) (i : ℕ) (v : ℤ) (t : ℕ) → get_or times i 0 ≢ t → i < length times → count_of times (set row i v) t ≡ count_of times row t
count_of_set [] row i v t h l = absurd (omega arith)
count_of_set (u ∷ us) [] i v t h l = refl
count_of_set (u ∷ us) (n ∷ ns) zero v t h l = let f : (u == t) ≡ false = false_from_ne_true (u == t) (λ g. h (eqb-true u t g)) in rw f refl
count_of_set (u ∷ us) (n ∷ ns) (suc i) v t h l = ap (λ (z : ℤ). cond (u == t) n z) (count_of_set us ns i v t h (omega arith))

pub count_of_zeros : (times : List ℕ) (n : ℕ) (t : ℕ) → count_of times (replicate n (pos 0)) t ≡ pos 0
count_of_zeros [] n t = refl
count_of_zeros (u ∷ us) zero t = refl
count_of_zeros (u ∷ us) (suc n) t = pick (u == t) (count_of_zeros us n t)
  where
    pick : (b : Bool) → count_of us (replicate n (pos 0)) t ≡ pos 0 → cond b (pos 0) (count_of us (replicate n (pos 0)) t) ≡ pos 0
    pick true h = refl
    pick false h = h

-- Counts by location and time

pub row_there : (table : CountTable) (a : Loc) → IsTable table → place_of a < length table.rows → IsRowFor (length table.times) (row_of table a)
row_there table a h l = All-get_or (IsRowFor (length table.times)) table.rows (place_of a) [] l h.each_time

-- a row has a count of each time
pub long_row : (n : ℕ) (row : List ℤ) → IsRowFor n row → n < length row
long_row n row h = omega (arith, h.long)

pub row_length : (table : CountTable) (a : Loc) → IsTable table → place_of a < length table.rows → length table.times ≤ length (row_of table a)
row_length table a h l = let r = long_row (length table.times) (row_of table a) (row_there table a h l) in omega (arith, r)

-- another count of one of the times
pub row_set : (n : ℕ) (row : List ℤ) (i : ℕ) (v : ℤ) → i < n → IsRowFor n row → IsRowFor n (set row i v)
row_set n row i v l h = record {
  long = length-set row i v ∙ h.long;
  no_more = λ k m. get_or-set_other row i k v (pos 0) (λ e. absurd (omega (arith, l, m, e))) ∙ h.no_more k m;
}

pub no_row : (table : CountTable) (a : Loc) (t : ℕ) → length table.rows ≤ place_of a → count_in table a t ≡ pos 0
no_row table a t l = ap (λ (row : List ℤ). count_of table.times row t) (get_or_past table.rows (place_of a) [] l) ∙ count_of_nil table.times t

pub no_time : (table : CountTable) (a : Loc) (t : ℕ) → HasNot table.times t → count_in table a t ≡ pos 0
no_time table a t h = count_of_none table.times (row_of table a) t h

pub no_count : (table : CountTable) (a : Loc) (t : ℕ) → IsTable table → (IsLocation table.stages a × Contains table.times t → ⊥) → count_in table a t ≡ pos 0
no_count table a t h n =
    ⊎_elim
    (λ (p : place_of a < length table.rows).
    ⊎_elim
    (λ (f : (k : ℕ) × (k < length table.times) × (get_or table.times k 0 ≡ t)). absurd (n (location_placed table.stages a (omega (arith, p, h.each_place)), contains_there table.times t f.0 f.1 f.2)))
    (λ (m : HasNot table.times t). no_time table a t m)
    (find_time table.times t))
    (λ (p : length table.rows ≤ place_of a). no_row table a t p)
    (cases_lt (place_of a) (length table.rows))

-- the count at an index
pub count_in_there : (table : CountTable) (a : Loc) (k : ℕ) → IsTable table → place_of a < length table.rows → k < length table.times → count_in table a (get_or table.times k 0) ≡ count_there (row_of table a) k
count_in_there table a k h l m = count_of_there table.times (row_of table a) k (rises table.times h.rising) m (row_length table a h l)

-- Frontiers

module _ (table : CountTable) (loc : Loc) (first : ℕ) (h : IsTable table) (is : IsFirstFor table loc (places_of table.stages) first) where
  quiet_there : (a : Loc) (k : ℕ) → Reaches a loc → k < first → k < length table.times → count_in table a (get_or table.times k 0) ≡ pos 0
  quiet_there a k r l m =
      ⊎_elim
      (λ (p : place_of a < length table.rows). count_in_there table a k h p m ∙ is.quiet a k (omega (arith, p, h.each_place)) r l)
      (λ (p : length table.rows ≤ place_of a). no_row table a (get_or table.times k 0) p)
      (cases_lt (place_of a) (length table.rows))

  quiet_at : (t : ℕ) → ((k : ℕ) → k < length table.times → get_or table.times k 0 ≡ t → k < first) → IsQuiet (count_in table) loc t
  quiet_at t below a r =
      ⊎_elim
      (λ (f : (k : ℕ) × (k < length table.times) × (get_or table.times k 0 ≡ t)). subst (λ (u : ℕ). count_in table a u ≡ pos 0) f.2 (quiet_there a f.0 r (below f.0 f.1 f.2) f.1))
      (λ (n : HasNot table.times t). no_time table a t n)
      (find_time table.times t)

  pub frontier_at : first < length table.times → IsFrontierOf (count_in table) loc (At (get_or table.times first 0))
  frontier_at l =
      let o = is.open_there l in (
        (λ q. o.3 (sym (count_in_there table o.0 first h (let m : place_of o.0 < places_of table.stages = o.1 in omega (arith, m, h.each_place)) l) ∙ q o.0 o.2)),
        (λ u m. quiet_at u (λ k b e. ⊎_elim (λ (p : k < first). p) (λ (p : first ≤ k). let r = never_falls table.times (rises table.times h.rising) first k p b in absurd (omega arith)) (cases_lt k first))),
      )

  pub frontier_done : length table.times ≤ first → IsFrontierOf (count_in table) loc Done
  frontier_done l = λ u. quiet_at u (λ k b e. omega arith)

-- One more place in the search for a location's first open time

module _ (table : CountTable) (loc : Loc) (n first : ℕ) (is : IsFirstFor table loc n first) where
  -- a place whose location can't result in anything there
  pub same_first_for : (here : Loc) → ((a : Loc) → place_of a ≡ n → a ≡ here) → (Reaches here loc → ⊥) → IsFirstFor table loc (n + 1) first
  same_first_for here only not = record {
    within = is.within;
    quiet = λ a k l r m.
        ⊎_elim
        (λ (p : place_of a < n). is.quiet a k p r m)
        (λ (p : n ≤ place_of a). absurd (not (subst (λ (b : Loc). Reaches b loc) (only a (omega arith)) r)))
        (cases_lt (place_of a) n);
    open_there = is.open_there;
  }

  -- a place whose location could
  pub next_first_for :
      (here : Loc) (row : List ℤ) (own least : ℕ)
      → IsTable table
      → n < places_of table.stages
      → ((a : Loc) → place_of a ≡ n → a ≡ here)
      → place_of here ≡ n
      → Reaches here loc
      → row ≡ get_or table.rows n row
      → IsFirstOpen row own
      → ((least ≡ first) × (first < own)) ⊎ ((least ≡ own) × (own ≤ first))
      → IsFirstFor table loc (n + 1) least
  next_first_for here row own least h l only placed r e o m =
      let there : row ≡ row_of table here = e ∙ get_or_default table.rows n row [] (omega (arith, l, h.each_place)) ∙ ap (λ (p : ℕ). get_or table.rows p []) (sym placed) in
      let long : length table.times ≤ length row = omega (arith, ap (λ (xs : List ℤ). length xs) there, row_length table here h (omega (arith, l, placed, h.each_place))) in
      record {
        within = ⊎_elim (λ (p : (least ≡ first) × (first < own)). omega (arith, p.0, is.within)) (λ (p : (least ≡ own) × (own ≤ first)). omega (arith, p.0, p.1, is.within)) m;
        quiet = λ a k b s q.
            let below : (k < first) × (k < own) = ⊎_elim (λ (p : (least ≡ first) × (first < own)). (omega (arith, p.0, p.1), omega (arith, p.0, p.1))) (λ (p : (least ≡ own) × (own ≤ first)). (omega (arith, p.0, p.1), omega (arith, p.0, p.1))) m in
            ⊎_elim
            (λ (p : place_of a < n). is.quiet a k p s below.0)
            (λ (p : n ≤ place_of a). subst (λ (b : Loc). count_there (row_of table b) k ≡ pos 0) (sym (only a (omega arith))) (subst (λ (xs : List ℤ). count_there xs k ≡ pos 0) there (o.quiet k below.1)))
            (cases_lt (place_of a) n);
        open_there = λ q.
            ⊎_elim
            (λ (p : (least ≡ first) × (first < own)).
            let f = is.open_there (omega (arith, p.0)) in
            (f.0, f.1, f.2, (λ z. f.3 (subst (λ (i : ℕ). count_there (row_of table f.0) i ≡ pos 0) p.0 z))))
            (λ (p : (least ≡ own) × (own ≤ first)).
            (here, omega (arith, placed), r, (λ z. o.open_there (omega (arith, p.0, q, long)) (subst (λ (xs : List ℤ). count_there xs own ≡ pos 0) (sym there) (subst (λ (i : ℕ). count_there (row_of table here) i ≡ pos 0) p.0 z)))))
            m;
      }

-- A count that is changed

module _ (table : CountTable) (loc : Loc) (i : ℕ) (v : ℤ) (h : IsTable table) (inside : place_of loc < length table.rows) (l : i < length table.times) where
  abbrev pub changed : CountTable
  changed = record table { rows = set table.rows (place_of loc) (set (row_of table loc) i v) }

  pub changed_is_table : IsTable changed
  changed_is_table = record {
    few_stages = h.few_stages;
    rising = h.rising;
    each_place = length-set table.rows (place_of loc) (set (row_of table loc) i v) ∙ h.each_place;
    each_time = All-set (IsRowFor (length table.times)) table.rows (place_of loc) (set (row_of table loc) i v) (row_set (length table.times) (row_of table loc) i v l (row_there table loc h inside)) h.each_time;
    each_low = h.each_low ∙ sym (length-set table.rows (place_of loc) (set (row_of table loc) i v));
  }

  pub changed_here : count_in changed loc (get_or table.times i 0) ≡ v
  changed_here =
      let there : row_of changed loc ≡ set (row_of table loc) i v = get_or-set_same table.rows (place_of loc) (set (row_of table loc) i v) [] inside in
      count_in_there changed loc i changed_is_table (omega (arith, inside, length-set table.rows (place_of loc) (set (row_of table loc) i v))) l
      ∙ ap (λ (row : List ℤ). count_there row i) there
      ∙ get_or-set_same (row_of table loc) i v (pos 0) (omega (arith, l, row_length table loc h inside))

  pub changed_others : (at : Loc) (t : ℕ) → ((at ≡ loc) × (t ≡ get_or table.times i 0) → ⊥) → count_in changed at t ≡ count_in table at t
  changed_others at t n =
      ⊎_elim
      (λ (e : place_of at ≡ place_of loc).
      let same : at ≡ loc = place_once at loc e in
      let there : row_of changed at ≡ set (row_of table loc) i v = ap (λ (p : ℕ). get_or changed.rows p []) e ∙ get_or-set_same table.rows (place_of loc) (set (row_of table loc) i v) [] inside in
      ap (λ (row : List ℤ). count_of table.times row t) there
      ∙ count_of_set table.times (row_of table loc) i v t (λ f. n (same, sym f)) l
      ∙ ap (λ (b : Loc). count_in table b t) (sym same))
      (λ (m : place_of at ≢ place_of loc). ap (λ (row : List ℤ). count_of table.times row t) (get_or-set_other table.rows (place_of loc) (place_of at) (set (row_of table loc) i v) [] m))
      (cases_eq (place_of at) (place_of loc))

-- the lesser of two

pub lesser_of : (least a b : ℕ) → least ≡ min a b → ((least ≡ a) × (a < b)) ⊎ ((least ≡ b) × (b ≤ a))
lesser_of least a b e =
    ⊎_elim
    (λ (l : a < b). inl (omega (arith, e), l))
    (λ (l : b ≤ a). inr (omega (arith, e), l))
    (cases_lt a b)

-- Counts that are all 0

pub no_counts : (table : CountTable) (n : ℕ) → All (λ (row : List ℤ). row ≡ replicate n (pos 0)) table.rows → (a : Loc) (t : ℕ) → count_in table a t ≡ pos 0
no_counts table n h a t =
    ⊎_elim
    (λ (l : place_of a < length table.rows). ap (λ (row : List ℤ). count_of table.times row t) (All-get_or (λ (row : List ℤ). row ≡ replicate n (pos 0)) table.rows (place_of a) [] l h) ∙ count_of_zeros table.times n t)
    (λ (l : length table.rows ≤ place_of a). no_row table a t l)
    (cases_lt (place_of a) (length table.rows))

pub zero_table : (stages : ℕ) (times low : List ℕ) (rows : List (List ℤ)) → stages ≤ most_stages → IsStrictlyIncreasing times → length rows ≡ places_of stages → length low ≡ length rows → All (λ (row : List ℤ). row ≡ replicate (1024 * pieces_of (length times)) (pos 0)) rows → IsTable (record { stages = stages; times = times; rows = rows; low = low })
zero_table stages times low rows few rising places lows zeros = record {
  few_stages = few;
  rising = rising;
  each_place = places;
  each_time = λ i row l.
      let z = zeros i row l in
      record {
        long = ap (λ (xs : List ℤ). length xs) z ∙ length-replicate (1024 * pieces_of (length times)) (pos 0);
        no_more = λ k m. ap (λ (xs : List ℤ). count_there xs k) z ∙ zero_there (1024 * pieces_of (length times)) k;
      };
  each_low = lows;
}
  where
    zero_there : (n k : ℕ) → get_or (replicate n (pos 0)) k (pos 0) ≡ pos 0
    zero_there n k = ⊎_elim (λ (l : k < n). get_or-replicate n k (pos 0) (pos 0) l) (λ (l : n ≤ k). get_or_past (replicate n (pos 0)) k (pos 0) (omega (arith, l, length-replicate n (pos 0)))) (cases_lt k n)

-- What a search among the times finds

pub searched_in : (xs ys : List ℕ) (t : ℕ) (r : Result ℕ ℕ) → xs ≡ ys → IsBinarySearchResult (λ u. nat_cmp u t) xs r → IsBinarySearchResult (λ u. nat_cmp u t) ys r
searched_in xs ys t r e h = subst (λ (zs : List ℕ). IsBinarySearchResult (λ u. nat_cmp u t) zs r) e h

module _ (table : CountTable) (t : ℕ) (h : IsTable table) where
  rising : Rises table.times
  rising = rises table.times h.rising

  abbrev pub Searched : Result ℕ ℕ → Type 0
  Searched r = IsBinarySearchResult (λ u. nat_cmp u t) table.times r

  pub found_time : (r : Result ℕ ℕ) (i : ℕ) → Searched r → r ≡ Ok i → (i < length table.times) × (get_or table.times i 0 ≡ t)
  found_time r i s e = searched table.times t (Ok i) (subst Searched e s) (never_falls table.times rising)

  pub missed_time : (r : Result ℕ ℕ) (i : ℕ) → Searched r → r ≡ Err i → HasNot table.times t
  missed_time r i s e =
      let m = searched table.times t (Err i) (subst Searched e s) (never_falls table.times rising) in
      λ k l f. ⊎_elim (λ (b : k < i). let n = m.1 k b in omega arith) (λ (b : i ≤ k). let n = m.2 k b l in omega arith) (cases_lt k i)

  -- the count that stands there
  pub count_read : (loc : Loc) (r : Result ℕ ℕ) (i : ℕ) (row : List ℤ) (z : ℤ) → place_of loc < length table.rows → Searched r → r ≡ Ok i → row ≡ get_or table.rows (place_of loc) row → z ≡ count_there row i → z ≡ count_in table loc t
  count_read loc r i row z p s e f g =
      let here = found_time r i s e in
      let own : row ≡ row_of table loc = f ∙ get_or_default table.rows (place_of loc) row [] p in
      g
      ∙ ap (λ (xs : List ℤ). count_there xs i) own
      ∙ sym (count_in_there table loc i h p here.0)
      ∙ ap (λ (u : ℕ). count_in table loc u) here.1

-- What is added to a count

module _ (inside now : CountTable) (t : ℕ) (h : IsTable inside) (is : inside ≡ now) (loc : Loc) (p : ℕ) (at_place : p ≡ place_of loc) (l : p < length inside.rows) (r : Result ℕ ℕ) (i : ℕ) (s : Searched inside t h r) (e : r ≡ Ok i) (row : List ℤ) (own : row ≡ get_or inside.rows p row) (plus by : ℤ) (same : plus ≡ by) where
  placed : place_of loc < length inside.rows
  placed = subst (λ (n : ℕ). n < length inside.rows) at_place l

  is_row : row ≡ row_of inside loc
  is_row = own ∙ get_or_default inside.rows p row [] l ∙ ap (λ (n : ℕ). get_or inside.rows n []) at_place

  was : count_there row i ≡ count_in now loc t
  was =
      let here = found_time inside t h r i s e in
      ap (λ (xs : List ℤ). count_there xs i) is_row
      ∙ sym (count_in_there inside loc i h placed here.0)
      ∙ ap (λ (u : ℕ). count_in inside loc u) here.1
      ∙ ap (λ (table : CountTable). count_in table loc t) is

  pub is_counted : low_of inside loc ≤ t → IsCounted now loc t
  is_counted kept =
      let here = found_time inside t h r i s e in
      let counted : IsCounted inside loc t = (location_placed inside.stages loc (omega (arith, placed, h.each_place)), contains_there inside.times t i here.0 here.1, kept) in
      subst (λ (table : CountTable). IsCounted table loc t) is counted

  pub added_fits : low_of inside loc ≤ t → (IsCounted now loc t → SFits w128 (count_in now loc t +ℤ by)) → SFits w128 (count_there row i +ℤ plus)
  added_fits kept fits = rw (was, same) (fits (is_counted kept))

  module _ (new : List ℤ) (changes : new ≡ set row i (count_there row i +ℤ plus)) where
    abbrev after : CountTable
    after = record inside { rows = set inside.rows p new }

    after_is : after ≡ changed inside loc i (count_there row i +ℤ plus) h placed (found_time inside t h r i s e).0
    after_is = ap (λ (xs : List ℤ). record inside { rows = set inside.rows p xs }) (changes ∙ ap (λ (xs : List ℤ). set xs i (count_there row i +ℤ plus)) is_row) ∙ ap (λ (n : ℕ). record inside { rows = set inside.rows n (set (row_of inside loc) i (count_there row i +ℤ plus)) }) at_place

    pub added_here : count_in after loc t ≡ count_in now loc t +ℤ by
    added_here =
        let here = found_time inside t h r i s e in
        ap (λ (table : CountTable). count_in table loc t) after_is
        ∙ ap (λ (u : ℕ). count_in (changed inside loc i (count_there row i +ℤ plus) h placed here.0) loc u) (sym here.1)
        ∙ changed_here inside loc i (count_there row i +ℤ plus) h placed here.0
        ∙ ap (λ (z : ℤ). z +ℤ plus) was
        ∙ ap (λ (z : ℤ). count_in now loc t +ℤ z) same

    pub added_others : (at : Loc) (u : ℕ) → ((at ≡ loc) × (u ≡ t) → ⊥) → count_in after at u ≡ count_in now at u
    added_others at u n =
        let here = found_time inside t h r i s e in
        ap (λ (table : CountTable). count_in table at u) after_is
        ∙ changed_others inside loc i (count_there row i +ℤ plus) h placed here.0 at u (λ f. n (f.0, f.1 ∙ here.1))
        ∙ ap (λ (table : CountTable). count_in table at u) is

-- a count is kept of a location at a time; or there never was one; or it was given back
pub counted_or_gone : (table : CountTable) (at : Loc) (t : ℕ) → IsCounted table at t ⊎ ((IsLocation table.stages at × Contains table.times t → ⊥) ⊎ (IsLocation table.stages at × Contains table.times t × (t < low_of table at)))
counted_or_gone table at t =
    ⊎_elim
    (λ (p : place_of at < places_of table.stages).
    ⊎_elim
    (λ (f : (k : ℕ) × (k < length table.times) × (get_or table.times k 0 ≡ t)).
    let here = location_placed table.stages at p in
    let there = contains_there table.times t f.0 f.1 f.2 in
    ⊎_elim (λ (l : t < low_of table at). inr (inr (here, there, l))) (λ (l : low_of table at ≤ t). inl (here, there, l)) (cases_lt t (low_of table at)))
    (λ (m : HasNot table.times t). inr (inl (λ c. has_not_contained table.times t m c.1)))
    (find_time table.times t))
    (λ (p : places_of table.stages ≤ place_of at). inr (inl (λ c. let q = place_inside table.stages at c.0 in absurd (omega (arith, p, q)))))
    (cases_lt (place_of at) (places_of table.stages))

-- a count is kept of a location at a time, or isn't
pub counted_or_not : (table : CountTable) (at : Loc) (t : ℕ) → IsCounted table at t ⊎ (IsCounted table at t → ⊥)
counted_or_not table at t =
    ⊎_elim
    (λ (c : IsCounted table at t). inl c)
    (λ (h : (IsLocation table.stages at × Contains table.times t → ⊥) ⊎ (IsLocation table.stages at × Contains table.times t × (t < low_of table at))).
    inr (λ c.
    ⊎_elim
    (λ (n : IsLocation table.stages at × Contains table.times t → ⊥). n (c.0, c.1))
    (λ (g : IsLocation table.stages at × Contains table.times t × (t < low_of table at)). let l : t < low_of table at = g.2 in let k : low_of table at ≤ t = c.2 in absurd (omega (arith, l, k)))
    h))
    (counted_or_gone table at t)
