-- How many times are below one, and which pieces have none but such times.
use Rattle.std.proofs.Common.{Contains, ◌≡◌, ◌⊎◌, ◌<◌, ◌≤◌, ◌*◌, ◌/◌, ◌-◌, ◌==◌, ℕ, zero, suc, max, List, [], ◌∷◌, Bool, true, false, cond, nat_lt, length, get_or, inl, inr, ⊎_elim, refl, sym, ap, ◌∙◌, arith}
use Rattle.std.proofs.lemmas.Bool.{cases_eq, cases_lt, eqb-true, false_from_ne_true, le-ltb, lt-ltb}
use Rattle.std.proofs.lemmas.List.{get_or_default, get_or_past}
use Rattle.std.proofs.lemmas.Grind.{get_or_default_zero}
use Rattle.mp_stamps.specs.Counts.{piece_start, number_below, pieces_below, start_of}
use Rattle.mp_stamps.specs.Rows.{pieces_of}
use Rattle.mp_stamps.proofs.Tables.{Rises, never_falls}

pub below_few : (times : List ℕ) (t : ℕ) → number_below times t ≤ length times
below_few [] t = omega arith
below_few (u ∷ us) t = pick (nat_lt u t) (number_below us t) (length us) (below_few us t)
  where
    pick : (b : Bool) (n m : ℕ) → n ≤ m → cond b (suc n) 0 ≤ suc m
    pick true n m l = omega (arith, l)
    pick false n m l = omega arith

-- a time that isn't below
pub below_most : (times : List ℕ) (t i : ℕ) → i < length times → t ≤ get_or times i 0 → number_below times t ≤ i
below_most [] t i l h = absurd (omega (arith, l))
below_most (u ∷ us) t zero l h = let e : nat_lt u t ≡ false = le-ltb u t h in rw e (omega arith)
below_most (u ∷ us) t (suc i) l h = pick (nat_lt u t) (number_below us t) (below_most us t i (omega (arith, l)) h)
  where
    pick : (b : Bool) (n : ℕ) → n ≤ i → cond b (suc n) 0 ≤ suc i
    pick true n m = omega (arith, m)
    pick false n m = omega arith

-- times that are
pub below_least : (times : List ℕ) (t i : ℕ) → i ≤ length times → ((k : ℕ) → k < i → get_or times k 0 < t) → i ≤ number_below times t
below_least times t zero l h = omega arith
below_least [] t (suc i) l h = absurd (omega (arith, l))
below_least (u ∷ us) t (suc i) l h =
    let e : nat_lt u t ≡ true = lt-ltb u t (h 0 (omega arith)) in
    let rest = below_least us t i (omega (arith, l)) (λ k m. h (suc k) (omega (arith, m))) in
    rw e (omega (arith, rest))

-- each of those before is below
pub below_before : (times : List ℕ) (t k : ℕ) → Rises times → k < number_below times t → get_or times k 0 < t
below_before times t k r l =
    ⊎_elim
    (λ (m : get_or times k 0 < t). m)
    (λ (m : t ≤ get_or times k 0). absurd (omega (arith, l, below_most times t k (omega (arith, l, below_few times t)) m)))
    (cases_lt (get_or times k 0) t)

-- The first times of pieces

past_last : (times : List ℕ) (i : ℕ) → Rises times → i < length times → get_or times i 0 < suc (get_or times (length times - 1) 0)
past_last times i r l = let m = never_falls times r i (length times - 1) (omega (arith, l)) (omega (arith, l)) in omega (arith, m)

-- a time in a piece before
pub start_after : (times : List ℕ) (i g : ℕ) → Rises times → i < length times → i / 1024 < g → get_or times i 0 < start_of times g
start_after times i zero r l m = absurd (omega (arith, m))
start_after times i (suc b) r l m =
    ⊎_elim
    (λ (n : 1024 * suc b < length times).
    let e = get_or_default times (1024 * suc b) (suc (get_or times (length times - 1) 0)) 0 n in
    let f = r i (1024 * suc b) (omega (arith, m)) n in
    omega (arith, e, f))
    (λ (n : length times ≤ 1024 * suc b).
    let e = get_or_past times (1024 * suc b) (suc (get_or times (length times - 1) 0)) n in
    let f = past_last times i r l in
    omega (arith, e, f))
    (cases_lt (1024 * suc b) (length times))

-- a time in the piece, or behind it
pub start_upto : (times : List ℕ) (i g : ℕ) → Rises times → i < length times → g ≤ i / 1024 → start_of times g ≤ get_or times i 0
start_upto times i zero r l m = omega arith
start_upto times i (suc b) r l m =
    let n : 1024 * suc b < length times = omega (arith, l, m) in
    let e = get_or_default times (1024 * suc b) (suc (get_or times (length times - 1) 0)) 0 n in
    let f = never_falls times r (1024 * suc b) i (omega (arith, m)) l in
    omega (arith, e, f)

pub start_rises : (times : List ℕ) (a b : ℕ) → Rises times → a ≤ b → start_of times a ≤ start_of times b
start_rises times zero b r l = omega arith
start_rises times (suc a) zero r l = absurd (omega (arith, l))
start_rises times (suc a) (suc b) r l =
    let past = suc (get_or times (length times - 1) 0) in
    ⊎_elim
    (λ (n : 1024 * suc b < length times).
    let e = get_or_default times (1024 * suc b) past 0 n in
    let m : 1024 * suc a < length times = omega (arith, l, n) in
    let f = get_or_default times (1024 * suc a) past 0 m in
    let g = never_falls times r (1024 * suc a) (1024 * suc b) (omega (arith, l)) n in
    omega (arith, e, f, g))
    (λ (n : length times ≤ 1024 * suc b).
    let e = get_or_past times (1024 * suc b) past n in
    ⊎_elim
    (λ (m : 1024 * suc a < length times).
    let f = get_or_default times (1024 * suc a) past 0 m in
    let g = past_last times (1024 * suc a) r m in
    omega (arith, e, f, g))
    (λ (m : length times ≤ 1024 * suc a). let f = get_or_past times (1024 * suc a) past m in omega (arith, e, f))
    (cases_lt (1024 * suc a) (length times)))
    (cases_lt (1024 * suc b) (length times))

pub start_max : (times : List ℕ) (a b : ℕ) → Rises times → start_of times (max a b) ≡ max (start_of times a) (start_of times b)
start_max times a b r =
    ⊎_elim
    (λ (l : a < b).
    let e : max a b ≡ b = omega (arith, l) in
    let f = start_rises times a b r (omega (arith, l)) in
    let g : max (start_of times a) (start_of times b) ≡ start_of times b = omega (arith, f) in
    ap (start_of times) e ∙ sym g)
    (λ (l : b ≤ a).
    let e : max a b ≡ a = omega (arith, l) in
    let f = start_rises times b a r l in
    let g : max (start_of times a) (start_of times b) ≡ start_of times a = omega (arith, f) in
    ap (start_of times) e ∙ sym g)
    (cases_lt a b)

-- The pieces below

pub pieces_few : (times : List ℕ) (t : ℕ) → pieces_below times t ≤ pieces_of (length times)
pieces_few times t = let few = below_few times t in grind (arith, few)

-- each time of theirs is below
pub pieces_before : (times : List ℕ) (t k : ℕ) → Rises times → k < length times → k < 1024 * pieces_below times t → get_or times k 0 < t
pieces_before times t k r l m = below_before times t k r (inside (cases_eq (number_below times t) (length times)))
  where
    inside : (number_below times t ≡ length times) ⊎ (number_below times t ≡ length times → ⊥) → k < number_below times t
    inside (inl e) = omega (arith, e, l)
    inside (inr n) =
        let f : (number_below times t == length times) ≡ false = false_from_ne_true _ (λ g. n (eqb-true (number_below times t) (length times) g)) in
        let is : pieces_below times t ≡ number_below times t / 1024 = rw f refl in
        omega (arith, is, m)

-- a time that isn't below, in the last piece that was given back or before
pub no_more_below : (times : List ℕ) (t g i : ℕ) → i < length times → t ≤ get_or times i 0 → i < 1024 * suc g → pieces_below times t ≤ g
no_more_below times t g i l h m =
    let most = below_most times t i l h in
    let f : (number_below times t == length times) ≡ false = false_from_ne_true _ (λ e. absurd (let x = eqb-true (number_below times t) (length times) e in omega (arith, x, most, l))) in
    let is : pieces_below times t ≡ number_below times t / 1024 = rw f refl in
    omega (arith, is, most, m)

-- what a search among the times finds
pub below_is : (times : List ℕ) (t i : ℕ) → i ≤ length times → ((k : ℕ) → k < i → get_or times k 0 < t) → (i < length times → t ≤ get_or times i 0) → i ≡ number_below times t
below_is times t i l before from =
    let least = below_least times t i l before in
    let few = below_few times t in
    ⊎_elim
    (λ (m : i < length times). let most = below_most times t i m (from m) in omega (arith, least, most))
    (λ (m : length times ≤ i). omega (arith, least, few, l, m))
    (cases_lt i (length times))

-- one of the times that lies before the start of the piece of another lies before that
pub before_start : (times : List ℕ) (t u : ℕ) → Rises times → Contains times t → t < piece_start times u → t < u
before_start times t u r c l =
    let k = c.0 in
    let inside : k < length times = c.1 in
    let there : get_or times k 0 ≡ t = sym (get_or_default_zero times k t c.1) ∙ c.2 in
    let g = pieces_below times u in
    let before : k < 1024 * g =
    ⊎_elim
    (λ (m : k / 1024 < g). omega (arith, m))
    (λ (m : g ≤ k / 1024). let s = start_upto times k g r inside m in absurd (omega (arith, s, there, l)))
    (cases_lt (k / 1024) g) in
    let h = pieces_before times u k r inside before in
    omega (arith, h, there)
