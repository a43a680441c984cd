-- Numbers of groups by time: how one more is added.
use Rattle.std.proofs.Common.{◌≡◌, ◌≢◌, ℕ, zero, suc, ◌+◌, ◌<◌, ◌≤◌, ◌==◌, nat_lt, Bool, true, false, List, [], ◌∷◌, ◌++◌, AllPairs, drop, get_or, insert, length, set, take, refl, sym, ap, ◌∙◌, subst, ◌⊎◌, ⊎_elim, arith}
use Rattle.std.specs.List.Sorted.{IsPartitionedBy, IsPartitionPoint}
use Rattle.std.proofs.lemmas.Bool.{cases_order, eq-eqb, le-ltb, lt-ltb, ltb-false, ltb-true, ne_eqb}
use Rattle.std.proofs.lemmas.List.{drop_all, set_split}
use Rattle.std.proofs.Math.Seq.{drop-cons}
use Rattle.mp_host_states.specs.Numbers.{with_one}

-- the number is of an earlier time
abbrev pub is_earlier : ℕ → ℕ × ℕ → Bool
is_earlier t n = nat_lt n.0 t

-- no earlier time stands behind a later one
pub parted : (ns : List (ℕ × ℕ)) (t : ℕ) → AllPairs (λ m n. m.0 < n.0) ns → IsPartitionedBy (is_earlier t) ns
parted ns t rise i j d l m e =
    let early : (get_or ns j d).0 < t = ltb-true (get_or ns j d).0 t e in
    lt-ltb (get_or ns i d).0 t (below i j early l m)
  where
    below : (i j : ℕ) → (get_or ns j d).0 < t → i ≤ j → j < length ns → (get_or ns i d).0 < t
    below i j early l m =
        ⊎_elim
        (λ (same : i ≡ j). subst (λ (k : ℕ). (get_or ns k d).0 < t) (sym same) early)
        (λ (apart : (i < j) ⊎ (j < i)). ⊎_elim (λ (k : i < j). let less = rise i j d k m in omega arith) (λ (k : j < i). absurd (omega arith)) apart)
        (cases_order i j)

module _ (t : ℕ) (d : ℕ × ℕ) where
  -- one more stands behind all earlier ones
  behind : (ns : List (ℕ × ℕ)) (at : ℕ) → at ≤ length ns → ((i : ℕ) → i < at → is_earlier t (get_or ns i d) ≡ true) → with_one ns t ≡ take at ns ++ with_one (drop at ns) t
  behind ns zero l early = refl
  behind [] (suc at) l early = absurd (omega arith)
  behind (n ∷ ns) (suc at) l early =
      let first : n.0 < t = ltb-true n.0 t (early 0 (omega arith)) in
      let not_later : nat_lt t n.0 ≡ false = le-ltb t n.0 (omega arith) in
      let other : (t == n.0) ≡ false = ne_eqb t n.0 (λ e. omega arith) in
      rw (not_later, other) (ap (λ (ms : List (ℕ × ℕ)). n ∷ ms) (behind ns at (omega arith) (λ i m. early (suc i) (omega arith))))

module _ (t : ℕ) (ns : List (ℕ × ℕ)) (at : ℕ) (inside : at ≤ length ns) (point : IsPartitionPoint (λ n. is_earlier t n ≡ true) (λ n. is_earlier t n ≡ false) ns at) where
  front : with_one ns t ≡ take at ns ++ with_one (drop at ns) t
  front = behind t (0, 0) ns at inside (λ i l. point.0 i (0, 0) (omega arith) l)

  not_earlier : (m : ℕ × ℕ) → at < length ns → m ≡ get_or ns at m → t ≤ m.0
  not_earlier m l is = let here = ltb-false (get_or ns at m).0 t (point.1 at m (omega arith) l) in let same : m.0 ≡ (get_or ns at m).0 = ap (λ (n : ℕ × ℕ). n.0) is in omega arith

  -- where the number there is of the time one is added to it
  pub one_more : (m : ℕ × ℕ) → at < length ns → m ≡ get_or ns at m → m.0 ≡ t → set ns at (m.0, m.1 + 1) ≡ with_one ns t
  one_more m l is e =
      let here : drop at ns ≡ m ∷ drop (suc at) ns = drop-cons ns at m l ∙ ap (λ (n : ℕ × ℕ). n ∷ drop (suc at) ns) (sym is) in
      let not_later : nat_lt t m.0 ≡ false = le-ltb t m.0 (omega arith) in
      let same : (t == m.0) ≡ true = eq-eqb t m.0 (sym e) in
      rw (front, here, not_later, same) (set_split ns at (m.0, m.1 + 1) l)

  -- else there is a new number
  pub new_number : (m : ℕ × ℕ) → at < length ns → m ≡ get_or ns at m → m.0 ≢ t → insert ns at (t, 1) ≡ with_one ns t
  new_number m l is e =
      let here : drop at ns ≡ m ∷ drop (suc at) ns = drop-cons ns at m l ∙ ap (λ (n : ℕ × ℕ). n ∷ drop (suc at) ns) (sym is) in
      let least : t ≤ m.0 = not_earlier m l is in
      let later : nat_lt t m.0 ≡ true = lt-ltb t m.0 (omega arith) in
      rw (front, here, later) refl

  pub last_number : length ns ≤ at → insert ns at (t, 1) ≡ with_one ns t
  last_number l =
      let none : drop at ns ≡ [] = drop_all at ns l in
      rw (front, none) refl
