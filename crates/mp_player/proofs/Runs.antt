-- The names of one time that stand first in a list.
use Rattle.std.proofs.Common.{◌≡◌, ℕ, zero, suc, ◌+◌, ◌<◌, ◌≤◌, min, ◌==◌, ◌&&◌, Bool, true, false, cond, List, [], ◌∷◌, length, filter, take, refl, sym, ap, ◌∙◌, ⊎_elim, arith}
use Rattle.std.proofs.lemmas.Bool.{false≢true, false_from_ne_true, eqb-true, eq-eqb, cases_lt}
use Rattle.std.proofs.lemmas.List.{length-take, take_all}
use Rattle.std.proofs.lemmas.List.Sums.{prefix_len-le-length}
use Rattle.std.specs.List.{prefix_len}
use Rattle.mp_names.specs.declared.names.Name.{Name}
use Rattle.mp_names.specs.declared.names.Name.TheVariants.{Rec}
use Rattle.mp_names.specs.Names.{In, IsAscending, IsBefore, Less, is_rec}
use Rattle.mp_names.specs.Outlines.{Outline, time_of}
use Rattle.mp_names.proofs.Lists.{In_here, In_later}
use Rattle.mp_chart.specs.declared.entry.Entry.{Entry}
use Rattle.mp_chart.specs.Entries.{entries_of}
use Rattle.mp_standing.proofs.Holding.{AreRecords}

-- two filters, one after the other
pub filter_twice : (p q : Name → Bool) (xs : List Name) → filter q (filter p xs) ≡ filter (λ y. p y && q y) xs
filter_twice p q [] = refl
filter_twice p q (x ∷ xs) = pick (filter_twice p q xs) (p x)
  where
    pick : filter q (filter p xs) ≡ filter (λ y. p y && q y) xs → (b : Bool) → filter q (cond b (x ∷ filter p xs) (filter p xs)) ≡ cond (b && q x) (x ∷ filter (λ y. p y && q y) xs) (filter (λ y. p y && q y) xs)
    pick rest true = ap (λ (l : List Name). cond (q x) (x ∷ l) l) rest
    pick rest false = rest

none_passes : (q : Name → Bool) (xs : List Name) → ((y : Name) → In y xs → q y ≡ false) → filter q xs ≡ []
none_passes q [] h = refl
none_passes q (x ∷ xs) h = ap (λ (b : Bool). cond b (x ∷ filter q xs) (filter q xs)) (h x (In_here x xs)) ∙ none_passes q xs (λ y i. h y (In_later y x xs i))

-- the first of the first are the first
take_shorter : (n m : ℕ) (xs : List Name) → n ≤ m → take n (take m xs) ≡ take n xs
take_shorter zero m xs l = refl
take_shorter (suc n) zero xs l = absurd (omega arith)
take_shorter (suc n) (suc m) [] l = refl
take_shorter (suc n) (suc m) (x ∷ xs) l = ap (λ (ys : List Name). x ∷ ys) (take_shorter n m xs (omega arith))

pub take_twice : (n m : ℕ) (xs : List Name) → take n (take m xs) ≡ take (min n m) xs
take_twice n m xs =
    ⊎_elim
    (λ (l : n < m). let e : n ≡ min n m = omega arith in take_shorter n m xs (omega arith) ∙ ap (λ (k : ℕ). take k xs) e)
    (λ (l : m ≤ n). let e : m ≡ min n m = omega arith in take_all n (take m xs) (omega (arith, length-take m xs)) ∙ ap (λ (k : ℕ). take k xs) e)
    (cases_lt n m)

module _ (o : Outline) (j : ℕ) where
  abbrev pub at_time : ℕ → Name → Bool
  at_time t y = time_of o y == t

  -- of records the lesser isn't later
  pub less_earlier : (y z : Name) → is_rec j y ≡ true → is_rec j z ≡ true → Less y z → time_of o y ≤ time_of o z
  less_earlier (Rec a t k g) (Rec b u l h) p q less =
      ⊎_elim
      (λ (c : 1 < 1). absurd (omega arith))
      (λ (c : (1 ≡ 1) × IsBefore (t ∷ a ∷ g.0 ∷ g.1 ∷ k ∷ []) (u ∷ b ∷ h.0 ∷ h.1 ∷ l ∷ [])).
      ⊎_elim
      (λ (d : t < u). let m : t ≤ u = omega arith in m)
      (λ (d : (t ≡ u) × IsBefore (a ∷ g.0 ∷ g.1 ∷ k ∷ []) (b ∷ h.0 ∷ h.1 ∷ l ∷ [])). let e : t ≡ u = d.0 in let m : t ≤ u = omega arith in m)
      c.1)
      less
  less_earlier (Rec a t k g) _ p q less = absurd (false≢true q)
  less_earlier _ z p q less = absurd (false≢true p)

  -- of records that ascend, none earlier than this time, those of the time stand first
  pub run_is : (t : ℕ) (xs : List Name) → IsAscending xs → AreRecords j xs → ((y : Name) → In y xs → t ≤ time_of o y) → filter (at_time t) xs ≡ take (prefix_len (at_time t) xs) xs
  run_is t [] up are late = refl
  run_is t (x ∷ xs) up are late = pick (run_is t xs up.1 (λ y i. are y (In_later y x xs i)) (λ y i. late y (In_later y x xs i))) (at_time t x) refl
    where
      later : at_time t x ≡ false → (y : Name) → In y xs → at_time t y ≡ false
      later n y i =
          false_from_ne_true (at_time t y) (λ e.
          let same = eqb-true (time_of o y) t e in
          let least = late x (In_here x xs) in
          let less = less_earlier x y (are x (In_here x xs)) (are y (In_later y x xs i)) (up.0 y i) in
          let here : time_of o x ≡ t = omega arith in
          false≢true (sym n ∙ eq-eqb (time_of o x) t here))

      pick : filter (at_time t) xs ≡ take (prefix_len (at_time t) xs) xs → (b : Bool) → at_time t x ≡ b → cond b (x ∷ filter (at_time t) xs) (filter (at_time t) xs) ≡ take (cond b (1 + prefix_len (at_time t) xs) 0) (x ∷ xs)
      pick rest true e =
          let next : suc (prefix_len (at_time t) xs) ≡ 1 + prefix_len (at_time t) xs = omega arith in
          ap (λ (l : List Name). x ∷ l) rest ∙ ap (λ (k : ℕ). take k (x ∷ xs)) next
      pick rest false e = none_passes (at_time t) xs (later e)

  -- entries run as their names do
  pub runs_alike : (t : ℕ) (xs : List Name) → prefix_len (λ (e : Entry). e.time == t) (entries_of o xs) ≡ prefix_len (at_time t) xs
  runs_alike t [] = refl
  runs_alike t (x ∷ xs) = ap (λ (n : ℕ). cond (time_of o x == t) (1 + n) 0) (runs_alike t xs)

  -- so many of the first are so many
  pub run_long : (most t : ℕ) (xs : List Name) → length (take (min most (prefix_len (at_time t) xs)) xs) ≡ min most (prefix_len (at_time t) xs)
  run_long most t xs = let l = prefix_len-le-length (at_time t) xs in omega (arith, length-take (min most (prefix_len (at_time t) xs)) xs)
