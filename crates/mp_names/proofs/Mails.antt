-- The names that n workers sent and took: if all that must be sent is sent, the sums agree exactly where all is taken.
use Rattle.std.proofs.Common.{◌≡◌, ℕ, ◌+◌, zero, suc, ◌<◌, ◌⊎◌, Bool, true, cond, List, count_by, refl, sym, ◌∙◌, subst, ⊎_elim, arith}
use Rattle.std.proofs.lemmas.List.Sums.{sum_by-append}
use Rattle.mp_names.specs.declared.names.Name.{Name}
use Rattle.mp_names.specs.Names.{In, Distinct, joined_below}
use Rattle.mp_names.proofs.Lists.{In_joined, joined_In, Distinct_joined, all_there, same_count}

abbrev pub total_below : ℕ → (ℕ → ℕ) → ℕ
total_below zero f = 0
total_below (suc n) f = total_below n f + f n

count_joined : (p : Name → Bool) (n : ℕ) (f : ℕ → List Name) → count_by p (joined_below n f) ≡ total_below n (λ w. count_by p (f w))
count_joined p zero f = refl
count_joined p (suc n) f =
    let a = sum_by-append (λ x. cond (p x) 1 0) (joined_below n f) (f n) in
    let b = count_joined p n f in
    omega arith

module _
    (n : ℕ) (sent took : ℕ → List Name) (home away : Name → ℕ) (owed : Name → Type 0) (p : Name → Bool)
    (sent_once : (w : ℕ) → w < n → Distinct (sent w)) (took_once : (w : ℕ) → w < n → Distinct (took w))
    (sent_owed : (w : ℕ) (x : Name) → w < n → In x (sent w) → owed x × (home x ≡ w))
    (took_owed : (w : ℕ) (x : Name) → w < n → In x (took w) → owed x × (away x ≡ w))
    (edges : (x : Name) → owed x → (home x < n) × (away x < n))
    (all_sent : (x : Name) → owed x → p x ≡ true → In x (sent (home x))) where
  took_in : (x : Name) → In x (joined_below n took) → p x ≡ true → In x (joined_below n sent)
  took_in x i f =
      let r = In_joined n took x i in
      let m = (took_owed r.0 x r.1 r.2).0 in
      joined_In n sent x (home x) (edges x m).0 (all_sent x m f)

  sent_distinct : Distinct (joined_below n sent)
  sent_distinct = Distinct_joined n sent home sent_once (λ w y l i. (sent_owed w y l i).1)

  took_distinct : Distinct (joined_below n took)
  took_distinct = Distinct_joined n took away took_once (λ w y l i. (took_owed w y l i).1)

  -- equal sums mean that all is taken
  pub taken_from_sum : total_below n (λ w. count_by p (sent w)) ≡ total_below n (λ w. count_by p (took w)) → (x : Name) → owed x → p x ≡ true → In x (took (away x))
  taken_from_sum e x m f =
      let k = count_joined p n sent ∙ e ∙ sym (count_joined p n took) in
      let i = all_there p (joined_below n took) (joined_below n sent) took_distinct sent_distinct took_in k x (joined_In n sent x (home x) (edges x m).0 (all_sent x m f)) f in
      let r = In_joined n took x i in
      subst (λ (v : ℕ). In x (took v)) (sym (took_owed r.0 x r.1 r.2).1) r.2

  pub sum_from_taken : ((x : Name) → owed x → p x ≡ true → In x (took (away x))) → total_below n (λ w. count_by p (sent w)) ≡ total_below n (λ w. count_by p (took w))
  sum_from_taken h =
      let sent_in = λ (x : Name) (i : In x (joined_below n sent)) (f : p x ≡ true).
      let r = In_joined n sent x i in
      let m = (sent_owed r.0 x r.1 r.2).0 in
      joined_In n took x (away x) (edges x m).1 (h x m f) in
      sym (count_joined p n sent) ∙ same_count p (joined_below n took) (joined_below n sent) took_distinct sent_distinct took_in sent_in ∙ count_joined p n took

-- sums that are zero

pub each_zero : (n : ℕ) (f : ℕ → ℕ) → ((w : ℕ) → w < n → f w ≡ 0) → total_below n f ≡ 0
each_zero zero f h = refl
each_zero (suc n) f h =
    let a = each_zero n f (λ w l. h w (omega arith)) in
    let b = h n (omega arith) in
    omega arith

pub zero_each : (n : ℕ) (f : ℕ → ℕ) → total_below n f ≡ 0 → (w : ℕ) → w < n → f w ≡ 0
zero_each zero f h w l = absurd (omega arith)
zero_each (suc n) f h w l =
    let a : total_below n f ≡ 0 = omega arith in
    let b : f n ≡ 0 = omega arith in
    ⊎_elim
    (λ (k : w < n). zero_each n f a w k)
    (λ (e : w ≡ n). subst (λ (v : ℕ). f v ≡ 0) (sym e) b)
    (cases w n l)
  where
    cases : (w n : ℕ) → w < suc n → (w < n) ⊎ (w ≡ n)
    cases w n l = grind arith
