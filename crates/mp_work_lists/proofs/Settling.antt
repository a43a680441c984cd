-- Counts of times, and the times that are settled.
use Rattle.std.proofs.Common.{◌≡◌, ℕ, ◌==◌, Bool, true, false, cond, List, [], ◌∷◌, map, filter, count_by, refl, inl, inr, sym, ap, ◌∙◌, arith}
use Rattle.std.specs.List.{dedup}
use Rattle.std.specs.List.Sorted.{IsPermutation, IsSorted}
use Rattle.std.specs.Ordering.{nat_cmp}
use Rattle.std.proofs.lemmas.Bool.{eqb-true}
use Rattle.std.proofs.lemmas.List.Sums.{sum_by-cons}
use Rattle.mp_names.specs.declared.names.Name.{Name}
use Rattle.mp_names.specs.declared.names.Name.TheVariants.{Settled}
use Rattle.mp_names.specs.declared.controls.Control.{Control}
use Rattle.mp_names.specs.Names.{ascending, is_settled}
use Rattle.mp_names.specs.Outlines.{Outline, control_times}
use Rattle.mp_names.proofs.Lists.{In_filter, filter_In}
use Rattle.mp_names.proofs.Orders.{ascending_In, In_ascending, ascending_ascends, ascending_unique, filter_ascends}
use Rattle.mp_outline_lists.proofs.Keys.{IsKeyOrder, count_map, kept_are, numbers_in_order}
use Rattle.mp_work_lists.specs.Parts.{time_in, times_at, names_at}

pub times_of_map : {X : Type 0} (f : X → ℕ) (t : ℕ) (xs : List X) → times_at t (map f xs) ≡ count_by (λ x. f x == t) xs
times_of_map f t [] = refl
times_of_map {X} f t (x ∷ xs) =
    let a = sum_by-cons (λ (u : ℕ). cond (u == t) 1 0) (f x) (map f xs) in
    let b = sum_by-cons (λ (y : X). cond (f y == t) 1 0) x xs in
    let c = times_of_map f t xs in
    omega arith

-- Times to settle

times_in_order : (j : ℕ) → IsKeyOrder (λ (t : ℕ). Settled j t) nat_cmp (λ x y. x == y)
times_in_order j = numbers_in_order (λ (t : ℕ). Settled j t) (λ x y l. inr (refl, inl l))

settled_if : (j : ℕ) (b : Bool) (c : Control) (xs : List Name) (ys : List Control) → (b ≡ true → c.stage ≡ j) → xs ≡ map (λ (t : ℕ). Settled j t) (map (λ c. c.time) ys) → cond b (Settled c.stage c.time ∷ xs) xs ≡ map (λ (t : ℕ). Settled j t) (map (λ c. c.time) (cond b (c ∷ ys) ys))
settled_if j true c xs ys h e = let s = h refl in ap (λ (n : ℕ). Settled n c.time ∷ xs) s ∙ ap (λ (l : List Name). Settled j c.time ∷ l) e
settled_if j false c xs ys h e = e

settled_list : (j : ℕ) (cs : List Control) → filter (is_settled j) (map (λ c. Settled c.stage c.time) cs) ≡ map (λ (t : ℕ). Settled j t) (map (λ c. c.time) (filter (λ c. c.stage == j) cs))
settled_list j [] = refl
settled_list j (c ∷ cs) = settled_if j (c.stage == j) c (filter (is_settled j) (map (λ c. Settled c.stage c.time) cs)) (filter (λ c. c.stage == j) cs) (λ e. eqb-true c.stage j e) (settled_list j cs)

-- the names that pass a test are put in order like all
ascending_filtered : (p : Name → Bool) (xs : List Name) → ascending (filter p xs) ≡ filter p (ascending xs)
ascending_filtered p xs =
    ascending_unique
    (ascending (filter p xs))
    (filter p (ascending xs))
    (ascending_ascends (filter p xs))
    (filter_ascends p (ascending xs) (ascending_ascends xs))
    (λ z i. let r = In_filter p z xs (In_ascending z (filter p xs) i) in filter_In p z (ascending xs) (ascending_In z xs r.0) r.1)
    (λ z i. let r = In_filter p z (ascending xs) i in ascending_In z (filter p xs) (filter_In p z xs (In_ascending z xs r.0) r.1))

module _ (o : Outline) (j : ℕ) (times sorted kept : List ℕ) (are : times ≡ map (λ c. c.time) (filter (λ c. c.stage == j) o.controls)) (moved : IsPermutation times sorted) (up : IsSorted nat_cmp sorted) (is : kept ≡ dedup (λ x y. x == y) sorted) where
  abbrev all : List Name
  all = map (λ c. Settled c.stage c.time) o.controls

  names_are : map (λ (t : ℕ). Settled j t) times ≡ filter (is_settled j) all
  names_are = ap (map (λ (t : ℕ). Settled j t)) are ∙ sym (settled_list j o.controls)

  -- the times that are kept are those of the stage, each once
  settled_kept : map (λ (t : ℕ). Settled j t) kept ≡ control_times o j
  unfolding control_times
  settled_kept =
      kept_are (λ (t : ℕ). Settled j t) nat_cmp (λ x y. x == y) (times_in_order j) times sorted kept moved up is
      ∙ ap ascending names_are
      ∙ ascending_filtered (is_settled j) all

  pub count_settled : (t : ℕ) → times_at t kept ≡ names_at t (control_times o j)
  count_settled t = sym (count_map (λ (t : ℕ). Settled j t) (λ (x : Name). time_in x == t) kept) ∙ ap (names_at t) settled_kept
