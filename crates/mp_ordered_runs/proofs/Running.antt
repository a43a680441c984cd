-- The first run of items in order, and the items behind it.
use Rattle.std.proofs.Common.{◌≡◌, ℕ, zero, suc, ◌+◌, ◌<◌, ◌≤◌, Bool, true, false, cond, get_or, List, [], ◌∷◌, ◌++◌, All, length, take, refl, ap, sym, ◌∙◌, subst, arith, append_assoc}
use Rattle.std.specs.List.{insert, prefix_len}
use Rattle.std.proofs.lemmas.Bool.{false≢true}
use Rattle.std.proofs.lemmas.List.Elements.{All-nil, All-cons, All-head, All-tail, All-push}
use Rattle.mp_names.specs.Names.{is_before}
use Rattle.mp_ordered.specs.InOrder.{IsInOrder, begins, put_in_order}
use Rattle.mp_ordered_runs.specs.Runs.{IsOneKind, continues, first_run}
use Rattle.mp_ordered.proofs.Placing.{goes_back}
use Rattle.mp_ordered.proofs.Placed.{pairs_back}

module _ {T : Type 0} where
  taken : (p : T → Bool) (xs rest : List T) → All (λ y. p y ≡ true) xs → begins p rest ≡ false → take (prefix_len p (xs ++ rest)) (xs ++ rest) ≡ xs
  taken p [] [] h e = refl
  taken p [] (z ∷ zs) h e = rw e refl
  taken p (y ∷ xs) rest h e =
      let more : 1 + prefix_len p (xs ++ rest) ≡ suc (prefix_len p (xs ++ rest)) = omega arith in
      rw (All-head (λ y. p y ≡ true) y xs h, more) (ap (λ (r : List T). y ∷ r) (taken p xs rest (All-tail (λ y. p y ≡ true) y xs h) e))

  module _ (same : T → T → Bool) where
    -- items of one kind, which the next isn't of, are the first run
    pub first_run_is : (run rest : List T) → IsOneKind same run → continues same run rest ≡ false → first_run same (run ++ rest) ≡ run
    first_run_is [] [] k e = refl
    first_run_is [] (y ∷ ys) k e = absurd (false≢true (sym e))
    first_run_is (x ∷ xs) rest k e = ap (λ (r : List T). x ∷ r) (taken (same x) xs rest k e)

    -- one more of the kind
    pub one_more : (run : List T) (y : T) (ys : List T) → IsOneKind same run → continues same run (y ∷ ys) ≡ true → IsOneKind same (run ++ y ∷ [])
    one_more [] y ys k e = All-nil (λ z. same y z ≡ true)
    one_more (x ∷ xs) y ys k e = All-push (λ z. same x z ≡ true) xs y k e

    -- one more behind the first
    pub one_within : (x : T) (xs : List T) (at : ℕ) (y : T) → 0 < at → at ≤ length (x ∷ xs) → IsOneKind same (x ∷ xs) → same x y ≡ true → IsOneKind same (insert (x ∷ xs) at y)
    one_within x xs zero y l m k e = absurd (omega arith)
    one_within x xs (suc at) y l m k e = inserted xs at (omega arith) k
      where
        inserted : (zs : List T) (n : ℕ) → n ≤ length zs → All (λ z. same x z ≡ true) zs → All (λ z. same x z ≡ true) (insert zs n y)
        inserted zs zero l h = All-cons (λ z. same x z ≡ true) y zs e h
        inserted [] (suc n) l h = absurd (omega arith)
        inserted (z ∷ zs) (suc n) l h = All-cons (λ z. same x z ≡ true) z (insert zs n y) (All-head (λ z. same x z ≡ true) z zs h) (inserted zs n (omega arith) (All-tail (λ z. same x z ≡ true) z zs h))

  -- the first that is behind a run stays of another kind
  pub still_ends : (rank : T → List ℕ) (same : T → T → Bool) (x : T) (run rest : List T) → 0 < length run → ((d : T) → same (get_or run 0 d) x ≡ false) → continues same run rest ≡ false → continues same run (put_in_order rank x rest) ≡ false
  still_ends rank same x [] rest l other e = absurd (omega arith)
  still_ends rank same x (y ∷ ys) [] l other e = other y
  still_ends rank same x (y ∷ ys) (z ∷ zs) l other e = either (is_before (rank z) (rank x)) e (other y)
    where
      either : (b : Bool) → same y z ≡ false → same y x ≡ false → begins (same y) (cond b (z ∷ put_in_order rank x zs) (x ∷ z ∷ zs)) ≡ false
      either true e f = e
      either false e f = f

  -- an item put into a run behind its first
  pub put_within_run : (same : T → T → Bool) (x : T) (run rest : List T) (at : ℕ) → 0 < at → at ≤ length run → ((d : T) → same (get_or run 0 d) x ≡ true) → IsOneKind same run → continues same run rest ≡ false
      → IsOneKind same (insert run at x) × (continues same (insert run at x) rest ≡ false)
  put_within_run same x [] rest at l m e k ends = absurd (omega arith)
  put_within_run same x (y ∷ ys) rest zero l m e k ends = absurd (omega arith)
  put_within_run same x (y ∷ ys) rest (suc at) l m e k ends = (one_within same y ys (suc at) x l m k (e y), ends)

  pub insert_last : (xs : List T) (at : ℕ) (y : T) → at ≡ length xs → insert xs at y ≡ xs ++ y ∷ []
  insert_last [] zero y e = refl
  insert_last [] (suc at) y e = absurd (omega arith)
  insert_last (x ∷ xs) zero y e = absurd (omega arith)
  insert_last (x ∷ xs) (suc at) y e = ap (λ (r : List T). x ∷ r) (insert_last xs at y (omega arith))

  -- the last of a run goes back in front of the others
  pub last_back : (rank : T → List ℕ) (run rest : List T) (y : T) → IsInOrder rank ((run ++ y ∷ []) ++ rest) → run ++ put_in_order rank y rest ≡ (run ++ y ∷ []) ++ rest
  last_back rank run rest y h =
      let e : (run ++ y ∷ []) ++ rest ≡ run ++ y ∷ rest = append_assoc run (y ∷ []) rest in
      ap (λ (r : List T). run ++ r) (goes_back rank y rest (pairs_back (λ x z. is_before (rank z) (rank x) ≡ false) run (y ∷ rest) (subst (IsInOrder rank) e h))) ∙ sym e
