-- What stands at a place of a list.
use Rattle.std.proofs.Common.{◌≡◌, ◌≢◌, ◌⊎◌, ℕ, zero, suc, ◌+◌, ◌<◌, List, [], ◌∷◌, ◌++◌, length, set, drop, map, refl, ap, ◌∙◌, inl, inr, ⊎_elim, arith, Some, slice_get}
use Rattle.std.proofs.lemmas.Option.{same_Some, none-some}

pub there_is : {A : Type 0} (l : List A) (k : ℕ) → k < length l → (a : A) × (slice_get l k ≡ Some a)
there_is [] k h = absurd (omega arith)
there_is (x ∷ xs) zero h = (x, refl)
there_is (x ∷ xs) (suc k) h = there_is xs k (omega arith)

-- what stands in a list after a write is the new element or an old one
pub set_cases : {A : Type 0} (l : List A) (i k : ℕ) (a x : A) → slice_get (set l i a) k ≡ Some x → ((k ≡ i) × (a ≡ x)) ⊎ ((k ≢ i) × (slice_get l k ≡ Some x))
set_cases [] i k a x e = inr (absurd cc, e)
set_cases (y ∷ ys) zero zero a x e = inl (refl, same_Some a x e)
set_cases (y ∷ ys) zero (suc k) a x e = inr ((λ z. absurd (omega arith)), e)
set_cases (y ∷ ys) (suc i) zero a x e = inr ((λ z. absurd (omega arith)), e)
set_cases (y ∷ ys) (suc i) (suc k) a x e = ⊎_elim (λ t. inl (ap suc t.0, t.1)) (λ t. inr ((λ z. t.0 (omega arith)), t.1)) (set_cases ys i k a x e)

pub set_here : {A : Type 0} (l : List A) (i : ℕ) (a : A) → i < length l → slice_get (set l i a) i ≡ Some a
set_here [] i a h = absurd (omega arith)
set_here (x ∷ xs) zero a h = refl
set_here (x ∷ xs) (suc i) a h = set_here xs i a (omega arith)

pub set_else : {A : Type 0} (l : List A) (i k : ℕ) (a : A) → k ≢ i → slice_get (set l i a) k ≡ slice_get l k
set_else [] i k a n = refl
set_else (x ∷ xs) zero zero a n = absurd (n refl)
set_else (x ∷ xs) zero (suc k) a n = refl
set_else (x ∷ xs) (suc i) zero a n = refl
set_else (x ∷ xs) (suc i) (suc k) a n = set_else xs i k a (λ e. n (ap suc e))

-- what stands in a list with one more element stood there before, or is that element
pub push_cases : {A : Type 0} (l : List A) (x a : A) (k : ℕ) → slice_get (l ++ x ∷ []) k ≡ Some a → (slice_get l k ≡ Some a) ⊎ ((k ≡ length l) × (x ≡ a))
push_cases [] x a zero e = inr (refl, same_Some x a e)
push_cases [] x a (suc k) e = absurd (none-some a e)
push_cases (y ∷ ys) x a zero e = inl e
push_cases (y ∷ ys) x a (suc k) e = ⊎_elim (λ old. inl old) (λ t. inr (ap suc t.0, t.1)) (push_cases ys x a k e)

pub push_old : {A : Type 0} (l m : List A) (k : ℕ) (a : A) → slice_get l k ≡ Some a → slice_get (l ++ m) k ≡ Some a
push_old [] m k a e = absurd (none-some a e)
push_old (x ∷ xs) m zero a e = e
push_old (x ∷ xs) m (suc k) a e = push_old xs m k a e

pub push_new : {A : Type 0} (l : List A) (x : A) (k : ℕ) → k ≡ length l → slice_get (l ++ x ∷ []) k ≡ Some x
push_new [] x zero is = refl
push_new [] x (suc k) is = absurd (omega arith)
push_new (y ∷ ys) x zero is = absurd (omega arith)
push_new (y ∷ ys) x (suc k) is = push_new ys x k (omega arith)

-- the first of what is left after k elements
pub drop_first : {A : Type 0} (l left : List A) (k : ℕ) (x : A) → drop k l ≡ x ∷ left → (slice_get l k ≡ Some x) × (drop (k + 1) l ≡ left)
drop_first [] left zero x e = absurd cc
drop_first [] left (suc k) x e = absurd cc
drop_first (y ∷ ys) left zero x e = let next : zero + 1 ≡ suc zero = omega arith in (cc, ap (λ n. drop n (y ∷ ys)) next ∙ cc)
drop_first (y ∷ ys) left (suc k) x e = let r = drop_first ys left k x e in let next : suc k + 1 ≡ suc (k + 1) = omega arith in (r.0, ap (λ n. drop n (y ∷ ys)) next ∙ r.1)

-- the lists in what stands in a list of lists
pub mapped : {A B : Type 0} (f : A → B) (l : List A) (k : ℕ) (a : A) → slice_get l k ≡ Some a → slice_get (map f l) k ≡ Some (f a)
mapped f [] k a e = absurd (none-some a e)
mapped f (x ∷ xs) zero a e = ap Some (ap f (same_Some x a e))
mapped f (x ∷ xs) (suc k) a e = mapped f xs k a e
