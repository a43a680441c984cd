-- What stands at a place of a list.
use Rattle.std.proofs.Common.{◌≡◌, ℕ, zero, suc, ◌+◌, ◌<◌, List, [], ◌∷◌, ◌++◌, length, sym, refl, ap, ◌∙◌, subst, arith, Option, Some, slice_get, None, ◌≢◌, length-append}
use Rattle.std.proofs.lemmas.Option.{none-some, same_Some}
use mathlib.Core.Option.{some, some-ne-none, some-injective}
use lib.ListN.{get_elem?}

pub inside : {A : Type 0} (l : List A) (i : ℕ) (a : A) → get_elem? l i ≡ some a → i < length l
inside [] i a e = absurd (some-ne-none a (sym e))
inside (x ∷ xs) zero a e = omega arith
inside (x ∷ xs) (suc i) a e = let h = inside xs i a e in omega arith

pub there_is : {A : Type 0} (l : List A) (i : ℕ) → i < length l → (a : A) × (get_elem? l i ≡ some a)
there_is [] i h = absurd (omega arith)
there_is (x ∷ xs) zero h = (x, refl)
there_is (x ∷ xs) (suc i) h = there_is xs i (omega arith)

-- std's word and the logic's
pub got : {A : Type 0} (l : List A) (i : ℕ) (a : A) → get_elem? l i ≡ some a → slice_get l i ≡ Some a
got [] i a e = absurd (some-ne-none a (sym e))
got (x ∷ xs) zero a e = ap Some (some-injective x a e)
got (x ∷ xs) (suc i) a e = got xs i a e

pub only_row : {A : Type 0} (r q : A) (i : ℕ) → get_elem? (r ∷ []) i ≡ some q → (i ≡ 0) × (r ≡ q)
only_row r q zero e = (refl, some-injective r q e)
only_row r q (suc i) e = absurd (some-ne-none q (sym e))

pub one_of : {A : Type 0} (l : List A) → length l ≡ 1 → (a : A) × (l ≡ a ∷ [])
one_of [] e = absurd (omega arith)
one_of (x ∷ []) e = (x, refl)
one_of (x ∷ y ∷ l) e = absurd (omega arith)

-- what stands in a list with one more element stood there before, or is that element
pub at_end_or : {A : Type 0} {Z : Type 0} (l : List A) (a b : A) (j : ℕ) → get_elem? (l ++ a ∷ []) j ≡ some b → (get_elem? l j ≡ some b → Z) → (j ≡ length l → a ≡ b → Z) → Z
at_end_or [] a b zero e old new = new refl (some-injective a b e)
at_end_or [] a b (suc j) e old new = absurd (some-ne-none b (sym e))
at_end_or (x ∷ xs) a b zero e old new = old e
at_end_or (x ∷ xs) a b (suc j) e old new = at_end_or xs a b j e old (λ p. new (ap suc p))

-- what stands in two lists, the second of which begins where the first ends
pub at_append : {A : Type 0} (l m : List A) (i : ℕ) (a : A) (F : ℕ → Type 0) (from next : ℕ) → from + length l ≡ next → get_elem? (l ++ m) i ≡ some a
    → (get_elem? l i ≡ some a → F (from + i)) → ((j : ℕ) → get_elem? m j ≡ some a → F (next + j)) → F (from + i)
at_append [] m i a F from next meets e old new = let z : next ≡ from = omega arith in subst (λ k. F (k + i)) z (new i e)
at_append (x ∷ xs) m zero a F from next meets e old new = old e
at_append (x ∷ xs) m (suc i) a F from next meets e old new =
    let z : suc from + i ≡ from + suc i = omega arith in
    subst F z (at_append xs m i a F (suc from) next (omega arith) e (λ p. subst F (sym z) (old p)) new)

pub same_list : {A : Type 0} (l m : List A) → length l ≡ length m → ((i : ℕ) (a : A) → get_elem? m i ≡ some a → get_elem? l i ≡ some a) → l ≡ m
same_list [] [] e h = refl
same_list [] (y ∷ m) e h = absurd (omega arith)
same_list (x ∷ l) [] e h = absurd (omega arith)
same_list (x ∷ l) (y ∷ m) e h =
    let r = same_list l m (omega arith) (λ i a p. h (suc i) a p) in
    let s = some-injective x y (h 0 y refl) in λ k. s k ∷ r k

pub some_not_none : {A : Type 0} (o : Option A) (a : A) → o ≡ Some a → o ≢ None
some_not_none o a is not = absurd (none-some a (sym not ∙ is))

-- a fact about each element and its place, in a list with one more element
pub each_more : {A : Type 0} (F : ℕ → A → Type 0) (xs : List A) (x : A) → ((k : ℕ) (a : A) → slice_get xs k ≡ Some a → F k a) → F (length xs) x → (k : ℕ) (a : A) → slice_get (xs ++ x ∷ []) k ≡ Some a → F k a
each_more F [] x all here zero a e = subst (F 0) (same_Some x a e) here
each_more F [] x all here (suc k) a e = absurd (none-some a e)
each_more F (y ∷ xs) x all here zero a e = all 0 a e
each_more F (y ∷ xs) x all here (suc k) a e = each_more (λ j. F (suc j)) xs x (λ j. all (suc j)) here k a e

pub each_last : {A : Type 0} (F : ℕ → A → Type 0) (xs : List A) (x : A) → ((k : ℕ) (a : A) → slice_get (xs ++ x ∷ []) k ≡ Some a → F k a) → F (length xs) x
each_last F [] x all = all 0 x refl
each_last F (y ∷ xs) x all = each_last (λ j. F (suc j)) xs x (λ j. all (suc j))

pub each_fewer : {A : Type 0} (F : ℕ → A → Type 0) (xs : List A) (x : A) → ((k : ℕ) (a : A) → slice_get (xs ++ x ∷ []) k ≡ Some a → F k a) → (k : ℕ) (a : A) → slice_get xs k ≡ Some a → F k a
each_fewer F [] x all k a e = absurd (none-some a e)
each_fewer F (y ∷ xs) x all zero a e = all 0 a e
each_fewer F (y ∷ xs) x all (suc k) a e = each_fewer (λ j. F (suc j)) xs x (λ j. all (suc j)) k a e

-- the two elements that are popped of a list of two
pub two_popped : {A : Type 0} (items mid rest : List A) (a b : A) → items ≡ mid ++ b ∷ [] → mid ≡ rest ++ a ∷ [] → length items ≡ 2 → items ≡ a ∷ b ∷ []
two_popped items mid [] a b last first two = last ∙ ap (λ l. l ++ b ∷ []) first
two_popped items mid (x ∷ rest) a b last first two = absurd (omega (arith, ap length last, length-append mid (b ∷ []), ap length first, length-append (x ∷ rest) (a ∷ [])))

-- two elements that are pushed once two were popped of a list of two
pub two_pushed : {A : Type 0} (items mid rest after more : List A) (a b x y : A) → items ≡ mid ++ b ∷ [] → mid ≡ rest ++ a ∷ [] → length items ≡ 2 → after ≡ rest ++ x ∷ [] → more ≡ after ++ y ∷ [] → more ≡ x ∷ y ∷ []
two_pushed items mid [] after more a b x y last first two one both = both ∙ ap (λ l. l ++ y ∷ []) one
two_pushed items mid (z ∷ rest) after more a b x y last first two one both =
    absurd (omega (arith, ap length last, length-append mid (b ∷ []), ap length first, length-append (z ∷ rest) (a ∷ []), two))
