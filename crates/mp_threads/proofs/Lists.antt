-- Lists of workers, as one goes from the front of one list to the end of another.
use Rattle.std.proofs.Common.{◌≡◌, ℕ, zero, suc, ◌<◌, List, [], ◌∷◌, ◌++◌, None, Some, All, length, get_or, take, drop, sym, refl, ap, ◌∙◌, subst, arith}
use Rattle.std.specs.Prelude.{map, slice_get}
use Rattle.std.specs.Option.{option_map}
use Rattle.std.specs.declared.option.Option.{Option}
use Rattle.std.proofs.lemmas.Option.{slice_get-map}
use Rattle.mp_threads_crew.proofs.Lists.{shift}

module _ {A : Type 0} (P : A → Type 0) where
  pub all_head : (all : List A) (x : A) (xs : List A) → all ≡ x ∷ xs → All P all → P x
  all_head all x xs e h = subst (λ (l : List A). (k : ℕ) (d : A) → k < length l → P (get_or l k d)) e h 0 x (omega arith)

  pub all_tail : (all : List A) (x : A) (xs : List A) → all ≡ x ∷ xs → All P all → All P xs
  all_tail all x xs e h k d l = subst (λ (l : List A). (k : ℕ) (d : A) → k < length l → P (get_or l k d)) e h (suc k) d (omega arith)

-- what is read of each stays the same list
pub passed_on : {A B C : Type 0} (f : A → C) (h : B → C) (now was : List A) (x : A) (left rest : List B) (y : B) (all : List C)
    → now ≡ was ++ x ∷ [] → left ≡ y ∷ rest → f x ≡ h y → map f was ++ map h left ≡ all → map f now ++ map h rest ≡ all
passed_on f h now was x left rest y all put took same before =
    ap (λ l. map f l ++ map h rest) put
    ∙ shift f was x (map h rest)
    ∙ ap (λ n. map f was ++ (n ∷ map h rest)) same
    ∙ sym (ap (λ l. map f was ++ map h l) took)
    ∙ before

some_same : (m n : ℕ) → ◌≡◌ {A = Option ℕ} (Some m) (Some n) → m ≡ n
some_same m n e = cc

-- where two lists have the same numbers, and each of one stands at its number, so does each of the other
pub numbers_same : {A B : Type 0} (f : A → ℕ) (h : B → ℕ) (xs : List A) (ys : List B) → map f xs ≡ map h ys → ((k : ℕ) (y : B) → slice_get ys k ≡ Some y → h y ≡ k) → (k : ℕ) (x : A) → slice_get xs k ≡ Some x → f x ≡ k
numbers_same f h xs ys same each k x at =
    there (slice_get ys k) refl (sym (slice_get-map h ys k) ∙ sym (ap (λ l. slice_get l k) same) ∙ slice_get-map f xs k ∙ ap (option_map f) at)
  where
    there : (r : Option _) → slice_get ys k ≡ r → option_map h r ≡ Some (f x) → f x ≡ k
    there (Some y) is e = sym (some_same (h y) (f x) e) ∙ each k y is
    there None is e = absurd (cc)

-- a list that was lent as a slice of its length is what the slice is now
pub lent_back : {A : Type 0} (n : ℕ) (xs ys : List A) → length xs ≡ length ys → n ≡ length ys → take n (xs ++ drop (length xs) ys) ≡ xs
lent_back zero [] [] e f = refl
lent_back (suc n) [] [] e f = absurd (omega (arith, f))
lent_back n [] (y ∷ ys) e f = absurd (omega (arith, e))
lent_back n (x ∷ xs) [] e f = absurd (omega (arith, e))
lent_back zero (x ∷ xs) (y ∷ ys) e f = absurd (omega (arith, f))
lent_back (suc n) (x ∷ xs) (y ∷ ys) e f = ap (λ l. x ∷ l) (lent_back n xs ys (omega (arith, e)) (omega (arith, f)))

length_map : {A B : Type 0} (f : A → B) (xs : List A) → length (map f xs) ≡ length xs
length_map f [] = refl
length_map f (x ∷ xs) = omega (arith, length_map f xs)

pub as_many : {A B C : Type 0} (f : A → C) (h : B → C) (xs : List A) (ys : List B) → map f xs ≡ map h ys → length xs ≡ length ys
as_many f h xs ys same = sym (length_map f xs) ∙ ap length same ∙ length_map h ys
