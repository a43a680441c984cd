-- Lists of workers, as one goes from the front of one list to the end of another.
use Rattle.std.proofs.Common.{◌≡◌, ℕ, zero, suc, ◌+◌, ◌<◌, ◌≤◌, List, [], ◌∷◌, ◌++◌, Some, All, length, get_or, drop, replicate, sym, refl, ap, ◌∙◌, subst, arith, length-append}
use Rattle.std.specs.Prelude.{map, slice_get}
use Rattle.std.proofs.lemmas.Option.{get_or_from_slice_get, slice_get_within}

module _ {A : Type 0} (P : A → Type 0) where
  all_push : (xs : List A) (x : A) → All P xs → P x → All P (xs ++ x ∷ [])
  all_push [] x h p zero d l = p
  all_push [] x h p (suc k) d l = absurd (omega arith)
  all_push (y ∷ xs) x h p zero d l = h 0 d (omega arith)
  all_push (y ∷ xs) x h p (suc k) d l = all_push xs x (λ j e m. h (suc j) e (omega arith)) p k d (omega arith)

  pub all_more : (ys xs : List A) (x : A) → ys ≡ xs ++ x ∷ [] → All P xs → P x → All P ys
  all_more ys xs x e h p = subst (λ (l : List A). (k : ℕ) (d : A) → k < length l → P (get_or l k d)) (sym e) (all_push xs x h p)

  -- of each that stands at a place
  pub all_at : (xs : List A) (k : ℕ) (x : A) → All P xs → slice_get xs k ≡ Some x → P x
  all_at xs k x h e = subst P (get_or_from_slice_get xs k x x e) (h k x (slice_get_within xs k x e))

-- what is read of one more goes from the front of the rest to the end of what is read
pub shift : {A C : Type 0} (f : A → C) (xs : List A) (x : A) (rest : List C) → map f (xs ++ x ∷ []) ++ rest ≡ map f xs ++ (f x ∷ rest)
shift f [] x rest = refl
shift f (y ∷ ys) x rest = ap (λ l. f y ∷ l) (shift f ys x rest)

-- what is read of those that are done, with what is left, stays the same list
pub read_on : {A C : Type 0} (f : A → C) (now was : List A) (x : A) (left rest : List C) (y : C) (all : List C)
    → now ≡ was ++ x ∷ [] → left ≡ y ∷ rest → f x ≡ y → map f was ++ left ≡ all → map f now ++ rest ≡ all
read_on f now was x left rest y all put took same before =
    ap (λ l. map f l ++ rest) put ∙ shift f was x rest ∙ ap (λ z. map f was ++ (z ∷ rest)) same ∙ sym (ap (λ l. map f was ++ l) took) ∙ before

-- once as many are done as there are, nothing is left
pub read_all : {A C : Type 0} (f : A → C) (done : List A) (left all : List C) → map f done ++ left ≡ all → length all ≡ length done → map f done ≡ all
read_all f [] [] all is many = is
read_all f [] (y ∷ left) [] is many = absurd cc
read_all f [] (y ∷ left) (z ∷ all) is many = absurd (omega (arith, many))
read_all f (x ∷ done) left [] is many = absurd cc
read_all f (x ∷ done) left (z ∷ all) is many =
    let rest : map f done ++ left ≡ all = cc in
    let head : f x ≡ z = cc in
    ap (λ l. f x ∷ l) (read_all f done left all rest (omega (arith, many))) ∙ ap (λ y. y ∷ all) head

-- and so does the room
pub room_left : {A B : Type 0} (now was : List A) (x : A) (left rest : List B) (y : B) (room more : ℕ)
    → now ≡ was ++ x ∷ [] → left ≡ y ∷ rest → room ≤ more → length was + length left ≤ room → length now + length rest ≤ more
room_left now was x left rest y room more put took grows before =
    let a = ap length put in
    let b = ap length took in
    let c = length-append was (x ∷ []) in
    omega arith

-- what comes next of a list of which so many are gone, and what is left then
pub took_next : {A : Type 0} (n : ℕ) (xs : List A) (x : A) (ys : List A) → drop n xs ≡ x ∷ ys → (slice_get xs n ≡ Some x) × (drop (suc n) xs ≡ ys)
took_next zero [] x ys e = absurd (cc)
took_next zero (z ∷ zs) x ys e = (cc, cc)
took_next (suc n) [] x ys e = absurd (cc)
took_next (suc n) (z ∷ zs) x ys e = took_next n zs x ys e

pub in_replicate : {A : Type 0} (n k : ℕ) (x : A) → k < n → slice_get (replicate n x) k ≡ Some x
in_replicate zero k x l = absurd (omega arith)
in_replicate (suc n) zero x l = refl
in_replicate (suc n) (suc k) x l = in_replicate n k x (omega arith)

-- what holds of all that is read of a list holds of what each of it is read as
pub all_of_map : {A B : Type 0} (P : B → Type 0) (f : A → B) (xs : List A) → All P (map f xs) → All (λ x. P (f x)) xs
all_of_map P f [] all k d l = absurd (omega (arith, l))
all_of_map P f (x ∷ xs) all zero d l = all zero (f d) (omega arith)
all_of_map P f (x ∷ xs) all (suc k) d l = all_of_map P f xs (λ j e m. all (suc j) e (omega (arith, m))) k d (omega (arith, l))
