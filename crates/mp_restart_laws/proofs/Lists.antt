-- What filters keep of lists that are made of others.
use Rattle.std.proofs.Common.{◌≡◌, ◌==◌, ℕ, Bool, true, false, cond, List, [], ◌∷◌, ◌++◌, Option, Some, None, filter, flat_map, map, Contains, refl, sym, ap, ◌∙◌, subst}
use Rattle.std.specs.List.{cons_option, filter_map, list_any}
use Rattle.std.proofs.lemmas.Bool.{both_ways, cond_both, eq-eqb, eqb-true}
use Rattle.std.proofs.lemmas.List.Elements.{filter-append}
use Rattle.std.proofs.lemmas.List.Folds.{Any-from_list_any, list_any-from_Any}
use Rattle.mp_job.proofs.Ascents.{Rises, same_rising}
use Rattle.mp_outline.proofs.Found.{found, found_there}
use Rattle.mp_job.proofs.Members.{Contains-filter, Contains-here, Contains-later, filter-Contains}

-- two tests that follow from each other give one answer
pub same_answer : (a b : Bool) → (a ≡ true → b ≡ true) → (b ≡ true → a ≡ true) → a ≡ b
same_answer true b h k = sym (h refl)
same_answer false true h k = k refl
same_answer false false h k = refl

module _ {X : Type 0} where
  -- some element passes a test
  pub passing : (p : X → Bool) (xs : List X) → list_any p xs ≡ true → (x : X) × Contains xs x × (p x ≡ true)
  passing p xs h = found (λ x. p x ≡ true) xs (Any-from_list_any p xs h)

  pub passes : (p : X → Bool) (xs : List X) (x : X) → Contains xs x → p x ≡ true → list_any p xs ≡ true
  passes p xs x i e = list_any-from_Any p xs (found_there (λ y. p y ≡ true) xs x i e)

  -- a list in which nothing stands
  pub nothing_there : (xs : List X) → ((x : X) → Contains xs x → ⊥) → xs ≡ []
  nothing_there [] h = refl
  nothing_there (x ∷ xs) h = absurd (h x (Contains-here x xs))

  pub filter_none : (p : X → Bool) (xs : List X) → ((x : X) → Contains xs x → p x ≡ false) → filter p xs ≡ []
  filter_none p [] h = refl
  filter_none p (x ∷ xs) h = rw (h x (Contains-here x xs)) (filter_none p xs (λ y i. h y (Contains-later x y xs i)))

  pub filter_all : (p : X → Bool) (xs : List X) → ((x : X) → Contains xs x → p x ≡ true) → filter p xs ≡ xs
  filter_all p [] h = refl
  filter_all p (x ∷ xs) h = rw (h x (Contains-here x xs)) (ap (λ (ys : List X). x ∷ ys) (filter_all p xs (λ y i. h y (Contains-later x y xs i))))

  -- two filters, one after the other
  pub filter_swap : (p q : X → Bool) (xs : List X) → filter p (filter q xs) ≡ filter q (filter p xs)
  filter_swap p q [] = refl
  filter_swap p q (x ∷ xs) = by_tests (p x) (q x) refl refl (filter_swap p q xs)
    where
      by_tests : (a b : Bool) → p x ≡ a → q x ≡ b → filter p (filter q xs) ≡ filter q (filter p xs) → filter p (filter q (x ∷ xs)) ≡ filter q (filter p (x ∷ xs))
      by_tests true true e f rest = rw (f, e, f) (ap (λ (ys : List X). x ∷ ys) rest)
      by_tests true false e f rest = rw (f, e, f) rest
      by_tests false true e f rest = rw (f, e) rest
      by_tests false false e f rest = rw (f, e) rest

  -- a filter after one that passes all of its elements
  pub filter_implied : (p q : X → Bool) (xs : List X) → ((x : X) → Contains xs x → p x ≡ true → q x ≡ true) → filter p (filter q xs) ≡ filter p xs
  filter_implied p q xs h = filter_swap p q xs ∙ filter_all q (filter p xs) (λ x i. let a = Contains-filter p xs x i in h x a.0 a.1)

  -- a filter after its own opposite, or before it
  pub filter_apart : (p q : X → Bool) (xs : List X) → ((x : X) → Contains xs x → q x ≡ true → p x ≡ false) → filter p (filter q xs) ≡ []
  filter_apart p q xs h = filter_none p (filter q xs) (λ x i. let a = Contains-filter q xs x i in h x a.0 a.1)

module _ {X Y : Type 0} where
  pub filter-flat_map : (p : Y → Bool) (f : X → List Y) (xs : List X) → filter p (flat_map f xs) ≡ flat_map (λ x. filter p (f x)) xs
  filter-flat_map p f [] = refl
  filter-flat_map p f (x ∷ xs) = filter-append p (f x) (flat_map f xs) ∙ ap (λ (ys : List Y). filter p (f x) ++ ys) (filter-flat_map p f xs)

  pub filter-map : (p : Y → Bool) (f : X → Y) (xs : List X) → filter p (map f xs) ≡ map f (filter (λ x. p (f x)) xs)
  filter-map p f [] = refl
  filter-map p f (x ∷ xs) = by_test (p (f x)) (filter-map p f xs)
    where
      by_test : (b : Bool) → filter p (map f xs) ≡ map f (filter (λ x. p (f x)) xs) → cond b (f x ∷ filter p (map f xs)) (filter p (map f xs)) ≡ map f (cond b (x ∷ filter (λ x. p (f x)) xs) (filter (λ x. p (f x)) xs))
      by_test true rest = ap (λ (ys : List Y). f x ∷ ys) rest
      by_test false rest = rest

  -- two functions that agree at the elements
  pub map_within : (f g : X → Y) (xs : List X) → ((x : X) → Contains xs x → f x ≡ g x) → map f xs ≡ map g xs
  map_within f g [] h = refl
  map_within f g (x ∷ xs) h = let first = h x (Contains-here x xs) in let rest = map_within f g xs (λ y i. h y (Contains-later x y xs i)) in λ i. first i ∷ rest i

  -- elements that give nothing may be left out
  pub flat_map_kept : (p : X → Bool) (f : X → List Y) (xs : List X) → ((x : X) → Contains xs x → p x ≡ false → f x ≡ []) → flat_map f xs ≡ flat_map f (filter p xs)
  flat_map_kept p f [] h = refl
  flat_map_kept p f (x ∷ xs) h = by_test (p x) refl (flat_map_kept p f xs (λ y i. h y (Contains-later x y xs i)))
    where
      by_test : (b : Bool) → p x ≡ b → flat_map f xs ≡ flat_map f (filter p xs) → flat_map f (x ∷ xs) ≡ flat_map f (cond b (x ∷ filter p xs) (filter p xs))
      by_test true e rest = ap (λ (ys : List Y). f x ++ ys) rest
      by_test false e rest = ap (λ (ys : List Y). ys ++ flat_map f xs) (h x (Contains-here x xs) e) ∙ rest

  -- what passes of the things that elements make is made of the elements that pass
  module _ (p : Y → Bool) (s : X → Bool) (f : X → Option Y) where
    made_first : (o : Option Y) (b : Bool) (ys zs : List Y) → ((y : Y) → o ≡ Some y → p y ≡ b) → filter p ys ≡ zs → filter p (cons_option o ys) ≡ cond b (cons_option o zs) zs
    made_first None true ys zs h e = e
    made_first None false ys zs h e = e
    made_first (Some y) b ys zs h e = λ i. cond (h y refl i) (y ∷ e i) (e i)

    made_of : (b : Bool) (x : X) (xs : List X) → filter_map f (cond b (x ∷ xs) xs) ≡ cond b (cons_option (f x) (filter_map f xs)) (filter_map f xs)
    made_of true x xs = refl
    made_of false x xs = refl

    pub filter-filter_map : ((x : X) (y : Y) → f x ≡ Some y → p y ≡ s x) → (xs : List X) → filter p (filter_map f xs) ≡ filter_map f (filter s xs)
    filter-filter_map h [] = refl
    filter-filter_map h (x ∷ xs) =
        made_first (f x) (s x) (filter_map f xs) (filter_map f (filter s xs)) (h x) (filter-filter_map h xs)
        ∙ sym (made_of (s x) x (filter s xs))

-- Rising numbers

pub Rises-filter : (p : ℕ → Bool) (xs : List ℕ) → Rises xs → Rises (filter p xs)
Rises-filter p [] r = tt
Rises-filter p (x ∷ xs) r =
    cond_both (p x) (x ∷ filter p xs) (filter p xs) Rises (λ e. ((λ y i. r.0 y (Contains-filter p xs y i).0), Rises-filter p xs r.1)) (λ e. Rises-filter p xs r.1)

-- the number stands in the list
abbrev pub stands_in : List ℕ → ℕ → Bool
stands_in ys n = list_any (λ m. m == n) ys

pub in_list : (ys : List ℕ) (n : ℕ) → stands_in ys n ≡ true → Contains ys n
in_list ys n e = let b = passing (λ m. m == n) ys e in subst (Contains ys) (eqb-true b.0 n b.2) b.1

pub list_has : (ys : List ℕ) (n : ℕ) → Contains ys n → stands_in ys n ≡ true
list_has ys n i = passes (λ m. m == n) ys n i (eq-eqb n n refl)

-- what rising numbers give is what those of them give that give something
pub fewer_numbers : {Y : Type 0} (f : ℕ → List Y) (xs ys : List ℕ) → Rises xs → Rises ys → ((n : ℕ) → Contains ys n → Contains xs n) → ((n : ℕ) → Contains xs n → (Contains ys n → ⊥) → f n ≡ []) → flat_map f xs ≡ flat_map f ys
fewer_numbers {Y} f xs ys r s within nothing =
    flat_map_kept (stands_in ys) f xs (λ n i e. nothing n i (λ k. both_ways (stands_in ys n) e (list_has ys n k)))
    ∙ ap (flat_map f) (same_rising (filter (stands_in ys) xs) ys (Rises-filter (stands_in ys) xs r) s kept keeps)
  where
    kept : (n : ℕ) → Contains (filter (stands_in ys) xs) n → Contains ys n
    kept n i = in_list ys n (Contains-filter (stands_in ys) xs n i).1

    keeps : (n : ℕ) → Contains ys n → Contains (filter (stands_in ys) xs) n
    keeps n i = filter-Contains (stands_in ys) xs n (within n i) (list_has ys n i)
