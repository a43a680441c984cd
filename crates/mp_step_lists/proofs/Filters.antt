-- Lists that are filtered.
use Rattle.std.proofs.Common.{◌≡◌, ◌∙◌, ◌&&◌, Bool, true, false, cond, List, [], ◌∷◌, filter, map, refl, ap}
use Rattle.std.proofs.lemmas.Bool.{cond-false, cond-true}
use Rattle.mp_names.specs.declared.names.Name.{Name}
use Rattle.mp_names.specs.Names.{In}
use Rattle.mp_names.proofs.Lists.{In_here, In_later}

pub none_in : (xs : List Name) → ((x : Name) → In x xs → ⊥) → xs ≡ []
none_in [] h = refl
none_in (x ∷ xs) h = absurd (h x (In_here x xs))

pub filter_all : (p : Name → Bool) (xs : List Name) → ((x : Name) → In x xs → p x ≡ true) → filter p xs ≡ xs
filter_all p [] h = refl
filter_all p (x ∷ xs) h = cond-true (p x) (x ∷ filter p xs) (filter p xs) (h x (In_here x xs)) ∙ ap (λ (ys : List Name). x ∷ ys) (filter_all p xs (λ y i. h y (In_later y x xs i)))

pub filter_none : (p : Name → Bool) (xs : List Name) → ((x : Name) → In x xs → p x ≡ false) → filter p xs ≡ []
filter_none p [] h = refl
filter_none p (x ∷ xs) h = cond-false (p x) (x ∷ filter p xs) (filter p xs) (h x (In_here x xs)) ∙ filter_none p xs (λ y i. h y (In_later y x xs i))

-- tests that agree keep the same
pub filter_agree : {X : Type 0} (p q : X → Bool) → ((x : X) → p x ≡ q x) → (xs : List X) → filter p xs ≡ filter q xs
filter_agree p q h [] = refl
filter_agree p q h (x ∷ xs) = ap (λ (b : Bool). cond b (x ∷ filter p xs) (filter p xs)) (h x) ∙ ap (λ (ys : List _). cond (q x) (x ∷ ys) ys) (filter_agree p q h xs)

pub filter_map : {X Y : Type 0} (f : X → Y) (p : Y → Bool) (xs : List X) → filter p (map f xs) ≡ map f (filter (λ x. p (f x)) xs)
filter_map f p [] = refl
filter_map f p (x ∷ xs) = ap (λ (ys : List _). cond (p (f x)) (f x ∷ ys) ys) (filter_map f p xs) ∙ out (p (f x)) (filter (λ x. p (f x)) xs)
  where
    out : (b : Bool) (ys : List _) → cond b (f x ∷ map f ys) (map f ys) ≡ map f (cond b (x ∷ ys) ys)
    out true ys = refl
    out false ys = refl

pub map_agree : {X Y : Type 0} (f g : X → Y) → ((x : X) → f x ≡ g x) → (xs : List X) → map f xs ≡ map g xs
map_agree f g h [] = refl
map_agree f g h (x ∷ xs) = ap (λ (y : _). y ∷ map f xs) (h x) ∙ ap (λ (ys : List _). g x ∷ ys) (map_agree f g h xs)

-- what passes one test and then the other passes both
pub filter_twice : {X : Type 0} (p q : X → Bool) (xs : List X) → filter q (filter p xs) ≡ filter (λ y. p y && q y) xs
filter_twice p q [] = refl
filter_twice p q (x ∷ xs) = inside (p x) ∙ ap (λ (ys : List _). cond (p x && q x) (x ∷ ys) ys) (filter_twice p q xs)
  where
    inside : (b : Bool) → filter q (cond b (x ∷ filter p xs) (filter p xs)) ≡ cond (b && q x) (x ∷ filter q (filter p xs)) (filter q (filter p xs))
    inside true = refl
    inside false = refl
