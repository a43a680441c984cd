-- Every place is listed, and a list is searched.
use Rattle.std.proofs.Common.{◌≡◌, ℕ, zero, suc, ◌<◌, ◌⊎◌, Bool, true, false, List, [], ◌∷◌, ◌++◌, map, length, slice_index_or, refl, ap, subst, inl, inr, ⊎_elim, arith, ◌+◌, ◌*◌, ◌∙◌, length-append}
use Rattle.std.specs.List.{Contains}
use Rattle.std.proofs.lemmas.Bool.{cases_Bool, cases_eq}
use Rattle.std.proofs.lemmas.List.Elements.{Contains-append_left, Contains-append_right}
use Rattle.std.proofs.lemmas.List.{length-map}
use Rattle.mp_names.specs.declared.kinds.Kind.{Kind}
use Rattle.mp_names.specs.declared.kinds.Kind.TheVariants.{Ingest, SendControl, Route, Receive, Extract, Settle, Apply, SendRow, Write, Exchange}
use Rattle.mp_names.specs.Names.{joined_below}
use Rattle.mp_names.specs.Outlines.{Outline}
use Rattle.mp_machine.specs.Steps.{KindFits, IsPlace}
use Rattle.mp_machine.specs.Places.{each_below, kinds_of, places}

here : {X : Type 0} (x : X) (xs : List X) → Contains (x ∷ xs) x
here x xs = (0, omega arith, refl)

later : {X : Type 0} (x y : X) (xs : List X) → Contains xs x → Contains (y ∷ xs) x
later x y xs h = let l = h.1 in (suc h.0, omega arith, h.2)

in_joined : {X : Type 0} (n : ℕ) (f : ℕ → List X) (i : ℕ) (x : X) → i < n → Contains (f i) x → Contains (joined_below n f) x
in_joined zero f i x l h = absurd (omega arith)
in_joined {X} (suc n) f i x l h =
    ⊎_elim
    (λ (e : i ≡ n). Contains-append_right (joined_below n f) (f n) x (subst (λ (k : ℕ). Contains (f k) x) e h))
    (λ (e : i ≡ n → ⊥). Contains-append_left (joined_below n f) (f n) x (in_joined n f i x (below i n l e) h))
    (cases_eq i n)
  where
    below : (i n : ℕ) → i < suc n → (i ≡ n → ⊥) → i < n
    below i n l e = grind arith

in_map : {X Y : Type 0} (f : X → Y) (xs : List X) (x : X) → Contains xs x → Contains (map f xs) (f x)
in_map {X = X} {Y = Y} f xs x h = go xs h.0 h.1 h.2
  where
    go : (xs : List X) (k : ℕ) → k < length xs → slice_index_or xs k x ≡ x → Contains (map f xs) (f x)
    go [] k l e = absurd (omega arith)
    go (y ∷ ys) zero l e = subst (λ (z : Y). Contains (map f (y ∷ ys)) z) (ap f e) (here (f y) (map f ys))
    go (y ∷ ys) (suc k) l e = later (f x) (f y) (map f ys) (go ys k (omega arith) e)

each : (n : ℕ) (kind : ℕ → Kind) (i : ℕ) → i < n → Contains (each_below n kind) (kind i)
each n kind i l = in_joined n (λ i. kind i ∷ []) i (kind i) l (here (kind i) [])

-- the beginning of the list of kinds, to the end of each of its parts

abbrev pub to_route : Outline → List Kind
to_route o = Ingest ∷ SendControl ∷ [] ++ each_below o.stages Route

abbrev pub to_receive : Outline → List Kind
to_receive o = to_route o ++ each_below o.workers Receive

abbrev pub to_extract : Outline → List Kind
to_extract o = to_receive o ++ each_below o.stages Extract

abbrev pub to_settle : Outline → List Kind
to_settle o = to_extract o ++ each_below o.stages Settle

abbrev pub to_apply : Outline → List Kind
to_apply o = to_settle o ++ each_below o.stages Apply

abbrev pub last_ones : List Kind
last_ones = SendRow ∷ Write ∷ Exchange ∷ []

in_apply : (o : Outline) (kind : Kind) → Contains (to_apply o) kind → Contains (kinds_of o) kind
in_apply o kind h = Contains-append_left (to_apply o) last_ones kind h

in_settle : (o : Outline) (kind : Kind) → Contains (to_settle o) kind → Contains (kinds_of o) kind
in_settle o kind h = in_apply o kind (Contains-append_left (to_settle o) (each_below o.stages Apply) kind h)

in_extract : (o : Outline) (kind : Kind) → Contains (to_extract o) kind → Contains (kinds_of o) kind
in_extract o kind h = in_settle o kind (Contains-append_left (to_extract o) (each_below o.stages Settle) kind h)

in_receive : (o : Outline) (kind : Kind) → Contains (to_receive o) kind → Contains (kinds_of o) kind
in_receive o kind h = in_extract o kind (Contains-append_left (to_receive o) (each_below o.stages Extract) kind h)

in_route : (o : Outline) (kind : Kind) → Contains (to_route o) kind → Contains (kinds_of o) kind
in_route o kind h = in_receive o kind (Contains-append_left (to_route o) (each_below o.workers Receive) kind h)

in_last : (o : Outline) (kind : Kind) → Contains last_ones kind → Contains (kinds_of o) kind
in_last o kind h = Contains-append_right (to_apply o) last_ones kind h

kind_listed : (o : Outline) (kind : Kind) → KindFits o kind → Contains (kinds_of o) kind
kind_listed o Ingest h = in_route o Ingest (here Ingest (SendControl ∷ each_below o.stages Route))
kind_listed o SendControl h = in_route o SendControl (later SendControl Ingest (SendControl ∷ each_below o.stages Route) (here SendControl (each_below o.stages Route)))
kind_listed o (Route j) h = in_route o (Route j) (Contains-append_right (Ingest ∷ SendControl ∷ []) (each_below o.stages Route) (Route j) (each o.stages Route j h))
kind_listed o (Receive v) h = in_receive o (Receive v) (Contains-append_right (to_route o) (each_below o.workers Receive) (Receive v) (each o.workers Receive v h))
kind_listed o (Extract j) h = in_extract o (Extract j) (Contains-append_right (to_receive o) (each_below o.stages Extract) (Extract j) (each o.stages Extract j h))
kind_listed o (Settle j) h = in_settle o (Settle j) (Contains-append_right (to_extract o) (each_below o.stages Settle) (Settle j) (each o.stages Settle j h))
kind_listed o (Apply j) h = in_apply o (Apply j) (Contains-append_right (to_settle o) (each_below o.stages Apply) (Apply j) (each o.stages Apply j h))
kind_listed o SendRow h = in_last o SendRow (here SendRow (Write ∷ Exchange ∷ []))
kind_listed o Write h = in_last o Write (later Write SendRow (Write ∷ Exchange ∷ []) (here Write (Exchange ∷ [])))
kind_listed o Exchange h = in_last o Exchange (later Exchange SendRow (Write ∷ Exchange ∷ []) (later Exchange Write (Exchange ∷ []) (here Exchange [])))

pub place_listed : (o : Outline) (w : ℕ) (kind : Kind) → IsPlace o w kind → Contains (places o) (w, kind)
place_listed o w kind h = in_joined o.workers (λ w. map (λ kind. (w, kind)) (kinds_of o)) w (w, kind) h.0 (in_map (λ kind. (w, kind)) (kinds_of o) kind (kind_listed o kind h.1))

-- one element passes the test, or none does
pub some_passes : {X : Type 0} (p : X → Bool) (xs : List X) → ((x : X) × Contains xs x × (p x ≡ true)) ⊎ ((x : X) → Contains xs x → p x ≡ false)
some_passes p [] = inr (λ x h. let l = h.1 in absurd (omega arith))
some_passes {X} p (y ∷ ys) =
    ⊎_elim
    (λ (e : p y ≡ true). inl (y, here y ys, e))
    (λ (e : p y ≡ false).
    ⊎_elim
    (λ (h : (x : X) × Contains ys x × (p x ≡ true)). inl (h.0, later h.0 y ys h.1, h.2))
    (λ (h : (x : X) → Contains ys x → p x ≡ false). inr (λ x c. at x c.0 c.1 c.2 e h))
    (some_passes p ys))
    (cases_Bool (p y))
  where
    at : (x : X) (k : ℕ) → k < length (y ∷ ys) → slice_index_or (y ∷ ys) k x ≡ x → p y ≡ false → ((x : X) → Contains ys x → p x ≡ false) → p x ≡ false
    at x zero l e f h = subst (λ (z : X). p z ≡ false) e f
    at x (suc k) l e f h = h x (k, omega arith, e)

-- how many there are

pub length_each : (n : ℕ) (kind : ℕ → Kind) → length (each_below n kind) ≡ n
length_each zero kind = refl
length_each (suc n) kind =
    let a : length (each_below (suc n) kind) ≡ length (each_below n kind) + length (kind n ∷ []) = length-append (each_below n kind) (kind n ∷ []) in
    let b = length_each n kind in
    omega arith

pub length_kinds : (o : Outline) → length (kinds_of o) ≡ 4 * o.stages + o.workers + 5
length_kinds o =
    let a = length-append (to_apply o) last_ones in
    let b = length-append (to_settle o) (each_below o.stages Apply) in
    let c = length-append (to_extract o) (each_below o.stages Settle) in
    let d = length-append (to_receive o) (each_below o.stages Extract) in
    let e = length-append (to_route o) (each_below o.workers Receive) in
    let f : length (to_route o) ≡ 2 + length (each_below o.stages Route) = length-append (Ingest ∷ SendControl ∷ []) (each_below o.stages Route) in
    let g = length_each o.stages Route in
    let h = length_each o.workers Receive in
    let i = length_each o.stages Extract in
    let j = length_each o.stages Settle in
    let k = length_each o.stages Apply in
    let l : length (kinds_of o) ≡ length (to_apply o) + length last_ones = a in
    omega arith

pub length_joined : {X : Type 0} (n m : ℕ) (f : ℕ → List X) → ((w : ℕ) → length (f w) ≡ m) → length (joined_below n f) ≡ n * m
length_joined zero m f h = omega arith
length_joined (suc n) m f h =
    let a : length (joined_below n f ++ f n) ≡ length (joined_below n f) + length (f n) = length-append (joined_below n f) (f n) in
    let b = length_joined n m f h in
    let c = h n in
    times n m (length (joined_below n f)) (length (f n)) (length (joined_below n f ++ f n)) a b c
  where
    times : (n m x y z : ℕ) → z ≡ x + y → x ≡ n * m → y ≡ m → z ≡ suc n * m
    times n m x y z a b c = grind arith

pub places_counted : (o : Outline) → length (places o) ≡ o.workers * (4 * o.stages + o.workers + 5)
places_counted o = length_joined o.workers (4 * o.stages + o.workers + 5) (λ w. map (λ kind. (w, kind)) (kinds_of o)) (λ w. length-map (kinds_of o) (λ kind. (w, kind)) ∙ length_kinds o)
