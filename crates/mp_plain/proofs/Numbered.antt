-- The place of a number, and its kind.
use Rattle.std.proofs.Common.{◌≡◌, ℕ, zero, suc, false, None, ◌+◌, ◌*◌, ◌%◌, ◌<◌, ◌≤◌, List, [], ◌∷◌, ◌++◌, map, length, Some, ap, refl, ◌∙◌, sym, subst, arith, ⊎_elim, ◌⊎◌, inl, inr}
use Rattle.std.specs.List.{slice_get}
use Rattle.std.proofs.Math.Nat.{mod-eq_of_lt, mod-lt, mod_self, suc-mod}
use Rattle.std.proofs.lemmas.List.{length-map}
use Rattle.std.proofs.lemmas.Nat.{mul-le}
use Rattle.mp_names.specs.declared.controls.Shape.{Shape}
use Rattle.mp_names.specs.declared.kinds.Kind.{Kind}
use Rattle.mp_names.specs.declared.kinds.Kind.TheVariants.{Apply, Exchange, Extract, Ingest, Receive, Route, SendControl, SendRow, Settle, Write}
use Rattle.mp_names.specs.Names.{joined_below}
use Rattle.mp_names.specs.Outlines.{Outline}
use Rattle.mp_machine.specs.Places.{each_below, kinds_of, places}
use Rattle.mp_machine.specs.Steps.{KindFits}
use Rattle.mp_machine.proofs.Places.{length_joined, length_kinds, last_ones, places_counted, to_apply, to_extract, to_receive, to_route, to_settle}
use Rattle.mp_worker.proofs.Numbered.{behind, in_front, last_or_not}
use Rattle.mp_plain.specs.declared.places.Place.{Place}
use Rattle.mp_plain.specs.Places.{IsPlaceIn, kind_count, place_number}

at_map : {X Y : Type 0} (f : X → Y) (xs : List X) (i : ℕ) (x : X) → slice_get xs i ≡ Some x → slice_get (map f xs) i ≡ Some (f x)
at_map f [] i x h = absurd (cc)
at_map f (y ∷ xs) zero x h = let e : y ≡ x = cc in ap (λ z. Some (f z)) e
at_map f (y ∷ xs) (suc i) x h = at_map f xs i x h

after_joined : (n m i k y : ℕ) → i ≡ m * n + k → y ≡ n * m → i ≡ y + k
after_joined n m i k y e f = omega arith

-- in lists of one length that follow one another
at_joined : {X : Type 0} (n m : ℕ) (f : ℕ → List X) → ((w : ℕ) → length (f w) ≡ m) → (w i k : ℕ) (x : X) → w < n → i ≡ m * w + k → slice_get (f w) k ≡ Some x → slice_get (joined_below n f) i ≡ Some x
at_joined zero m f h w i k x l e g = absurd (omega arith)
at_joined (suc n) m f h w i k x l e g =
    ⊎_elim
    (λ (b : w < n). in_front (joined_below n f) (f n) i x (at_joined n m f h w i k x b e g))
    (λ (b : w ≡ n).
    behind (joined_below n f) (f n) i k x (after_joined n m i k (length (joined_below n f)) (subst (λ (v : ℕ). i ≡ m * v + k) b e) (length_joined n m f h)) (subst (λ (v : ℕ). slice_get (f v) k ≡ Some x) b g))
    (last_or_not w n l)

in_kind : (o : Outline) (w i k : ℕ) (kind : Kind) → w < o.workers → i ≡ length (kinds_of o) * w + k → slice_get (kinds_of o) k ≡ Some kind → slice_get (places o) i ≡ Some (w, kind)
in_kind o w i k kind l e h =
    at_joined o.workers (length (kinds_of o)) (λ w. map (λ kind. (w, kind)) (kinds_of o)) (λ v. length-map (kinds_of o) (λ kind. (v, kind))) w i k (w, kind) l e (at_map (λ kind. (w, kind)) (kinds_of o) k kind h)

-- an outline of so many workers and stages, for what is asked of all of them
abbrev pub some_outline : ℕ → ℕ → Outline
some_outline workers stages = record {
  workers = workers;
  bins = 0;
  stages = stages;
  controls = [];
  first_owner = λ j b. 0;
  bin_of = λ k. 0;
  records = λ j. [];
  posts = λ x. [];
  rows = [];
  opening = λ j. [];
  bundle = 0;
  paced = false;
  until = None;
}

-- what is counted for all outlines of a shape
pub kinds_counted : (shape : Shape) (n : ℕ) → ((o : Outline) → o.workers ≡ shape.workers → o.stages ≡ shape.stages → n ≡ length (kinds_of o)) → n ≡ kind_count shape
kinds_counted shape n h =
    let o = some_outline shape.workers shape.stages in
    let l = length_kinds o in
    let m = h o refl refl in
    omega arith

pub same_product : (a b x y : ℕ) → a ≡ b → x ≡ y → a * x ≡ b * y
same_product a b x y e f = cc

pub as_many : (o : Outline) (shape : Shape) → o.workers ≡ shape.workers → o.stages ≡ shape.stages → length (places o) ≡ shape.workers * kind_count shape
as_many o shape workers stages =
    let same : 4 * o.stages + o.workers + 5 ≡ kind_count shape = omega (arith, workers, stages) in
    places_counted o ∙ same_product o.workers shape.workers (4 * o.stages + o.workers + 5) (kind_count shape) workers same

-- The place behind another

inside : (w n k c : ℕ) → w < n → k < c → c * w + k < n * c
inside w n k c l m =
    let more : (w + 1) * c ≤ n * c = mul-le (w + 1) c n c (omega arith) (omega arith) in
    grind arith

-- it is of the same worker
pub next_kind : (w n k c : ℕ) → w < n → k + 1 < c → c * w + (k + 1) ≡ (c * w + k + 1) % (n * c)
next_kind w n k c l m =
    let e : c * w + (k + 1) ≡ c * w + k + 1 = omega arith in
    e ∙ sym (mod-eq_of_lt (subst (λ (x : ℕ). x < n * c) e (inside w n (k + 1) c l m)))

-- it is of the next worker
pub next_worker : (w n k c : ℕ) → w + 1 < n → k < c → c ≤ k + 1 → c * (w + 1) + 0 ≡ (c * w + k + 1) % (n * c)
next_worker w n k c l m last =
    let e : c * (w + 1) + 0 ≡ c * w + k + 1 = times w k c (omega arith) in
    e ∙ sym (mod-eq_of_lt (subst (λ (x : ℕ). x < n * c) e (inside (w + 1) n 0 c l (omega arith))))
  where
    times : (w k c : ℕ) → c ≡ k + 1 → c * (w + 1) + 0 ≡ c * w + k + 1
    times w k c e = grind arith

-- it is the first of all
pub first_again : (w n k c : ℕ) → w < n → n ≤ w + 1 → k < c → c ≤ k + 1 → c * 0 + 0 ≡ (c * w + k + 1) % (n * c)
first_again w n k c l far m last =
    let all : w + 1 ≡ n = omega arith in
    let e : c * w + k + 1 ≡ n * c = times w k c (omega arith) ∙ ap (λ (x : ℕ). x * c) all in
    let none : c * 0 + 0 ≡ 0 = grind arith in
    none ∙ sym (mod_self (n * c)) ∙ sym (ap (λ (x : ℕ). x % (n * c)) e)
  where
    times : (w k c : ℕ) → c ≡ k + 1 → c * w + k + 1 ≡ (w + 1) * c
    times w k c e = grind arith

pub place_below : (o : Outline) (shape : Shape) (place : Place) → o.workers ≡ shape.workers → o.stages ≡ shape.stages → IsPlaceIn shape place → place_number shape place < length (places o)
place_below o shape place workers stages is = subst (λ (n : ℕ). place_number shape place < n) (sym (as_many o shape workers stages)) (inside place.worker shape.workers place.kind (kind_count shape) is.worker is.kind)

-- the first of a round
pub first_of_round : (draw at n : ℕ) → 0 < n → at ≡ draw % n → at ≡ (draw % n + 0) % n
first_of_round draw at n some e =
    let same : draw % n + 0 ≡ draw % n = omega arith in
    e ∙ sym (mod-eq_of_lt (mod-lt draw some)) ∙ sym (ap (λ (x : ℕ). x % n) same)

-- from one place to the next, in a round from some place on
pub goes_round : (start tried next at n : ℕ) → at ≡ (start + tried) % n → next ≡ (at + 1) % n → next ≡ (start + (tried + 1)) % n
goes_round start tried next at n was e =
    let one : at + 1 ≡ suc at = omega arith in
    let more : suc (start + tried) ≡ start + (tried + 1) = omega arith in
    e ∙ ap (λ (x : ℕ). x % n) one ∙ ap (λ (x : ℕ). suc x % n) was ∙ sym (suc-mod (start + tried) n) ∙ ap (λ (x : ℕ). x % n) more

-- a place of a job's shape stands in the places of its outline
pub kind_within : (o : Outline) (shape : Shape) (place : Place) → o.workers ≡ shape.workers → o.stages ≡ shape.stages → IsPlaceIn shape place → place.kind < length (kinds_of o)
kind_within o shape place workers stages is =
    let l = length_kinds o in
    omega (arith, is.kind, workers, stages)

pub stands : (o : Outline) (shape : Shape) (place : Place) (kind : Kind) → o.workers ≡ shape.workers → o.stages ≡ shape.stages → IsPlaceIn shape place → slice_get (kinds_of o) place.kind ≡ Some kind → slice_get (places o) (place_number shape place) ≡ Some (place.worker, kind)
stands o shape place kind workers stages is h =
    let l = length_kinds o in
    let same : kind_count shape ≡ length (kinds_of o) = omega (arith, l, workers, stages) in
    in_kind o place.worker (place_number shape place) place.kind kind (omega (arith, is.worker, workers)) (ap (λ (x : ℕ). x * place.worker + place.kind) same) h

-- what stands in one list behind another stands in one of them
in_either : {X : Type 0} (xs ys : List X) (i : ℕ) (x : X) → slice_get (xs ++ ys) i ≡ Some x → (slice_get xs i ≡ Some x) ⊎ ((k : ℕ) × (slice_get ys k ≡ Some x))
in_either [] ys i x h = inr (i, h)
in_either (y ∷ xs) ys zero x h = inl h
in_either (y ∷ xs) ys (suc i) x h = in_either xs ys i x h

-- The outline has what each of its kinds names

each_is : (n : ℕ) (make : ℕ → Kind) (i : ℕ) (kind : Kind) → slice_get (each_below n make) i ≡ Some kind → (k : ℕ) × (k < n) × (make k ≡ kind)
each_is zero make i kind h = absurd (cc)
each_is (suc n) make i kind h =
    ⊎_elim
    (λ (b : slice_get (each_below n make) i ≡ Some kind). let r = each_is n make i kind b in let l = r.1 in (r.0, omega arith, r.2))
    (λ (b : (k : ℕ) × (slice_get (make n ∷ []) k ≡ Some kind)). (n, omega arith, only b.0 b.1))
    (in_either (each_below n make) (make n ∷ []) i kind h)
  where
    only : (k : ℕ) → slice_get (make n ∷ []) k ≡ Some kind → make n ≡ kind
    only zero e = cc
    only (suc k) e = absurd (cc)

module _ (o : Outline) (kind : Kind) where
  each_fits : (n : ℕ) (make : ℕ → Kind) → ((k : ℕ) → k < n → KindFits o (make k)) → (k : ℕ) → slice_get (each_below n make) k ≡ Some kind → KindFits o kind
  each_fits n make fits k h = let r = each_is n make k kind h in subst (KindFits o) r.2 (fits r.0 r.1)

  first_fits : (i : ℕ) → slice_get (Ingest ∷ SendControl ∷ []) i ≡ Some kind → KindFits o kind
  first_fits zero h = let e : Ingest ≡ kind = cc in subst (KindFits o) e tt
  first_fits (suc zero) h = let e : SendControl ≡ kind = cc in subst (KindFits o) e tt
  first_fits (suc (suc i)) h = absurd (cc)

  last_fits : (i : ℕ) → slice_get last_ones i ≡ Some kind → KindFits o kind
  last_fits zero h = let e : SendRow ≡ kind = cc in subst (KindFits o) e tt
  last_fits (suc zero) h = let e : Write ≡ kind = cc in subst (KindFits o) e tt
  last_fits (suc (suc zero)) h = let e : Exchange ≡ kind = cc in subst (KindFits o) e tt
  last_fits (suc (suc (suc i))) h = absurd (cc)

  behind_fits : (xs ys : List Kind) → ((i : ℕ) → slice_get xs i ≡ Some kind → KindFits o kind) → ((i : ℕ) → slice_get ys i ≡ Some kind → KindFits o kind) → (i : ℕ) → slice_get (xs ++ ys) i ≡ Some kind → KindFits o kind
  behind_fits xs ys first second i h = ⊎_elim (λ (b : slice_get xs i ≡ Some kind). first i b) (λ (b : (k : ℕ) × (slice_get ys k ≡ Some kind)). second b.0 b.1) (in_either xs ys i kind h)

  pub kind_fits : (i : ℕ) → slice_get (kinds_of o) i ≡ Some kind → KindFits o kind
  kind_fits =
      behind_fits (to_apply o) last_ones
      (behind_fits (to_settle o) (each_below o.stages Apply)
      (behind_fits (to_extract o) (each_below o.stages Settle)
      (behind_fits (to_receive o) (each_below o.stages Extract)
      (behind_fits (to_route o) (each_below o.workers Receive)
      (behind_fits (Ingest ∷ SendControl ∷ []) (each_below o.stages Route) first_fits (each_fits o.stages Route (λ k l. l)))
      (each_fits o.workers Receive (λ k l. l)))
      (each_fits o.stages Extract (λ k l. l)))
      (each_fits o.stages Settle (λ k l. l)))
      (each_fits o.stages Apply (λ k l. l)))
      last_fits

of_worker : (w : ℕ) (kinds : List Kind) (i : ℕ) (p : ℕ × Kind) → slice_get (map (λ kind. (w, kind)) kinds) i ≡ Some p → p.0 ≡ w
of_worker w [] i p h = absurd (cc)
of_worker w (kind ∷ kinds) zero p h = let e : (w, kind) ≡ p = some_same (w, kind) p h in ap (λ (r : ℕ × Kind). r.0) (sym e)
  where
    some_same : (a b : ℕ × Kind) → Some a ≡ Some b → a ≡ b
    some_same a b e = cc
of_worker w (kind ∷ kinds) (suc i) p h = of_worker w kinds i p h

of_workers_below : (n : ℕ) (kinds : List Kind) (i : ℕ) (p : ℕ × Kind) → slice_get (joined_below n (λ w. map (λ kind. (w, kind)) kinds)) i ≡ Some p → p.0 < n
of_workers_below zero kinds i p h = absurd (cc)
of_workers_below (suc n) kinds i p h =
    ⊎_elim
    (λ (k : slice_get (joined_below n (λ w. map (λ kind. (w, kind)) kinds)) i ≡ Some p). let l = of_workers_below n kinds i p k in omega arith)
    (λ (k : (j : ℕ) × (slice_get (map (λ kind. (n, kind)) kinds) j ≡ Some p)). let e = of_worker n kinds k.0 p k.1 in omega arith)
    (in_either (joined_below n (λ w. map (λ kind. (w, kind)) kinds)) (map (λ kind. (n, kind)) kinds) i p h)

-- a place is one of the outline's workers
pub place_is_of_worker : (o : Outline) (i : ℕ) (p : ℕ × Kind) → slice_get (places o) i ≡ Some p → p.0 < o.workers
place_is_of_worker o i p h = of_workers_below o.workers (kinds_of o) i p h

pub some_places : (o : Outline) → 0 < o.workers → 0 < length (places o)
some_places o some =
    let n = places_counted o in
    let m = mul-le 1 1 o.workers (4 * o.stages + o.workers + 5) (omega arith) (omega arith) in
    omega arith
