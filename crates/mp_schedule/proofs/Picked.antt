-- The step that a draw picks, and the steps of a schedule.
use Rattle.std.proofs.Common.{◌≡◌, ℕ, zero, suc, ◌+◌, ◌-◌, ◌%◌, ◌<◌, ◌≤◌, ◌⊎◌, Bool, true, false, cond, List, [], ◌∷◌, ◌++◌, None, Some, drop, find, length, take, refl, sym, ◌∙◌, ap, subst, ⊎_elim, arith, length-drop}
use Rattle.std.proofs.Math.Nat.{add-mod_right, mod-eq_of_lt, mod-lt}
use Rattle.std.proofs.Math.Seq.{take-append_seam}
use Rattle.std.proofs.lemmas.List.{take-append-le}
use Rattle.std.proofs.lemmas.Option.{slice_get_cases, slice_get_within}
use Rattle.std.specs.Prelude.{slice_get}
use Rattle.mp_names.specs.declared.kinds.Kind.{Kind}
use Rattle.mp_names.specs.Outlines.{Outline}
use Rattle.mp_machine.specs.Places.{places}
use Rattle.mp_machine.specs.Runs.{Turn, is_made, run_of_machine, turn_of_machine, world_after}
use Rattle.mp_machine.specs.Worlds.{World}
use Rattle.mp_worker_refinement.specs.SystemState.{SystemState}
use Rattle.mp_draws.specs.Draws.{draw_of}
use Rattle.mp_plain.specs.Below.{behind, in_front}
use Rattle.mp_plain.specs.Driven.{AreAfter}
use Rattle.mp_schedule.specs.Schedule.{AreFinished, AreScheduled, IsTried, can_make, pick, places_from}
use Rattle.mp_tally.proofs.Lists.{push_all}
use Rattle.mp_schedule.proofs.Tried.{ComesNext}

-- Lists that are rotated

at_drop : {X : Type 0} (xs : List X) (s k : ℕ) → slice_get (drop s xs) k ≡ slice_get xs (s + k)
at_drop xs zero k = let e : k ≡ 0 + k = omega arith in ap (slice_get xs) e
at_drop [] (suc s) k = let e : suc s + k ≡ suc (s + k) = omega arith in sym (ap (slice_get []) e)
at_drop (x ∷ xs) (suc s) k = let e : suc (s + k) ≡ suc s + k = omega arith in at_drop xs s k ∙ ap (slice_get (x ∷ xs)) e

at_take : {X : Type 0} (xs : List X) (s k : ℕ) → k < s → slice_get (take s xs) k ≡ slice_get xs k
at_take xs zero k l = absurd (omega arith)
at_take [] (suc s) k l = refl
at_take (x ∷ xs) (suc s) zero l = refl
at_take (x ∷ xs) (suc s) (suc k) l = at_take xs s k (omega arith)

either : (a b : ℕ) → (a < b) ⊎ (b ≤ a)
either a b = grind arith

-- an element stands in the rotated list as far behind the place where that begins as it stands in the list, wrapping round
rotated : {X : Type 0} (xs : List X) (s k : ℕ) (x : X) → s < length xs → k < length xs → slice_get xs ((s + k) % length xs) ≡ Some x → slice_get (drop s xs ++ take s xs) k ≡ Some x
rotated {X} xs s k x l m is =
    ⊎_elim
    (λ (h : s + k < length xs).
    in_front (drop s xs) (take s xs) k x (at_drop xs s k ∙ sym (ap (slice_get xs) (mod-eq_of_lt h)) ∙ is))
    (λ (h : length xs ≤ s + k).
    let j = s + k - length xs in
    let whole : s + k ≡ j + length xs = omega arith in
    let inside : j < length xs = omega arith in
    let before : j < s = omega arith in
    let at : (s + k) % length xs ≡ j = ap (λ (n : ℕ). n % length xs) whole ∙ add-mod_right j (length xs) ∙ mod-eq_of_lt inside in
    let far = length-drop s xs in
    behind (drop s xs) (take s xs) k j x (omega arith) (at_take xs s j before ∙ sym (ap (slice_get xs) at) ∙ is))
    (either (s + k) (length xs))

some_same : {X : Type 0} (x y : X) → Some x ≡ Some y → x ≡ y
some_same x y e = cc

-- what stands at a place of the rotated list stands in the list
unrotated : {X : Type 0} (xs : List X) (s k : ℕ) (x : X) → s < length xs → k < length xs → slice_get (drop s xs ++ take s xs) k ≡ Some x → slice_get xs ((s + k) % length xs) ≡ Some x
unrotated {X} xs s k x l m is =
    let some : 0 < length xs = omega arith in
    let inside : (s + k) % length xs < length xs = mod-lt (s + k) some in
    ⊎_elim
    (λ (h : (y : X) × ((s + k) % length xs < length xs) × (slice_get xs ((s + k) % length xs) ≡ Some y) × _).
    h.2 ∙ sym (rotated xs s k h.0 l m h.2) ∙ is)
    (λ (h : (length xs ≤ (s + k) % length xs) × _). absurd (omega (arith, h.0, inside)))
    (slice_get_cases xs ((s + k) % length xs)).1

-- Searches

-- the first that does is found
found : {X : Type 0} (p : X → Bool) (xs : List X) (k : ℕ) (x : X) → slice_get xs k ≡ Some x → p x ≡ true → ((i : ℕ) (y : X) → i < k → slice_get xs i ≡ Some y → p y ≡ false) → find p xs ≡ Some x
found p [] k x is does before = absurd (cc)
found p (z ∷ xs) zero x is does before =
    let same : z ≡ x = some_same z x is in
    ap (λ (b : Bool). cond b (Some z) (find p xs)) (ap p same ∙ does) ∙ is
found p (z ∷ xs) (suc k) x is does before =
    ap (λ (b : Bool). cond b (Some z) (find p xs)) (before 0 z (omega arith) refl)
    ∙ found p xs k x is does (λ i y l e. before (suc i) y (omega arith) e)

-- where none does, none is found
found_none : {X : Type 0} (p : X → Bool) (xs : List X) (k : ℕ) → ((i : ℕ) (y : X) → i < k → slice_get xs i ≡ Some y → p y ≡ false) → find p (take k xs) ≡ None
found_none p xs zero before = refl
found_none p [] (suc k) before = refl
found_none p (z ∷ xs) (suc k) before =
    ap (λ (b : Bool). cond b (Some z) (find p (take k xs))) (before 0 z (omega arith) refl)
    ∙ found_none p xs k (λ i y l e. before (suc i) y (omega arith) e)

module _ (o : Outline) (t : SystemState) (draw tried : ℕ) (place : ℕ × Kind) where
  abbrev start : ℕ
  start = draw % length (places o)

  module _ (next : ComesNext o t draw tried place) (before : List (ℕ × Kind)) (are : AreAfter o before t) where
    abbrev world : World
    world = run_of_machine o t.post.depth before

    within : start < length (places o)
    within = mod-lt draw next.some

    stands : slice_get (places_from o draw) tried ≡ Some place
    stands = rotated (places o) start tried place within next.below next.is

    none_before : (i : ℕ) (p : ℕ × Kind) → i < tried → slice_get (places_from o draw) i ≡ Some p → can_make o t.post.depth world p ≡ false
    none_before i p m e =
        let l = next.below in
        ap is_made (next.none i m p (unrotated (places o) start i p within (omega arith) e) before are)

    -- its step is tried
    pub tries : IsTried o t.post.depth world draw place
    tries = (tried, stands, found_none (can_make o t.post.depth world) (places_from o draw) tried none_before)

    -- where it can be made it is picked
    pub picks : (turn : Turn) → turn_of_machine o t.post.depth world place.0 place.1 ≡ turn → is_made turn ≡ true → pick o t.post.depth world draw ≡ Some place
    picks turn e made = found (can_make o t.post.depth world) (places_from o draw) tried place stands (ap is_made e ∙ made) none_before

-- one more step of a schedule
pub one_more_scheduled : (o : Outline) (depth seed : ℕ) (world : World) (steps : List (ℕ × Kind)) (step : ℕ × Kind) → AreScheduled o depth seed world steps
    → (AreFinished o (world_after o depth world steps) → ⊥) → pick o depth (world_after o depth world steps) (draw_of seed (length steps)) ≡ Some step → AreScheduled o depth seed world (steps ++ step ∷ [])
one_more_scheduled o depth seed world steps step before unfinished picked =
    push_all P steps step (λ n p is. was n p (slice_get_within steps n p is) (before n p is))
    (subst (λ (made : List (ℕ × Kind)). (AreFinished o (world_after o depth world made) → ⊥) × (pick o depth (world_after o depth world made) (draw_of seed (length steps)) ≡ Some step)) (sym (take-append_seam steps (step ∷ []))) (unfinished, picked))
  where
    P : ℕ → ℕ × Kind → Type 0
    P n p = (AreFinished o (world_after o depth world (take n (steps ++ step ∷ []))) → ⊥) × (pick o depth (world_after o depth world (take n (steps ++ step ∷ []))) (draw_of seed n) ≡ Some p)

    was : (n : ℕ) (p : ℕ × Kind) → n < length steps → (AreFinished o (world_after o depth world (take n steps)) → ⊥) × (pick o depth (world_after o depth world (take n steps)) (draw_of seed n) ≡ Some p) → P n p
    was n p l h =
        subst (λ (made : List (ℕ × Kind)). (AreFinished o (world_after o depth world made) → ⊥) × (pick o depth (world_after o depth world made) (draw_of seed n) ≡ Some p)) (sym (take-append-le n steps (step ∷ []) (omega arith))) h
