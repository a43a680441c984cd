-- Places whose steps were tried, one after another from some place on.
use Rattle.std.proofs.Common.{◌≡◌, ℕ, zero, suc, ◌+◌, ◌-◌, ◌%◌, ◌<◌, ◌≤◌, ◌⊎◌, true, List, [], ◌∷◌, length, Some, refl, sym, ◌∙◌, ap, subst, ⊎_elim, arith, slice_index_or, below_more}
use Rattle.std.proofs.Math.Nat.{add-mod_right, mod-eq_of_lt}
use Rattle.std.specs.List.{slice_get}
use Rattle.std.proofs.lemmas.List.{append-nil}
use Rattle.std.proofs.lemmas.Option.{slice_get-get_or, slice_get_cases}
use Rattle.mp_names.specs.declared.controls.Shape.{Shape}
use Rattle.mp_names.specs.declared.kinds.Kind.{Kind}
use Rattle.mp_names.specs.declared.names.Name.{Name}
use Rattle.mp_names.specs.declared.names.Name.TheVariants.{Row, Written}
use Rattle.mp_names.specs.Logs.{Log}
use Rattle.mp_names.specs.Frontiers.{HasEnded}
use Rattle.mp_names.specs.Names.{In}
use Rattle.mp_names.specs.Outlines.{Outline, OutlineIsSound}
use Rattle.mp_machine.specs.Places.{kinds_of, places}
use Rattle.mp_machine.specs.Runs.{NotNow, WorkerIsFinished, is_made, run_of_machine, turn_of_machine}
use Rattle.mp_machine.specs.Steps.{IsPlace}
use Rattle.mp_machine.specs.Worlds.{World}
use Rattle.mp_machine.proofs.Ends.{all_over}
use Rattle.mp_machine.proofs.Places.{place_listed}
use Rattle.mp_machine.proofs.Worlds.{run_right}
use Rattle.mp_worker_refinement.specs.State.{WorkerState}
use Rattle.mp_worker_refinement.specs.SystemState.{Refines, KnowsTheEnd, SystemState}
use Rattle.mp_plain.specs.Driven.{AllKnowTheEnd, AreAfter, AreReached, LeadsOn, turn_in}
use Rattle.mp_plain.specs.declared.places.Place.{Place}
use Rattle.mp_plain.specs.Places.{IsPlaceIn, kind_count, place_number}
use Rattle.mp_schedule.specs.Schedule.{AreFinished}
use Rattle.mp_plain.proofs.Numbered.{goes_round, kind_within, place_below, stands}
use Rattle.mp_plain.specs.Below.{Turn as Answered}
use Rattle.mp_plain.specs.Below.turn as worker
use Rattle.mp_plain.proofs.Leading.{was_not_now}

-- what a worker answers of a step that was made, and of one that was not
pub made_turn : (turn : Answered) → ((x : Name) × (n : ℕ) × (turn ≡ worker.Did x n)) ⊎ ((version : ℕ) × (turn ≡ worker.Seen version)) → is_made (turn_in turn) ≡ true
made_turn turn h =
    ⊎_elim
    (λ (k : (x : Name) × (n : ℕ) × (turn ≡ worker.Did x n)). ap (λ (t : Answered). is_made (turn_in t)) k.2)
    (λ (k : (version : ℕ) × (turn ≡ worker.Seen version)). ap (λ (t : Answered). is_made (turn_in t)) k.1)
    h

pub idle_turn : (turn : Answered) → ((x : Name) (n : ℕ) → turn ≡ worker.Did x n → ⊥) → ((version : ℕ) → turn ≡ worker.Seen version → ⊥) → turn_in turn ≡ NotNow
idle_turn (worker.Did x n) did seen = absurd (did x n refl)
idle_turn (worker.Seen version) did seen = absurd (seen version refl)
idle_turn worker.NotNow did seen = refl
idle_turn worker.Busy did seen = refl

-- whatever steps led here, the step of this place is not made now
abbrev pub IsNotNow : Outline → SystemState → ℕ × Kind → Type 0
IsNotNow o t p = (before : List (ℕ × Kind)) → AreAfter o before t → turn_of_machine o t.post.depth (run_of_machine o t.post.depth before) p.0 p.1 ≡ NotNow

-- of so many places from this one on, wrapping round, no step is made now
abbrev pub NoneOf : Outline → SystemState → (start tried : ℕ) → Type 0
NoneOf o t start tried = (k : ℕ) → k < tried → (p : ℕ × Kind) → slice_get (places o) ((start + k) % length (places o)) ≡ Some p → IsNotNow o t p

-- For a draw so many places were tried, and this one comes next
pub record ComesNext (o : Outline) (t : SystemState) (draw tried : ℕ) (place : ℕ × Kind) : Type 0 where
  pub some : 0 < length (places o)
  pub below : tried < length (places o)
  pub none : NoneOf o t (draw % length (places o)) tried
  pub is : slice_get (places o) ((draw % length (places o) + tried) % length (places o)) ≡ Some place

some_same : (a b : ℕ × Kind) → Some a ≡ Some b → a ≡ b
some_same a b e = cc

some_at : (xs : List Kind) (i : ℕ) → i < length xs → (x : Kind) × (slice_get xs i ≡ Some x)
some_at xs i l =
    ⊎_elim
    (λ (h : (x : Kind) × (i < length xs) × (slice_get xs i ≡ Some x) × _). (h.0, h.2))
    (λ (h : (length xs ≤ i) × _). absurd (omega (arith, h.0, l)))
    (slice_get_cases xs i).1

-- all places are tried, wherever that begins
wraps_to : (start place n : ℕ) → start < n → place < n → (k : ℕ) × (k < n) × ((start + k) % n ≡ place)
wraps_to start place n l m =
    ⊎_elim
    (λ (h : start ≤ place).
    let e : start + (place - start) ≡ place = omega arith in
    (place - start, omega arith, ap (λ (x : ℕ). x % n) e ∙ mod-eq_of_lt m))
    (λ (h : place < start).
    let e : start + (place + n - start) ≡ place + n = omega arith in
    (place + n - start, omega arith, ap (λ (x : ℕ). x % n) e ∙ add-mod_right place n ∙ mod-eq_of_lt m))
    (either start place)
  where
    either : (a b : ℕ) → (a ≤ b) ⊎ (b < a)
    either a b = grind arith

module _ (o : Outline) (t : SystemState) where
  none_of_any : (start : ℕ) → start < length (places o) → NoneOf o t start (length (places o)) → (w : ℕ) (kind : Kind) → IsPlace o w kind → IsNotNow o t (w, kind)
  none_of_any start l none w kind is =
      let c = place_listed o w kind is in
      let k = wraps_to start c.0 (length (places o)) l c.1 in
      none k.0 k.1 (w, kind) (ap (slice_get (places o)) k.2 ∙ slice_get-get_or (places o) c.0 (w, kind) c.1 ∙ ap Some c.2)

  -- a worker that is finished knows the end
  knows : (depth : ℕ) (world : World) (w : ℕ) (s : WorkerState) → Refines o depth t world → slice_get t.workers w ≡ Some s → WorkerIsFinished o world w → KnowsTheEnd o s
  knows depth world w s are is finished =
      let it = are.workers w s is in
      record {
        done = λ at has. subst (HasEnded o.until) (sym (it.seen at has)) (finished.done at has);
        written = λ z u g i.
            let first : w ≡ 0 = sym it.number ∙ z in
            let taken : In (Row u g) (world.worker w).log.took = subst (λ (log : Log). In (Row u g) log.took) it.log i in
            subst (λ (log : Log). In (Written u) log.settled) (sym it.log) (finished.written first u g taken);
      }

  -- where each worker is finished each knows the end
  pub know_where_finished : (before : List (ℕ × Kind)) → AreAfter o before t → AreFinished o (run_of_machine o t.post.depth before) → AllKnowTheEnd o t
  know_where_finished before are finished k d m =
      let all = are.all_workers in
      knows t.post.depth (run_of_machine o t.post.depth before) k (slice_index_or t.workers k d) are (slice_get-get_or t.workers k d m) (finished k (omega arith))

  -- where no step is made now, each worker knows that all is over
  pub all_know : OutlineIsSound o → 0 < t.post.depth → AreReached o t → (start : ℕ) → start < length (places o) → NoneOf o t start (length (places o)) → AllKnowTheEnd o t
  all_know ok deep reached start l none =
      let depth = t.post.depth in
      let world = run_of_machine o depth reached.0 in
      let over = all_over o ok depth deep world (run_right o ok depth reached.0) (λ w kind is. none_of_any start l none w kind is reached.0 reached.1) in
      know_where_finished reached.0 reached.1 over.1

  -- where a step can't be made in a state to which nothing has led on, it couldn't before
  not_now_before : (p : ℕ × Kind) (mid new : SystemState) → LeadsOn o [] [] t mid → LeadsOn o (p ∷ []) (NotNow ∷ []) mid new → IsNotNow o t p
  not_now_before p mid new still lead before are =
      let there : AreAfter o before mid = subst (λ (steps : List (ℕ × Kind)). AreAfter o steps mid) (append-nil before) (still.state_is before are) in
      subst (λ (d : ℕ). turn_of_machine o d (run_of_machine o d before) p.0 p.1 ≡ NotNow) still.depth (was_not_now o p mid new lead before there)

  -- one place more was tried
  pub none_more : (draw tried : ℕ) (p : ℕ × Kind) (mid new : SystemState) → ComesNext o t draw tried p → LeadsOn o [] [] t mid → LeadsOn o (p ∷ []) (NotNow ∷ []) mid new → NoneOf o t (draw % length (places o)) (tried + 1)
  none_more draw tried p mid new next still lead =
      below_more
      (λ (k : ℕ). (q : ℕ × Kind) → slice_get (places o) ((draw % length (places o) + k) % length (places o)) ≡ Some q → IsNotNow o t q)
      tried
      next.none
      (λ q e. let same : p ≡ q = some_same p q (sym next.is ∙ e) in subst (IsNotNow o t) same (not_now_before p mid new still lead))

  -- several places more were, of one worker
  module _ (draw tried more : ℕ) (shape : Shape) (place : Place) (mid : SystemState) (workers : o.workers ≡ shape.workers) (stages : o.stages ≡ shape.stages) (is : IsPlaceIn shape place) (inside : place.kind + more < kind_count shape)
      (at : place_number shape place ≡ (draw % length (places o) + tried) % length (places o)) where
    abbrev n : ℕ
    n = length (places o)

    abbrev ahead : ℕ → Place
    ahead j = record { worker = place.worker; kind = place.kind + j }

    within : (j : ℕ) → j ≤ more → IsPlaceIn shape (ahead j)
    within j l = record { worker = is.worker; kind = omega arith }

    -- the place so far ahead
    pub at_ahead : (j : ℕ) → j ≤ more → place_number shape (ahead j) ≡ (draw % n + (tried + j)) % n
    at_ahead zero l =
        let whole : place_number shape (ahead 0) ≡ place_number shape place = omega arith in
        let same : draw % n + tried ≡ draw % n + (tried + 0) = omega arith in
        whole ∙ at ∙ ap (λ (x : ℕ). x % n) same
    at_ahead (suc j) l =
        let whole : place_number shape (ahead (suc j)) ≡ place_number shape (ahead j) + 1 = omega arith in
        let more : draw % n + (tried + j + 1) ≡ draw % n + (tried + suc j) = omega arith in
        let below = place_below o shape (ahead (suc j)) workers stages (within (suc j) l) in
        goes_round (draw % n) (tried + j) (place_number shape (ahead (suc j))) (place_number shape (ahead j)) n (at_ahead j (omega arith)) (sym (mod-eq_of_lt below) ∙ ap (λ (x : ℕ). x % n) whole)
        ∙ ap (λ (x : ℕ). x % n) more

    pub none_in_row : NoneOf o t (draw % n) tried → LeadsOn o [] [] t mid → ((i : ℕ) (kind : Kind) → place.kind ≤ i → i < place.kind + more → slice_get (kinds_of o) i ≡ Some kind → LeadsOn o ((place.worker, kind) ∷ []) (NotNow ∷ []) mid mid) → NoneOf o t (draw % n) (tried + more)
    none_in_row none still idle k l p e =
        ⊎_elim
        (λ (b : k < tried). none k b p e)
        (λ (b : tried ≤ k).
        let j = k - tried in
        let same : tried + j ≡ k = omega arith in
        let below : j < more = omega arith in
        let there = kind_within o shape (ahead j) workers stages (within j (omega arith)) in
        let kind = some_at (kinds_of o) (place.kind + j) there in
        let stands_there = stands o shape (ahead j) kind.0 workers stages (within j (omega arith)) kind.1 in
        let number : place_number shape (ahead j) ≡ (draw % n + k) % n = at_ahead j (omega arith) ∙ ap (λ (x : ℕ). (draw % n + x) % n) same in
        let is_p : (place.worker, kind.0) ≡ p = some_same (place.worker, kind.0) p (sym stands_there ∙ ap (slice_get (places o)) number ∙ e) in
        subst (IsNotNow o t) is_p (not_now_before (place.worker, kind.0) mid mid still (idle (place.kind + j) kind.0 (omega arith) (omega arith) kind.1)))
        (either k tried)
      where
        either : (a b : ℕ) → (a < b) ⊎ (b ≤ a)
        either a b = grind arith
