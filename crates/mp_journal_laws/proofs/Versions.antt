-- The board's version along the steps of a merge, and what exchanges carry.
use Rattle.std.proofs.Common.{◌≡◌, ℕ, suc, ◌≤◌, ◌⊎◌, ◌==◌, Bool, true, false, cond, List, [], ◌∷◌, map, filter, Some, refl, sym, ap, ◌∙◌, subst, inl, inr, ⊎_elim, le_refl, le_trans, arith}
use Rattle.std.proofs.lemmas.Bool.{false≢true, both_ways, eq-eqb, ne_eqb, cond-true, cond-false, cases_eq, cases_Bool}
use Rattle.std.proofs.lemmas.Option.{none-some}
use Rattle.mp_names.specs.declared.kinds.Kind.{Kind}
use Rattle.mp_names.specs.declared.kinds.Kind.TheVariants.{Exchange}
use Rattle.mp_names.specs.Outlines.{Outline}
use Rattle.mp_names.specs.Logs.{Log}
use Rattle.mp_machine.specs.Worlds.{Worker, World}
use Rattle.mp_machine.specs.Steps.{same_log, version_after}
use Rattle.mp_machine.specs.Tests.{can_exchange}
use Rattle.mp_machine.specs.Runs.{Turn, Did, Saw, NotNow, after_turn, turn_of, turn_of_machine, step_of_machine}
use Rattle.mp_machine.proofs.Searches.{some_same}
use Rattle.mp_machine.proofs.Turns.{own_log, same_log_is}
use Rattle.mp_names.specs.declared.kinds.Kept.{Kept}
use Rattle.mp_journal_laws.specs.Journals.{steps_of, is_exchange, next_version}
use Rattle.mp_journal_laws.specs.Merges.{IsTurnOf, IsMade, AreMade}
use Rattle.mp_journal_laws.proofs.Commute.{good_after, version_stays}
use Rattle.mp_journal_laws.proofs.Turns.{exchange_is}

-- lists

pub cons_same : {X : Type 0} (x y : X) (xs ys : List X) → x ∷ xs ≡ y ∷ ys → (x ≡ y) × (xs ≡ ys)
cons_same x y xs ys e = (cc, cc)

pub not_empty : {X : Type 0} (x : X) (xs : List X) → [] ≡ x ∷ xs → ⊥
not_empty x xs e = cc

-- the steps of a worker, where the first step is its own, or another's

abbrev is_of : ℕ → ℕ × Kept → Bool
is_of w s = s.0 == w

abbrev kept_of : ℕ × Kept → Kept
kept_of s = s.1

pub own_steps : (w : ℕ) (s : ℕ × Kept) (steps : List (ℕ × Kept)) → s.0 ≡ w → steps_of w (s ∷ steps) ≡ s.1 ∷ steps_of w steps
own_steps w s steps e = ap (map kept_of) (cond-true (s.0 == w) (s ∷ filter (is_of w) steps) (filter (is_of w) steps) (eq-eqb s.0 w e))

pub other_steps : (w : ℕ) (s : ℕ × Kept) (steps : List (ℕ × Kept)) → (s.0 ≡ w → ⊥) → steps_of w (s ∷ steps) ≡ steps_of w steps
other_steps w s steps n = ap (map kept_of) (cond-false (s.0 == w) (s ∷ filter (is_of w) steps) (filter (is_of w) steps) (ne_eqb s.0 w n))

-- the next exchange's version, where the first step is one, or isn't

pub next_is_first : (s : Kept) (steps : List Kept) → s.kind ≡ Exchange → next_version (s ∷ steps) ≡ Some s.version
next_is_first s steps e = cond-true (is_exchange s.kind) (Some s.version) (next_version steps) (ap is_exchange e)

pub next_is_later : (s : Kept) (steps : List Kept) → is_exchange s.kind ≡ false → next_version (s ∷ steps) ≡ next_version steps
next_is_later s steps e = cond-false (is_exchange s.kind) (Some s.version) (next_version steps) e

-- logs that were posted, and those that weren't

pub cases_posted : (worker : Worker) → (worker.log ≡ worker.posted) ⊎ ((worker.log ≡ worker.posted → ⊥) × (same_log worker.log worker.posted ≡ false))
cases_posted worker =
    ⊎_elim
    (λ (e : same_log worker.log worker.posted ≡ true). inl (same_log_is worker.log worker.posted e))
    (λ (e : same_log worker.log worker.posted ≡ false). inr ((λ d. both_ways (same_log worker.log worker.posted) e (ap (λ (l : Log). same_log worker.log l) (sym d) ∙ own_log worker.log)), e))
    (cases_Bool (same_log worker.log worker.posted))

pub version_rises : (world : World) (w : ℕ) → same_log (world.worker w).log (world.worker w).posted ≡ false → version_after world w ≡ suc world.version
version_rises world w e = cond-false (same_log (world.worker w).log (world.worker w).posted) world.version (suc world.version) e

at_least : (b : Bool) (n : ℕ) → n ≤ cond b n (suc n)
at_least true n = le_refl n
at_least false n = omega arith

pub version_after_least : (world : World) (w : ℕ) → world.version ≤ version_after world w
version_after_least world w = at_least (same_log (world.worker w).log (world.worker w).posted) world.version

more_after : (b : Bool) (n m : ℕ) → n ≤ m → cond b n (suc n) ≤ cond b m (suc m)
more_after true n m l = l
more_after false n m l = omega arith

-- with a later version an exchange gives a later one
pub version_after_grows : (world new : World) (w : ℕ) → new.worker w ≡ world.worker w → world.version ≤ new.version → version_after world w ≤ version_after new w
version_after_grows world new w e l =
    subst (λ (k : Worker). version_after world w ≤ cond (same_log k.log k.posted) new.version (suc new.version)) (sym e)
    (more_after (same_log (world.worker w).log (world.worker w).posted) world.version new.version l)

-- one step

version_goes : (o : Outline) (world : World) (w : ℕ) (kind : Kind) (turn : Turn) → world.version ≤ (after_turn o world w kind turn).version
version_goes o world w kind (Did x n) = le_refl world.version
version_goes o world w kind (Saw v) = version_after_least world w
version_goes o world w kind NotNow = le_refl world.version

pub version_grows : (o : Outline) (depth : ℕ) (world : World) (w : ℕ) (kind : Kind) → world.version ≤ (step_of_machine o depth world w kind).version
unfolding step_of_machine
version_grows o depth world w kind = version_goes o world w kind (turn_of_machine o depth world w kind)

pub worker_stays : (o : Outline) (depth : ℕ) (world : World) (w v : ℕ) → (w ≡ v → ⊥) → (kind : Kind) → (step_of_machine o depth world v kind).worker w ≡ world.worker w
unfolding step_of_machine
worker_stays o depth world w v apart kind = (good_after o world w v apart kind (turn_of_machine o depth world v kind)).same

pub version_stays_after : (o : Outline) (depth : ℕ) (world : World) (w : ℕ) (kind : Kind) → is_exchange kind ≡ false → (step_of_machine o depth world w kind).version ≡ world.version
unfolding step_of_machine turn_of_machine
version_stays_after o depth world w kind none = version_stays o depth world w kind (turn_of o depth world w kind) refl (λ e. absurd (both_ways (is_exchange kind) none (ap is_exchange e)))

pub not_now : (o : Outline) (depth : ℕ) (world : World) (w : ℕ) (step : Kept) → IsMade o depth world w step → turn_of_machine o depth world w step.kind ≡ NotNow → ⊥
not_now o depth world w step made e = subst (IsTurnOf step) e made

chosen_version : (b : Bool) (step : Kept) (v : ℕ) → IsTurnOf step (cond b (Saw v) NotNow) → (b ≡ true) × (step.version ≡ v)
chosen_version true step v h = (refl, h)
chosen_version false step v h = absurd h

-- an exchange that is made carries the version after it
pub carries : (o : Outline) (depth : ℕ) (world : World) (w : ℕ) (step : Kept) → step.kind ≡ Exchange → IsMade o depth world w step → step.version ≡ version_after world w
unfolding turn_of_machine
carries o depth world w step e made = (chosen_version (can_exchange o world w) step (version_after world w) (subst (λ (k : Kind). IsTurnOf step (turn_of o depth world w k)) e made)).1

sees : (o : Outline) (world : World) (w : ℕ) (b : Bool) → b ≡ true → (after_turn o world w Exchange (cond b (Saw (version_after world w)) NotNow)).version ≡ version_after world w
sees o world w true e = refl
sees o world w false e = absurd (false≢true e)

-- and the board has it then
pub version_then : (o : Outline) (depth : ℕ) (world : World) (w : ℕ) (step : Kept) → step.kind ≡ Exchange → IsMade o depth world w step → (step_of_machine o depth world w step.kind).version ≡ version_after world w
unfolding turn_of_machine step_of_machine
version_then o depth world w step e made =
    subst (λ (k : Kind). (after_turn o world w k (turn_of o depth world w k)).version ≡ version_after world w) (sym e)
    (sees o world w (can_exchange o world w) (chosen_version (can_exchange o world w) step (version_after world w) (subst (λ (k : Kind). IsTurnOf step (turn_of o depth world w k)) e made)).0)

-- many steps

module _ (o : Outline) (depth : ℕ) (w : ℕ) where
  -- a worker's next step in a merge, where it is an exchange, carries no earlier version than it would now
  pub gives_later : (steps : List (ℕ × Kept)) (world : World) (step : Kept) (rest : List Kept) → AreMade o depth world steps → steps_of w steps ≡ step ∷ rest → step.kind ≡ Exchange → version_after world w ≤ step.version
  gives_later [] world step rest made e x = absurd (not_empty step rest e)
  gives_later (s ∷ steps) world step rest made e x = ⊎_elim own (λ n. else n (gives_later steps after step rest made.1 (sym (other_steps w s steps n) ∙ e) x)) (cases_eq s.0 w)
    where
      after : World
      after = step_of_machine o depth world s.0 s.1.kind

      own : s.0 ≡ w → version_after world w ≤ step.version
      own is =
          let same = (cons_same s.1 step (steps_of w steps) rest (sym (own_steps w s steps is) ∙ e)).0 in
          let here = subst (λ (k : Kept). IsMade o depth world w k) same (subst (λ (u : ℕ). IsMade o depth world u s.1) is made.0) in
          subst (λ (n : ℕ). version_after world w ≤ n) (sym (carries o depth world w step x here)) (le_refl (version_after world w))

      else : (s.0 ≡ w → ⊥) → version_after after w ≤ step.version → version_after world w ≤ step.version
      else n = le_trans (version_after_grows world after w (worker_stays o depth world w s.0 (λ q. n (sym q)) s.1.kind) (version_grows o depth world s.0 s.1.kind))

  -- and a worker's next exchange carries no earlier version than the board has
  pub carries_later : (steps : List (ℕ × Kept)) (world : World) (version : ℕ) → AreMade o depth world steps → next_version (steps_of w steps) ≡ Some version → world.version ≤ version
  carries_later [] world version made e = absurd (none-some version e)
  carries_later (s ∷ steps) world version made e = by_first (λ d. le_trans (version_grows o depth world s.0 s.1.kind) (carries_later steps after version made.1 d))
    where
      after : World
      after = step_of_machine o depth world s.0 s.1.kind

      by_first : (next_version (steps_of w steps) ≡ Some version → world.version ≤ version) → world.version ≤ version
      by_first on =
          ⊎_elim
          (λ (is : s.0 ≡ w).
          let there = ap next_version (sym (own_steps w s steps is)) ∙ e in
          ⊎_elim
          (λ (x : is_exchange s.1.kind ≡ true).
          let same = some_same s.1.version version (sym (next_is_first s.1 (steps_of w steps) (exchange_is s.1.kind x)) ∙ there) in
          subst (λ (n : ℕ). world.version ≤ n) (sym (carries o depth world s.0 s.1 (exchange_is s.1.kind x) made.0) ∙ same) (version_after_least world s.0))
          (λ (x : is_exchange s.1.kind ≡ false). on (sym (next_is_later s.1 (steps_of w steps) x) ∙ there))
          (cases_Bool (is_exchange s.1.kind)))
          (λ (n : s.0 ≡ w → ⊥). on (ap next_version (sym (other_steps w s steps n)) ∙ e))
          (cases_eq s.0 w)
