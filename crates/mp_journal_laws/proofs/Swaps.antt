-- A step that may be taken comes first in a merge: it is exchanged with each step before it.
use Rattle.std.proofs.Common.{◌≡◌, ℕ, suc, ◌<◌, ◌≤◌, Bool, true, false, cond, List, [], ◌∷◌, length, Some, refl, sym, ap, ◌∙◌, subst, ⊎_elim, arith}
use Rattle.std.proofs.lemmas.Bool.{cases_eq, cases_Bool}
use Rattle.mp_names.specs.declared.kinds.Kind.TheVariants.{Exchange}
use Rattle.mp_names.specs.Outlines.{Outline}
use Rattle.mp_machine.specs.Worlds.{Worker, World}
use Rattle.mp_machine.specs.Steps.{same_log, version_after}
use Rattle.mp_machine.specs.Runs.{step_of_machine}
use Rattle.mp_names.specs.declared.kinds.Kept.{Kept}
use Rattle.mp_journal_laws.specs.Journals.{steps_of, is_exchange, next_version}
use Rattle.mp_journal_laws.specs.Merges.{IsTurnOf, IsMade, AreMade, end_of}
use Rattle.mp_journal_laws.proofs.Turns.{exchange_is}
use Rattle.mp_journal_laws.proofs.Commute.{AreQuiet, turn_kept, steps_commute, version_kept}
use Rattle.mp_journal_laws.proofs.Versions.{cons_same, not_empty, own_steps, other_steps, next_is_first, next_is_later, cases_posted, version_rises, worker_stays, version_stays_after, not_now, carries, version_then, gives_later}

-- the worker's step, where it is an exchange that changes the posted log, comes before each other worker's next exchange
abbrev pub IsAlone : World → ℕ → Kept → List (ℕ × Kept) → Type 0
IsAlone world w step steps =
    step.kind ≡ Exchange → ((world.worker w).log ≡ (world.worker w).posted → ⊥) → (v version : ℕ) → (v ≡ w → ⊥) → next_version (steps_of v steps) ≡ Some version → world.version < version

-- The merge without the worker's next step, after that step
pub record Swapped (o : Outline) (depth : ℕ) (world : World) (w : ℕ) (step : Kept) (rest : List Kept) (steps more : List (ℕ × Kept)) : Type 0 where
  pub made : AreMade o depth (step_of_machine o depth world w step.kind) more
  pub own : steps_of w more ≡ rest
  pub others : (u : ℕ) → (u ≡ w → ⊥) → steps_of u more ≡ steps_of u steps
  pub same_end : end_of o depth (step_of_machine o depth world w step.kind) more ≡ end_of o depth world steps
  pub one_less : length steps ≡ suc (length more)

too_late : (b : Bool) (n : ℕ) → cond b (suc n) (suc (suc n)) ≤ cond b n (suc n) → ⊥
too_late true n l = omega arith
too_late false n l = omega arith

module _ (o : Outline) (depth : ℕ) (world : World) (w : ℕ) (step : Kept) (rest : List Kept) (s : ℕ × Kept) (steps : List (ℕ × Kept)) where
  abbrev after : World
  after = step_of_machine o depth world s.0 s.1.kind

  -- the step is the first of the merge already
  first_already : s.0 ≡ w → steps_of w (s ∷ steps) ≡ step ∷ rest → AreMade o depth world (s ∷ steps) → Swapped o depth world w step rest (s ∷ steps) steps
  first_already is e made =
      let same = cons_same s.1 step (steps_of w steps) rest (sym (own_steps w s steps is) ∙ e) in
      let there : after ≡ step_of_machine o depth world w step.kind = λ i. step_of_machine o depth world (is i) (same.0 i).kind in
      record {
        made = subst (λ (k : World). AreMade o depth k steps) there made.1;
        own = same.1;
        others = λ u n. sym (other_steps u s steps (λ q. n (sym q ∙ is)));
        same_end = sym (ap (λ (k : World). end_of o depth k steps) there);
        one_less = refl;
      }

  module _ (apart : s.0 ≡ w → ⊥) (first : IsMade o depth world s.0 s.1) (then : AreMade o depth after steps) (next : steps_of w steps ≡ step ∷ rest) (made : IsMade o depth world w step) (alone : IsAlone world w step (s ∷ steps)) where
    other : w ≡ s.0 → ⊥
    other e = apart (sym e)

    -- where both are exchanges, neither changes a posted log

    other_posted : step.kind ≡ Exchange → s.1.kind ≡ Exchange → (world.worker s.0).log ≡ (world.worker s.0).posted
    other_posted x y =
        ⊎_elim
        (λ e. e)
        (λ d.
        let later = gives_later o depth w steps after step rest then next x in
        let same = worker_stays o depth world w s.0 other s.1.kind in
        let version = version_then o depth world s.0 s.1 y first ∙ version_rises world s.0 d.1 in
        let there : version_after after w ≡ cond (same_log (world.worker w).log (world.worker w).posted) (suc world.version) (suc (suc world.version)) =
        λ i. cond (same_log (same i).log (same i).posted) (version i) (suc (version i)) in
        absurd (too_late (same_log (world.worker w).log (world.worker w).posted) world.version
        (subst (λ (n : ℕ). n ≤ version_after world w) there (subst (λ (n : ℕ). version_after after w ≤ n) (carries o depth world w step x made) later))))
        (cases_posted (world.worker s.0))

    own_posted : s.1.kind ≡ Exchange → step.kind ≡ Exchange → (world.worker w).log ≡ (world.worker w).posted
    own_posted y x =
        ⊎_elim
        (λ e. e)
        (λ d.
        let later = alone x d.0 s.0 s.1.version apart (ap next_version (own_steps s.0 s steps refl) ∙ next_is_first s.1 (steps_of s.0 steps) y) in
        let level = carries o depth world s.0 s.1 y first ∙ version_kept world s.0 (other_posted x y) in
        absurd (irreflexive world.version (subst (λ (n : ℕ). world.version < n) level later)))
        (cases_posted (world.worker w))
      where
        irreflexive : (n : ℕ) → n < n → ⊥
        irreflexive n l = omega arith

    quiet : AreQuiet world w step.kind s.0 s.1.kind
    quiet = (other_posted, own_posted)

    -- so the step is made after the first one, and the first one after it, with one world after both

    made_later : IsMade o depth after w step
    made_later = subst (IsTurnOf step) (sym (turn_kept o depth world w s.0 other step.kind s.1.kind (not_now o depth world w step made) quiet.0)) made

    first_later : IsMade o depth (step_of_machine o depth world w step.kind) s.0 s.1
    first_later = subst (IsTurnOf s.1) (sym (turn_kept o depth world s.0 w apart s.1.kind step.kind (not_now o depth world s.0 s.1 first) quiet.1)) first

    one_world : step_of_machine o depth after w step.kind ≡ step_of_machine o depth (step_of_machine o depth world w step.kind) s.0 s.1.kind
    one_world = steps_commute o depth world w s.0 other step.kind s.1.kind (not_now o depth world w step made) (not_now o depth world s.0 s.1 first) quiet

    alone_later : IsAlone after w step steps
    alone_later x changed u version n e =
        let same = worker_stays o depth world w s.0 other s.1.kind in
        let changed_before : (world.worker w).log ≡ (world.worker w).posted → ⊥ = λ d. changed (ap (λ (k : Worker). k.log) same ∙ d ∙ sym (ap (λ (k : Worker). k.posted) same)) in
        ⊎_elim
        (λ (y : is_exchange s.1.kind ≡ true). absurd (changed_before (own_posted (exchange_is s.1.kind y) x)))
        (λ (y : is_exchange s.1.kind ≡ false).
        let before : next_version (steps_of u (s ∷ steps)) ≡ Some version =
        ⊎_elim
        (λ (is : s.0 ≡ u). ap next_version (own_steps u s steps is) ∙ next_is_later s.1 (steps_of u steps) y ∙ e)
        (λ (is : s.0 ≡ u → ⊥). ap next_version (other_steps u s steps is) ∙ e)
        (cases_eq s.0 u) in
        subst (λ (m : ℕ). m < version) (sym (version_stays_after o depth world s.0 s.1.kind y)) (alone x changed_before u version n before))
        (cases_Bool (is_exchange s.1.kind))

    -- with the first step behind it again
    behind_it : (more : List (ℕ × Kept)) → Swapped o depth after w step rest steps more → Swapped o depth world w step rest (s ∷ steps) (s ∷ more)
    behind_it more r =
        record {
          made = (first_later, subst (λ (k : World). AreMade o depth k more) one_world r.made);
          own = other_steps w s more apart ∙ r.own;
          others = λ u n.
              ⊎_elim
              (λ (is : s.0 ≡ u). own_steps u s more is ∙ ap (λ (l : List Kept). s.1 ∷ l) (r.others u n) ∙ sym (own_steps u s steps is))
              (λ (is : s.0 ≡ u → ⊥). other_steps u s more is ∙ r.others u n ∙ sym (other_steps u s steps is))
              (cases_eq s.0 u);
          same_end = ap (λ (k : World). end_of o depth k more) (sym one_world) ∙ r.same_end;
          one_less = ap suc r.one_less;
        }

pub swap : (o : Outline) (depth : ℕ) (w : ℕ) (step : Kept) (rest : List Kept) (steps : List (ℕ × Kept)) (world : World) → AreMade o depth world steps → steps_of w steps ≡ step ∷ rest → IsMade o depth world w step → IsAlone world w step steps → (more : List (ℕ × Kept)) × Swapped o depth world w step rest steps more
swap o depth w step rest [] world all e made alone = absurd (not_empty step rest e)
swap o depth w step rest (s ∷ steps) world all e made alone =
    ⊎_elim
    (λ (is : s.0 ≡ w). (steps, first_already o depth world w step rest s steps is e all))
    (λ (apart : s.0 ≡ w → ⊥).
    let next = sym (other_steps w s steps apart) ∙ e in
    let r =
    swap o depth w step rest steps (step_of_machine o depth world s.0 s.1.kind) all.1 next
    (made_later o depth world w step rest s steps apart all.0 all.1 next made alone)
    (alone_later o depth world w step rest s steps apart all.0 all.1 next made alone) in
    (s ∷ r.0, behind_it o depth world w step rest s steps apart all.0 all.1 next made alone r.0 r.1))
    (cases_eq s.0 w)
