-- That a step is made, by its condition.
use Rattle.std.proofs.Common.{◌≡◌, ◌⊎◌, ℕ, refl, sym, ap, ◌∙◌, subst, inl, inr, ⊎_elim}
use Rattle.mp_names.specs.declared.names.Name.{Name}
use Rattle.mp_names.specs.declared.kinds.Kept.{Kept}
use Rattle.mp_names.specs.declared.kinds.Kind.{Kind}
use Rattle.mp_names.specs.Outlines.{Outline, OutlineIsSound}
use Rattle.mp_machine.specs.Worlds.{World}
use Rattle.mp_machine.specs.Steps.{CanStep, CanExchange, stepped, version_after, exchanged}
use Rattle.mp_machine.specs.Runs.{Turn, Did, Saw, NotNow, after_turn, turn_of, turn_of_machine, step_of_machine}
use Rattle.mp_machine.proofs.Turns.{did_from, did_to, saw_from, saw_to}
use Rattle.mp_journal_laws.specs.Merges.{IsTurnOf, IsMade}

module _ (o : Outline) (ok : OutlineIsSound o) (depth : ℕ) (world : World) (w : ℕ) where
  abbrev HasCondition : Kept → Type 0
  HasCondition step = ((x : Name) × CanStep o depth world w step.kind x) ⊎ (CanExchange o world w step.kind × (step.version ≡ version_after world w))

  pub condition_of : (step : Kept) → IsMade o depth world w step → HasCondition step
  unfolding turn_of_machine
  condition_of step made = by_turn (turn_of o depth world w step.kind) refl made
    where
      by_turn : (turn : Turn) → turn_of o depth world w step.kind ≡ turn → IsTurnOf step turn → HasCondition step
      by_turn (Did x n) e made = inl (x, did_to o depth world w ok step.kind x n e)
      by_turn (Saw v) e made = let r = saw_to o depth world w step.kind v e in inr (r.0, made ∙ r.1)
      by_turn NotNow e made = absurd made

  pub made_from : (step : Kept) → HasCondition step → IsMade o depth world w step
  unfolding turn_of_machine
  made_from step c =
      ⊎_elim
      (λ (h : (x : Name) × CanStep o depth world w step.kind x). subst (IsTurnOf step) (sym (did_from o depth world w ok step.kind h.0 h.1)) tt)
      (λ (h : CanExchange o world w step.kind × (step.version ≡ version_after world w)). subst (IsTurnOf step) (sym (saw_from o depth world w step.kind h.0)) h.1)
      c

  pub leads_to_step : (kind : Kind) (x : Name) → CanStep o depth world w kind x → step_of_machine o depth world w kind ≡ stepped o world w kind x
  unfolding turn_of_machine step_of_machine
  leads_to_step kind x can = ap (after_turn o world w kind) (did_from o depth world w ok kind x can)

  pub leads_to_exchange : (kind : Kind) → CanExchange o world w kind → step_of_machine o depth world w kind ≡ exchanged o world w
  unfolding turn_of_machine step_of_machine
  leads_to_exchange kind can = ap (after_turn o world w kind) (saw_from o depth world w kind can)
