-- A kept step, as the player makes it and as the machine does.
use Rattle.std.proofs.Common.{◌≡◌, ℕ, refl, sym, subst, inl, inr, ⊎_elim}
use Rattle.mp_names.specs.declared.names.Name.{Name}
use Rattle.mp_names.specs.declared.kinds.Kept.{Kept}
use Rattle.mp_names.specs.declared.kinds.Kind.{Kind}
use Rattle.mp_names.specs.declared.kinds.Kind.TheVariants.{Exchange}
use Rattle.mp_names.specs.Outlines.{Outline}
use Rattle.mp_machine.specs.Worlds.{World}
use Rattle.mp_machine.specs.Steps.{CanStep, CanExchange, version_after, exchanged}
use Rattle.mp_machine.specs.Runs.{step_of_machine}
use Rattle.mp_journal_laws.specs.Merges.{IsMade}
use Rattle.mp_player_laws.proofs.Made.{condition_of, made_from, leads_to_step, leads_to_exchange}
use Rattle.mp_player.specs.declared.state.State.{State}
use Rattle.mp_player.specs.Shows.{Shows, Makes}

module _ (o : Outline) (depth w : ℕ) (step : Kept) (old new : State) where
  -- the step is made, and the world after it is shown
  abbrev pub PlaysStep : Type 0
  PlaysStep = (world : World) → Shows o depth old world → IsMade o depth world w step × Shows o depth new (step_of_machine o depth world w step.kind)

  -- it can't be made, and nothing has changed
  abbrev pub LeavesStep : Type 0
  LeavesStep = (world : World) → Shows o depth old world → (IsMade o depth world w step → ⊥) × Shows o depth new world

  pub plays : (kind : Kind) → step.kind ≡ kind → Makes o depth w kind old new → PlaysStep
  plays kind e makes world shows =
      let ok = shows.reached.sound in
      let m = subst (λ (k : Kind). Makes o depth w k old new) (sym e) makes world shows in
      (made_from o ok depth world w step (inl (m.0, m.1)), subst (Shows o depth new) (sym (leads_to_step o ok depth world w step.kind m.0 m.1)) m.2)

  -- only an exchange exchanges
  no_exchange : (world : World) (kind : Kind) → (kind ≡ Exchange → ⊥) → CanExchange o world w kind → ⊥
  no_exchange world Exchange n can = n refl
  no_exchange world _ n can = can

  pub leaves : (kind : Kind) → step.kind ≡ kind → (kind ≡ Exchange → ⊥) → ((world : World) → Shows o depth old world → (x : Name) → CanStep o depth world w kind x → ⊥) → new ≡ old → LeavesStep
  leaves kind e other refused same world shows = (
    (λ made.
        ⊎_elim
        (λ (h : (x : Name) × CanStep o depth world w step.kind x). refused world shows h.0 (subst (λ (k : Kind). CanStep o depth world w k h.0) e h.1))
        (λ (h : CanExchange o world w step.kind × (step.version ≡ version_after world w)). no_exchange world kind other (subst (CanExchange o world w) e h.0))
        (condition_of o shows.reached.sound depth world w step made)),
    subst (λ (s : State). Shows o depth s world) (sym same) shows,
  )

  pub plays_exchange : step.kind ≡ Exchange → ((world : World) → Shows o depth old world → CanExchange o world w Exchange × (step.version ≡ version_after world w) × Shows o depth new (exchanged o world w)) → PlaysStep
  plays_exchange e made world shows =
      let ok = shows.reached.sound in
      let m = made world shows in
      let can = subst (CanExchange o world w) (sym e) m.0 in
      (made_from o ok depth world w step (inr (can, m.1)), subst (Shows o depth new) (sym (leads_to_exchange o ok depth world w step.kind can)) m.2)

  -- an exchange puts no name
  no_step : (world : World) (x : Name) → CanStep o depth world w Exchange x → ⊥
  no_step world x can = can.1

  pub leaves_exchange : step.kind ≡ Exchange → ((world : World) → Shows o depth old world → CanExchange o world w Exchange → step.version ≡ version_after world w → ⊥) → new ≡ old → LeavesStep
  leaves_exchange e refused same world shows = (
    (λ made.
        ⊎_elim
        (λ (h : (x : Name) × CanStep o depth world w step.kind x). no_step world h.0 (subst (λ (k : Kind). CanStep o depth world w k h.0) e h.1))
        (λ (h : CanExchange o world w step.kind × (step.version ≡ version_after world w)). refused world shows (subst (CanExchange o world w) e h.0) h.1)
        (condition_of o shows.reached.sound depth world w step made)),
    subst (λ (s : State). Shows o depth s world) (sym same) shows,
  )
