-- Frontiers of equal counts.
use Rattle.std.proofs.Common.{◌≡◌, ℕ, ℤ, sym, ◌∙◌}
use Rattle.mp_names.specs.declared.locations.Frontier.{Frontier}
use Rattle.mp_names.specs.declared.locations.Frontier.TheVariants.{At, Done}
use Rattle.mp_names.specs.declared.locations.Loc.{Loc}
use Rattle.mp_names.specs.Frontiers.{IsFrontierOf}

-- counts that are equal show the same frontiers
module _ (f g : Loc → ℕ → ℤ) (same : (loc : Loc) (t : ℕ) → f loc t ≡ g loc t) where
  pub frontier_of_equal : (at : Loc) (x : Frontier) → IsFrontierOf f at x → IsFrontierOf g at x
  frontier_of_equal at (At t) h = ((λ q. h.0 (λ a r. same a t ∙ q a r)), (λ u l a r. sym (same a u) ∙ h.1 u l a r))
  frontier_of_equal at Done h = λ u a r. sym (same a u) ∙ h u a r
