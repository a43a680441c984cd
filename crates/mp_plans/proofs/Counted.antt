-- How many records a plan has.
use Rattle.std.proofs.Common.{◌≡◌, ◌+◌, ◌++◌, ℕ, List, length, arith, length-append}
use Rattle.std.proofs.lemmas.List.FromFn.{length-map-range_with_len}
use Rattle.mp_names.specs.declared.controls.Control.{Control}
use Rattle.mp_names.specs.declared.controls.Shape.{Shape}
use Rattle.mp_plans.specs.Plans.{planned}

module _ (shape : Shape) (stage shift : ℕ) (time_of : ℕ → ℕ) where
  -- one for each bin
  pub one_each : length (planned shape stage shift time_of) ≡ shape.bins
  one_each = length-map-range_with_len _ 0 shape.bins

  -- so many more than a list has
  pub more_by : (list : List Control) → length (list ++ planned shape stage shift time_of) ≡ length list + shape.bins
  more_by list = omega (arith, length-append list (planned shape stage shift time_of), one_each)
