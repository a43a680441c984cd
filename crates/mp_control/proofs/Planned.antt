-- The records of plans: how many there are, and that they are in time where the last one is.
use Rattle.std.proofs.Common.{◌≡◌, ◌-◌, ◌<◌, ◌≤◌, ℕ, true, false, arith}
use Rattle.std.specs.Prelude.{All}
use Rattle.std.specs.List.{list_all}
use Rattle.std.proofs.Math.Nat.{mod-lt}
use Rattle.std.proofs.lemmas.Bool.{le-leb, leb-true}
use Rattle.std.proofs.lemmas.List.Sums.{list_all-from_AllPass}
use Rattle.mp_job.specs.Legal.{ControlFits}
use Rattle.mp_names.specs.declared.controls.Control.{Control}
use Rattle.mp_names.specs.declared.controls.Shape.{Shape}
use Rattle.mp_names.specs.Limits.{greatest_time}
use Rattle.mp_control.specs.Controls.{is_in_time}
use Rattle.mp_control.proofs.Made.{all_made, one_late, timely_at}
use Rattle.mp_plans.specs.Plans.{planned, worker_by}

module _ (shape : Shape) (stage shift : ℕ) (time_of : ℕ → ℕ) where
  -- the record of a bin
  abbrev record_of : ℕ → Control
  record_of bin = record { time = time_of bin; stage = stage; bin = bin; worker = worker_by shape shift bin }

  pub all_planned : (P : Control → Type 0) → ((bin : ℕ) → bin < shape.bins → P (record { time = time_of bin; stage = stage; bin = bin; worker = worker_by shape shift bin }))
      → All P (planned shape stage shift time_of)
  all_planned P each = all_made P _ 0 shape.bins (λ k low high. each k (omega (arith, high)))

  -- those of a plan of a stage of the shape that are in time are within its limits
  pub all_timely : 0 < shape.workers → stage < shape.stages → list_all is_in_time (planned shape stage shift time_of) ≡ true → All (ControlFits shape) (planned shape stage shift time_of)
  all_timely some low timely =
      all_planned (ControlFits shape) (λ bin inside. record {
        in_time = leb-true _ _ (timely_at record_of shape.bins bin inside timely);
        within = (mod-lt _ some, inside, low);
      })

  -- they are in time where that of the last bin is, which none is later than
  pub in_time : ((bin : ℕ) → bin < shape.bins → time_of bin ≤ time_of (shape.bins - 1)) → time_of (shape.bins - 1) ≤ greatest_time
      → list_all is_in_time (planned shape stage shift time_of) ≡ true
  in_time rises last = list_all-from_AllPass is_in_time _ (all_planned (λ c. is_in_time c ≡ true) (λ bin low. le-leb _ _ (omega (arith, rises bin low, last))))

  -- and not all are where that of the last bin isn't
  pub too_late : 0 < shape.bins → greatest_time < time_of (shape.bins - 1) → list_all is_in_time (planned shape stage shift time_of) ≡ false
  too_late some late = one_late record_of shape.bins (shape.bins - 1) (omega (arith, some)) late
