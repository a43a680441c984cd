-- The first owners of bins that lines say.
use Rattle.std.specs.Prelude.{◌≡◌, ◌*◌, ◌+◌, ◌<◌, ◌==◌, ◌&&◌, ◌++◌, ℕ, Bool, false, not, List, [], ◌∷◌, length, slice_index, slice_index_or}
use Rattle.std.specs.List.{list_any}
use Rattle.mp_control.specs.declared.refused.ControlReason.{ControlReason}
use Rattle.mp_control.specs.declared.refused.ControlReason.TheVariants.{Late, Twice}
use Rattle.mp_control.specs.Controls.{numbers_in}
use Rattle.mp_control.specs.Kinds.{failures_within}
use Rattle.mp_lines.specs.Checks.{check}
use Rattle.mp_lines.specs.declared.limits.NumberLimit.{NumberLimit}
use Rattle.mp_lines.specs.declared.limits.NumberLimit.TheVariants.{Below}
use Rattle.mp_names.specs.declared.controls.First.{First}
use Rattle.mp_names.specs.declared.controls.Shape.{Shape}

-- the limits of the fields after the kind: stage, bin, worker
abbrev pub limits_of_first : Shape → List NumberLimit
limits_of_first shape = Below shape.stages ∷ Below shape.bins ∷ Below shape.workers ∷ []

-- the first owner that these numbers say
abbrev pub first_of : List ℕ → First
first_of ns = record { stage = slice_index ns 0; bin = slice_index ns 1; worker = slice_index ns 2 }

-- one of these is that of this bin of this stage
abbrev pub has_first : List First → ℕ → ℕ → Bool
has_first firsts stage bin = list_any (λ f. f.stage == stage && f.bin == bin) firsts

-- the checks that a line of a first owner fails, in order: its fields, that no control line stands before it, and that none of its bin does
abbrev pub failures_of_first : Shape → Bool → List First → List (List ℕ) → List ControlReason
failures_of_first shape late firsts fields =
    let first = first_of (numbers_in fields) in
    failures_within (limits_of_first shape) fields
    ++ check (not late) Late
    ++ check (not (has_first firsts first.stage first.bin)) Twice

-- by stage and bin, a mark where one of these is that of the bin
pub record AreMarked (shape : Shape) (firsts : List First) (marks : List Bool) : Type 0 where
  pub count : length marks ≡ shape.stages * shape.bins
  pub each : (stage bin : ℕ) → stage < shape.stages → bin < shape.bins → slice_index_or marks (stage * shape.bins + bin) false ≡ has_first firsts stage bin
