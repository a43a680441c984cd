-- The control records of earlier times, and those from a time on.
use Rattle.std.proofs.Common.{◌≡◌, ℕ, ◌&&◌, Bool, not, true, List, All, arith, filter, nat_le, nat_lt, refl}
use Rattle.std.proofs.lemmas.List.Elements.{All-filter, All-weaker, filter_passes}
use Rattle.std.proofs.lemmas.List.Filters.{length-filter_both}
use Rattle.mp_names.specs.declared.controls.Control.{Control}
use Rattle.mp_names.specs.declared.controls.Shape.{Shape}
use Rattle.mp_job.specs.Legal.{ControlFits, ControlsFit}

abbrev is_earlier : ℕ → Control → Bool
is_earlier time c = nat_lt c.time time

abbrev pub earlier : ℕ → List Control → List Control
earlier time controls = filter (is_earlier time) controls

-- control records that are kept fit where all do
fewer_fit : (p : Control → Bool) (shape : Shape) (controls : List Control) → ControlsFit shape controls → ControlsFit shape (filter p controls)
fewer_fit p shape controls fit = record {
  few = omega (arith, length-filter_both p (λ c. not (p c)) (λ c. refl) controls, fit.few);
  each = All-filter p (ControlFits shape) controls fit.each;
}

pub earlier_fit : (shape : Shape) (time : ℕ) (controls : List Control) → ControlsFit shape controls → ControlsFit shape (earlier time controls)
earlier_fit shape time controls fit = fewer_fit (is_earlier time) shape controls fit

-- each is earlier
pub earlier_are : (time : ℕ) (controls : List Control) → All (λ c. nat_lt c.time time ≡ true) (earlier time controls)
earlier_are time controls = filter_passes (is_earlier time) controls

abbrev is_since : ℕ → Control → Bool
is_since time c = nat_le time c.time

abbrev pub later : ℕ → List Control → List Control
later time controls = filter (is_since time) controls

pub later_fit : (shape : Shape) (time : ℕ) (controls : List Control) → ControlsFit shape controls → ControlsFit shape (later time controls)
later_fit shape time controls fit = fewer_fit (is_since time) shape controls fit

-- each is of the time or a later one
pub later_are : (time : ℕ) (controls : List Control) → All (λ c. (nat_le time c.time && true) ≡ true) (later time controls)
later_are time controls = All-weaker (λ c. nat_le time c.time ≡ true) (λ c. (nat_le time c.time && true) ≡ true) (λ c e. rw e refl) (later time controls) (filter_passes (is_since time) controls)
