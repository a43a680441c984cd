-- The times at which something happens.
use Rattle.std.specs.Prelude.{ℕ, ◌++◌, ◌↔◌, Contains, List, map}
use Rattle.std.specs.List.{flat_map}
use Rattle.mp_names.specs.declared.controls.Control.{Control}
use Rattle.mp_model.specs.declared.record.Event.{Event}
use Rattle.mp_model.specs.Ascending.{ascending}
use Rattle.mp_model.specs.Facts.{QueryFacts}
use Rattle.mp_model.specs.Folds.{times_in}
use Rattle.mp_model.specs.Stages.{input_records}

-- the times of control records
abbrev pub control_times : List Control → List ℕ
control_times controls = map (λ c. c.time) controls

-- the times of the wakes that the first stage begins with
abbrev pub wake_times : {Cell : Type 0} → QueryFacts Cell → List ℕ
wake_times q = map (λ w. w.0) (q.waking 0)

-- the times of the records of stage 0, of their posts, of the control records and of the wakes that stage 0 begins with, ascending and each once
abbrev pub times_of : {Cell : Type 0} → QueryFacts Cell → List Event → List Control → List ℕ
times_of q events controls = ascending ((times_in q 0 (input_records q events) ++ control_times controls) ++ wake_times q)

-- each of the first stands among the others
abbrev pub AllStandIn : List ℕ → List ℕ → Type 0
AllStandIn xs ys = (t : ℕ) → Contains xs t → Contains ys t

-- the same numbers stand in both, however often
abbrev pub HoldSame : List ℕ → List ℕ → Type 0
HoldSame xs ys = (t : ℕ) → (Contains xs t ↔ Contains ys t)

-- the times that records post, and what the last of them posted
pub record PostedTimes : Type 0 where
  pub times : List ℕ
  pub last : List ℕ

-- the times that the records of stage 0 post and those of the wakes that it begins with, ascending and each once
abbrev pub post_times_of : {Cell : Type 0} → QueryFacts Cell → List Event → List ℕ
post_times_of q events = ascending (flat_map (q.posts 0) (input_records q events) ++ wake_times q)
