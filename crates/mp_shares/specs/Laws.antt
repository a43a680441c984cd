-- What holds of the shares and times of all jobs.
use Rattle.std.specs.Prelude.{◌≡◌, ◌↔◌, ◌⊎◌, ℕ, ◌<◌, ◌%◌, List, Any, Contains, IsSome}
use Rattle.std.specs.List.Sorted.{IsStrictlyIncreasing}
use Rattle.mp_names.specs.declared.controls.Control.{Control}
use Rattle.mp_model.specs.declared.record.Event.{Event}
use Rattle.mp_model.specs.Facts.{QueryFacts}
use Rattle.mp_model.specs.Stages.{input_records}
use Rattle.mp_shares.specs.Records.{record_at, share_of}
use Rattle.mp_shares.specs.Times.{times_of, wake_times}

-- each index of an event that makes a record stands once in one worker's share, and the shares hold nothing else
pub record SharesHoldEachOnce {Cell : Type 0} (q : QueryFacts Cell) (events : List Event) (workers : ℕ) : Type 0 where
  pub held : (i : ℕ) → IsSome (record_at q events i) → (i % workers < workers) × Contains (share_of q events workers (i % workers)) i
  pub nothing_else : (w i : ℕ) → Contains (share_of q events workers w) i → IsSome (record_at q events i) × (i % workers ≡ w)
  pub ascends : (w : ℕ) → IsStrictlyIncreasing (share_of q events workers w)

-- whatever the query, the events and the number of workers
abbrev pub SharesAlwaysHoldEachOnce : Type 0 → Type 0
SharesAlwaysHoldEachOnce Cell = (q : QueryFacts Cell) (events : List Event) (workers : ℕ) → 0 < workers → SharesHoldEachOnce q events workers

-- a record of stage 0 has this time or posts it, a control record has it, or a wake that stage 0 begins with
abbrev pub HasTime : {Cell : Type 0} → QueryFacts Cell → List Event → List Control → ℕ → Type 0
HasTime q events controls t =
    Any (λ r. (r.time ≡ t) ⊎ Contains (q.posts 0 r) t) (input_records q events) ⊎ Any (λ c. c.time ≡ t) controls ⊎ Contains (wake_times q) t

-- the times rise strictly
abbrev pub TimesAlwaysRise : Type 0 → Type 0
TimesAlwaysRise Cell = (q : QueryFacts Cell) (events : List Event) (controls : List Control) → IsStrictlyIncreasing (times_of q events controls)

-- a time stands among them exactly where a record, a control record or a wake has it
abbrev pub TimesAreExact : Type 0 → Type 0
TimesAreExact Cell =
    (q : QueryFacts Cell) (events : List Event) (controls : List Control) (t : ℕ) → (Contains (times_of q events controls) t ↔ HasTime q events controls t)
