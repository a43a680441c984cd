-- What a host of a job keeps to.
use Rattle.std.specs.Prelude.{◌≡◌, ◌⊎◌, ◌<◌, ℕ, None, All, Contains, List, map}
use Rattle.mp_model.specs.declared.record.Rec.{Rec}
use Rattle.mp_model.specs.Facts.{JobFacts, QueryFacts}
use Rattle.mp_model.specs.Stages.{stage_records}
use Rattle.mp_job.specs.Legal.{JobIsLegal}
use Rattle.mp_job.specs.Runs.{IsRunOf}
use Rattle.mp_ordered.specs.InOrder.{InOrder}
use Rattle.mp_msg.specs.States.{IsOpening, IsStateAtFirst}
use Rattle.mp_postdated.specs.Wakes.{Has}
use Rattle.mp_host_laws.specs.declared.held.Held.{Held}
use Rattle.mp_host_states.specs.States.{States}
use Rattle.mp_host_laws.specs.Hosted.{Hosted, StandsInOrder, StateStands, wakes_in}

-- what contracts see of a host with these parts
abbrev pub hosted_of : {Cell : Type 0} → ℕ → ℕ → InOrder Rec → States Cell → Hosted Cell
hosted_of stage worker records states = record {
  stage = stage;
  worker = worker;
  records = records.items;
  held = states.held;
  room = records.room;
  room_for_bins = states.room;
}

module _ {Cell : Type 0} (q : QueryFacts Cell) (job : JobFacts) where
  -- each wake of the state is one that the job begins with, or that a record of its key posts
  abbrev pub WakesAreCaused : ℕ → Held Cell → Type 0
  WakesAreCaused j s =
      (u k : ℕ) → Has (wakes_in s) u k → IsOpening q j k u ⊎ ((r : Rec) × Contains (stage_records q job.events j) r × (r.key ≡ k) × Contains (q.posts j r) u)

  -- a state that a host of the stage may have in hand
  pub record MayBeHeld (j : ℕ) (s : Held Cell) : Type 0 where
    pub denotes : StateStands q job j s
    pub caused : WakesAreCaused j s

-- These are states of these bins, each with what the bin begins with
pub record AreAtFirst {Cell : Type 0} (q : QueryFacts Cell) (job : JobFacts) (j : ℕ) (bins : List ℕ) (held : List (Held Cell)) : Type 0 where
  pub of : map (λ s. s.bin) held ≡ bins
  pub first : All (λ s. s.since ≡ None) held
  pub states : All (λ s. IsStateAtFirst q job j s.bin s.state) held

-- it is of a run of the job that it was made for, which is legal, on a worker and of a stage that the job has, its records and states stand in order, and the job began with its wakes or records posted them
pub record IsHosted {Cell : Type 0} (q : QueryFacts Cell) (job its : JobFacts) (h : Hosted Cell) : Type 0 where
  pub run : IsRunOf its job
  pub legal : JobIsLegal q job
  pub stage : h.stage < job.shape.stages
  pub worker : h.worker < job.shape.workers
  pub order : StandsInOrder q job h
  pub caused : All (WakesAreCaused q job h.stage) h.held
