-- What a host has in hand at the end of a job.
use Rattle.std.specs.Prelude.{◌≡◌, ◌≢◌, ◌↔◌, ◌<◌, ℕ, All, AllPairs, Any}
use Rattle.mp_names.specs.Logs.{Log, LogIsLegal}
use Rattle.mp_names.specs.Outlines.{owner_before}
use Rattle.mp_machine.specs.Promises.{LogIsFull}
use Rattle.mp_model.specs.Facts.{JobFacts, QueryFacts}
use Rattle.mp_outline.specs.JobOutline.{outline_of}
use Rattle.mp_msg.specs.LastStates.{end_time}
use Rattle.mp_msg.specs.States.{IsStateBefore}
use Rattle.mp_host_laws.specs.Hosted.{Hosted, StandsInOrder}
use Rattle.mp_host_laws.specs.HostOf.{IsHostOf}

module _ {Cell : Type 0} (q : QueryFacts Cell) (job : JobFacts) where
  -- The states in hand are those of the bins that the worker owns at the end, of each bin one, and each is what the bin has then
  pub record HasLastStates (h : Hosted Cell) : Type 0 where
    pub each : All (λ s. IsStateBefore q job h.stage s.bin (end_time job) s.state) h.held
    pub owned : (b : ℕ) → (Any (λ s. s.bin ≡ b) h.held ↔ ((b < job.shape.bins) × (owner_before (outline_of q job) h.stage b (end_time job) ≡ h.worker)))
    pub once : AllPairs (λ r s. r.bin ≢ s.bin) h.held

  -- where the worker's log is full, so that it has done all that it has to do, the host has them
  abbrev pub EndsWithLastStates : Hosted Cell → Type 0
  EndsWithLastStates h = (log : Log) → IsHostOf q job log h → LogIsLegal (outline_of q job) h.worker log → LogIsFull (outline_of q job) h.worker log → HasLastStates h

  -- so does each host of a stage of the job
  abbrev pub LastStatesAreHeld : Type 0
  LastStatesAreHeld = (h : Hosted Cell) → StandsInOrder q job h → h.stage < job.shape.stages → EndsWithLastStates h
