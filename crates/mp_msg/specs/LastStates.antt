-- What the bins of a job have at its end: at the stop time, or, where it has none, after all.
use Rattle.std.specs.Prelude.{◌≡◌, ◌≢◌, ◌↔◌, ◌<◌, ℕ, suc, Some, List, AllPairs, Contains, length, map, slice_get}
use Rattle.std.specs.Option.{option_map_or}
use Rattle.mp_names.specs.Limits.{last_time}
use Rattle.mp_names.specs.Outlines.{owner_before}
use Rattle.mp_model.specs.Facts.{JobFacts, QueryFacts}
use Rattle.mp_outline.specs.JobOutline.{outline_of}
use Rattle.mp_msg.specs.States.{BinContent, IsStateBefore}

-- the time just before which a job ends: its stop time, or that behind the last at which anything happens
abbrev pub end_time : JobFacts → ℕ
end_time job = option_map_or (λ t. t) job.until (suc last_time)

module _ {Cell : Type 0} (q : QueryFacts Cell) (job : JobFacts) where
  -- The states of bins that a worker owns at the end, each once, with their stages; `bins` are their stages and bins, in the same order
  pub record AreStatesOf (w : ℕ) (states : List (ℕ × BinContent Cell)) : Type 0 where
    pub bins : List (ℕ × ℕ)
    pub stages : map (λ s. s.0) states ≡ map (λ b. b.0) bins
    pub each : (i : ℕ) (b : ℕ × ℕ) (s : ℕ × BinContent Cell) → slice_get bins i ≡ Some b → slice_get states i ≡ Some s → IsStateBefore q job b.0 b.1 (end_time job) s.1
    pub owned : (j b : ℕ) → (Contains bins (j, b) ↔ ((j < job.shape.stages) × (b < job.shape.bins) × (owner_before (outline_of q job) j b (end_time job) ≡ w)))
    pub once : AllPairs (λ a b. a ≢ b) bins

  -- Those of all workers, by their numbers
  pub record AreAllStates (all : List (List (ℕ × BinContent Cell))) : Type 0 where
    pub workers : length all ≡ job.shape.workers
    pub each : (w : ℕ) (states : List (ℕ × BinContent Cell)) → slice_get all w ≡ Some states → AreStatesOf w states
