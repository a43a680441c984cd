-- Which group of a host may be applied, by what the host itself has.
use Rattle.std.specs.Prelude.{◌≡◌, ℕ, Some}
use Rattle.mp_names.specs.declared.locations.Loc.TheVariants.{Mail, State}
use Rattle.mp_names.specs.Frontiers.{HasPassed}
use Rattle.mp_names.specs.Outlines.{IsBeforeStop}
use Rattle.mp_stamps.specs.declared.seen.Seen.{Seen}
use Rattle.mp_stamps.specs.Seen.{seen_at}
use Rattle.mp_bins.specs.Bins.{bin_of_key}
use Rattle.mp_bins.specs.Notes.{Notes, owner_at}
use Rattle.mp_model.specs.Facts.{JobFacts}
use Rattle.mp_host_laws.specs.Hosted.{Hosted, first_group}

-- the first group that waits: the frontiers of records and packets have passed its time, its bin is the worker's then by what was noted, and its time is before the stop time, where there is one
pub record IsReadyHere {Cell : Type 0} (job : JobFacts) (seen : Seen) (notes : Notes) (h : Hosted Cell) (t k : ℕ) : Type 0 where
  pub first : first_group h ≡ Some (t, k)
  pub mail : HasPassed (seen_at seen (Mail h.stage)) t
  pub state : HasPassed (seen_at seen (State h.stage)) t
  pub owned : owner_at notes h.stage (bin_of_key k job.shape.bins) t ≡ h.worker
  pub early : IsBeforeStop job.until t
