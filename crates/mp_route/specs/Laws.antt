-- What holds of routers, whatever the query and the job.
use Rattle.std.specs.Prelude.{◌≡◌, ℕ, pos}
use Rattle.mp_names.specs.declared.locations.Loc.TheVariants.{Route}
use Rattle.mp_names.specs.Frontiers.{contribution}
use Rattle.mp_names.specs.Logs.{Log}
use Rattle.mp_model.specs.Facts.{JobFacts, QueryFacts}
use Rattle.mp_outline.specs.JobOutline.{outline_of}
use Rattle.mp_route.specs.Routed.{Routed, held_at}
use Rattle.mp_route.specs.Unsent.{HoldsUnsent}

module _ {Cell : Type 0} (q : QueryFacts Cell) (job : JobFacts) where
  -- a router that holds what is unsent by the log of its worker holds as many records of a time as that log adds to the count of its location
  abbrev pub HeldAreCounted : Type 0
  HeldAreCounted =
      (w : ℕ) (log : Log) (h : Routed) (t : ℕ)
      → HoldsUnsent q job w log h
      → pos (held_at h t) ≡ contribution (outline_of q job) w log (Route h.stage) t
