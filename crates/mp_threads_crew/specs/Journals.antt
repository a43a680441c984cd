-- What workers on threads keep of their steps.
use Rattle.std.specs.Prelude.{◌≡◌, ℕ, [], Bool, List, Some, false, length, slice_get, true}
use Rattle.mp_names.specs.Outlines.{Outline}
use Rattle.mp_names.specs.declared.kinds.Kept.{Kept}
use Rattle.mp_journal_laws.specs.Telling.{KeptTellFullLog}

-- Of each worker a list, which tells all that it has to do
pub record TellFullLogs (o : Outline) (lists : List (List Kept)) : Type 0 where
  pub all : length lists ≡ o.workers
  pub each : (w : ℕ) (kept : List Kept) → slice_get lists w ≡ Some kept → KeptTellFullLog o w kept

-- what is kept of workers: where they keep their steps, of each all that it has to do; else nothing
abbrev pub AreKept : Outline → Bool → List (List Kept) → Type 0
AreKept o true lists = TellFullLogs o lists
AreKept o false lists = lists ≡ []
