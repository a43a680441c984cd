-- All work of a job in a list, and its times.
use Rattle.std.specs.Prelude.{◌≡◌, ℕ, ◌<◌, List, All, Contains}
use Rattle.std.specs.List.Sorted.{IsStrictlyIncreasing}
use Rattle.mp_names.specs.declared.locations.Loc.{Loc}
use Rattle.mp_names.specs.Locations.{IsLocation}
use Rattle.mp_names.specs.Logs.{empty_log}
use Rattle.mp_names.specs.Outlines.{Outline}
use Rattle.mp_player_laws.specs.WorkLeft.{work_left}
use Rattle.mp_chart.specs.declared.work.Work.{Work}
use Rattle.mp_chart.specs.Left.{work_at}

-- what contracts see of work that is listed
pub record Listed : Type 0 where
  pub times : List ℕ
  pub work : List Work

-- All work of a job is listed, each part of it at a location of the job and of some names, and each of its times
pub record IsAllWork (o : Outline) (listed : Listed) : Type 0 where
  pub rising : IsStrictlyIncreasing listed.times
  pub timed : (a : Loc) (t : ℕ) → 0 < work_left o (λ w. empty_log) a t → Contains listed.times t
  pub all : (a : Loc) (t : ℕ) → work_at a t listed.work ≡ work_left o (λ w. empty_log) a t
  pub there : All (λ work. IsLocation o.stages work.loc) listed.work
  pub some : All (λ work. 0 < work.count) listed.work
