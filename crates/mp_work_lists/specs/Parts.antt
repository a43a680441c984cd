-- The parts of the work of a job: that of its control records, of its stages and of its answer rows.
use Rattle.std.specs.Prelude.{◌≡◌, ℕ, ◌+◌, ◌*◌, ◌<◌, ◌==◌, cond, List, All, count_by, filter}
use Rattle.mp_names.specs.declared.names.Name.{Name}
use Rattle.mp_names.specs.declared.names.Name.TheVariants.{Ctrl, Rec, Packet, Row, Group, Settled, Written}
use Rattle.mp_names.specs.declared.controls.Control.{Control}
use Rattle.mp_names.specs.declared.locations.Loc.{Loc}
use Rattle.mp_names.specs.declared.locations.Loc.TheVariants.{Ctl, CtlMail, Source, Route, Mail, Move, State, Host, OutRoute, OutMail}
use Rattle.mp_names.specs.Locations.{IsLocation}
use Rattle.mp_names.specs.Names.{is_packet}
use Rattle.mp_names.specs.Outlines.{Outline, packets_of, groups_of, control_times}
use Rattle.mp_stamps.specs.Counts.{same_loc}
use Rattle.mp_player_laws.specs.WorkLeft.{added_below}
use Rattle.mp_chart.specs.declared.work.Work.{Work}
use Rattle.mp_chart.specs.Left.{work_at}

-- How many of a time there are

abbrev pub times_at : ℕ → List ℕ → ℕ
times_at t times = count_by (λ u. u == t) times

abbrev pub controls_at : ℕ → List Control → ℕ
controls_at t controls = count_by (λ c. c.time == t) controls

-- the time that a name holds; a control record's holds none
abbrev pub time_in : Name → ℕ
time_in (Ctrl i v) = 0
time_in (Rec j t k g) = t
time_in (Packet j b t) = t
time_in (Row t g) = t
time_in (Group j t k) = t
time_in (Settled j t) = t
time_in (Written t) = t

abbrev pub names_at : ℕ → List Name → ℕ
names_at t names = count_by (λ x. time_in x == t) names

-- How much work there is at a location and time

-- each control record goes to each worker
abbrev pub control_work : Outline → Loc → ℕ → ℕ
control_work o Ctl t = o.workers * controls_at t o.controls
control_work o CtlMail t = o.workers * controls_at t o.controls
control_work o _ t = 0

-- each record of a stage is sent and taken, and those of stage 0 are ingested
abbrev pub record_work : Outline → ℕ → Loc → ℕ → ℕ
record_work o j Source t = cond (j == 0) (names_at t (o.records j)) 0
record_work o j (Route i) t = cond (j == i) (names_at t (o.records j)) 0
record_work o j (Mail i) t = cond (j == i) (names_at t (o.records j)) 0
record_work o j _ t = 0

-- each packet of a stage is sent and taken, and each worker settles each control time
abbrev pub move_work : Outline → ℕ → Loc → ℕ → ℕ
move_work o j (Move i) t = cond (j == i) (o.workers * names_at t (control_times o j) + names_at t (filter (is_packet j) (packets_of o))) 0
move_work o j (State i) t = cond (j == i) (names_at t (filter (is_packet j) (packets_of o))) 0
move_work o j _ t = 0

-- each group of a stage waits to be applied
abbrev pub group_work : Outline → ℕ → Loc → ℕ → ℕ
group_work o j (Host i) t = cond (j == i) (names_at t (groups_of o j)) 0
group_work o j _ t = 0

abbrev pub stage_work : Outline → ℕ → Loc → ℕ → ℕ
stage_work o j a t = record_work o j a t + move_work o j a t + group_work o j a t

-- each answer row is sent and taken
abbrev pub row_work : Outline → Loc → ℕ → ℕ
row_work o OutRoute t = names_at t o.rows
row_work o OutMail t = names_at t o.rows
row_work o _ t = 0

-- all of it
abbrev pub job_work : Outline → Loc → ℕ → ℕ
job_work o a t = control_work o a t + added_below o.stages (λ j. stage_work o j a t) + row_work o a t

-- Lists of work

-- so much work at one location, by time
abbrev pub work_at_one : Loc → (ℕ → ℕ) → Loc → ℕ → ℕ
work_at_one loc f a t = cond (same_loc loc a) (f t) 0

-- `each` names of work at one location, for each of the times
abbrev pub work_of_times : Loc → ℕ → List ℕ → Loc → ℕ → ℕ
work_of_times loc each times = work_at_one loc (λ t. each * times_at t times)

-- the work is at a location of a job with so many stages, and of some names
abbrev pub IsFit : ℕ → Work → Type 0
IsFit stages work = IsLocation stages work.loc × (0 < work.count)

-- There is so much more work, all of it fit where this is at locations of the job
pub record HasMore (more : Loc → ℕ → ℕ) (old new : List Work) : Type 0 where
  pub work : (a : Loc) (t : ℕ) → work_at a t new ≡ work_at a t old + more a t
  pub fit : (stages : ℕ) → ((a : Loc) (t : ℕ) → 0 < more a t → IsLocation stages a) → All (IsFit stages) old → All (IsFit stages) new
