-- What it means that a router holds what its worker's log says.
use Rattle.std.specs.Prelude.{◌≡◌, ◌↔◌, ◌⊎◌, ℕ, List, [], ◌++◌, map}
use Rattle.mp_names.specs.declared.locations.Loc.TheVariants.{CtlMail}
use Rattle.mp_names.specs.declared.names.Name.{Name}
use Rattle.mp_names.specs.Frontiers.{HasPassed}
use Rattle.mp_names.specs.Keeping.{IsHeld}
use Rattle.mp_names.specs.Logs.{Log}
use Rattle.mp_names.specs.Names.{Distinct, In, IsLeast, is_rec}
use Rattle.mp_names.specs.Outlines.{owner_at, time_of}
use Rattle.mp_bins.specs.Notes.{Notes, owner_at as noted_owner}
use Rattle.mp_stamps.specs.declared.seen.Seen.{Seen}
use Rattle.mp_stamps.specs.Seen.{seen_at}
use Rattle.mp_model.specs.Facts.{JobFacts, QueryFacts}
use Rattle.mp_outline.specs.JobOutline.{name_of_record, outline_of}
use Rattle.mp_route.specs.Routed.{Routed}

-- the log with these names sent
abbrev pub with_all_sent : Log → List Name → Log
with_all_sent log xs = record log { sent = log.sent ++ xs }

-- the names of the records held
abbrev pub names_held : Routed → List Name
names_held h = map (name_of_record h.stage) h.held

module _ {Cell : Type 0} (q : QueryFacts Cell) (job : JobFacts) (w : ℕ) where
  -- by the worker's log it has the record of this name of the stage, and hasn't sent it
  abbrev pub IsUnsent : Log → ℕ → Name → Type 0
  IsUnsent log j x = IsHeld (outline_of q job) w log (is_rec j) x

  -- the router holds each record of its stage that is unsent by the log, but for those of these names, which are unsent too
  pub record HoldsAllBut (log : Log) (rest : List Name) (h : Routed) : Type 0 where
    pub once : Distinct (rest ++ names_held h)
    pub unsent : (x : Name) → (In x (rest ++ names_held h) ↔ IsUnsent log h.stage x)

  -- the router holds just what is unsent by the log, each record once
  abbrev pub HoldsUnsent : Log → Routed → Type 0
  HoldsUnsent log h = HoldsAllBut log [] h

  -- just the record of this name is unsent by the new log and wasn't by the old one
  pub record HoldsOneMore (old new : Log) (j : ℕ) (x : Name) : Type 0 where
    pub not_before : IsUnsent old j x → ⊥
    pub now : (y : Name) → (IsUnsent new j y ↔ (IsUnsent old j y ⊎ (y ≡ x)))

  -- the name is the least that is unsent by the log, and the frontier of control records on their way that was seen has passed its time
  abbrev pub MayGo : Log → ℕ → Seen → Name → Type 0
  MayGo log j seen x = IsLeast (IsUnsent log j) x × HasPassed (seen_at seen CtlMail) (time_of (outline_of q job) x)

module _ {Cell : Type 0} (q : QueryFacts Cell) (job : JobFacts) where
  -- every control record whose time the frontier of control records on their way has passed is noted: up to there the owners are the job's
  pub record OwnersAreKnown (notes : Notes) (seen : Seen) (stage : ℕ) : Type 0 where
    pub shape : notes.layout.shape ≡ job.shape
    pub owners : (t b : ℕ) → HasPassed (seen_at seen CtlMail) t → noted_owner notes stage b t ≡ owner_at (outline_of q job) stage b t
