-- What it means that a host receives several records.
use Rattle.std.specs.Prelude.{◌≡◌, ℕ, ◌+◌, ◌||◌, Bool, not, false, cond, List, [], ◌∷◌, ◌++◌, map}
use Rattle.std.specs.List.{list_any}
use Rattle.mp_names.specs.declared.names.Name.{Name}
use Rattle.mp_names.specs.Names.{Distinct, In, has}
use Rattle.mp_names.specs.Logs.{Log, LogIsLegal}
use Rattle.mp_names.specs.Outlines.{IsOwedTo, Outline}
use Rattle.mp_model.specs.declared.record.Rec.{Rec}
use Rattle.mp_model.specs.Facts.{JobFacts, QueryFacts}
use Rattle.mp_outline.specs.JobOutline.{name_of_record, outline_of}
use Rattle.mp_host_laws.specs.Hosted.{Hosted, is_of, waits_at}
use Rattle.mp_host_laws.specs.HostOf.{IsHostOf}

-- the names are distinct, the worker has to take each, and it hasn't taken any
pub record AreToCome (o : Outline) (log : Log) (w : ℕ) (xs : List Name) : Type 0 where
  pub once : Distinct xs
  pub owed : (x : Name) → In x xs → IsOwedTo o w x
  pub fresh : (x : Name) → In x xs → has log.took x ≡ false

-- the log with these names taken
abbrev pub with_all_taken : Log → List Name → Log
with_all_taken log xs = record log { took = log.took ++ xs }

module _ {Cell : Type 0} where
  -- a host that held what a legal log said, without these records, holds what it says with them taken
  abbrev pub TakesRecords : QueryFacts Cell → JobFacts → List Rec → Hosted Cell → Hosted Cell → Type 0
  TakesRecords q job rs old new =
      (log : Log)
      → IsHostOf q job log old
      → LogIsLegal (outline_of q job) old.worker log
      → AreToCome (outline_of q job) log old.worker (map (name_of_record old.stage) rs)
      → IsHostOf q job (with_all_taken log (map (name_of_record old.stage) rs)) new

  -- the group of the record doesn't wait, and none of these records is of it
  abbrev pub begins_group : Hosted Cell → List Rec → Rec → Bool
  begins_group h done r = not (waits_at h r.time r.key || list_any (is_of r.time r.key) done)

  -- how many of the records begin a group, after these
  abbrev pub groups_begun : Hosted Cell → List Rec → List Rec → ℕ
  groups_begun h done [] = 0
  groups_begun h done (r ∷ rs) = cond (begins_group h done r) 1 0 + groups_begun h (done ++ r ∷ []) rs
