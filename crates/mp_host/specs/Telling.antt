-- What the log of a worker tells of its host, once a record is received or a group applied.
use Rattle.std.specs.Prelude.{◌≡◌, ◌↔◌, ℕ, true, false, List, Contains, IfOk, IfSome, Option, Result}
use Rattle.std.specs.declared.alloc.AllocError.{AllocError}
use Rattle.mp_names.specs.declared.names.Name.TheVariants.{Group}
use Rattle.mp_names.specs.Names.{has}
use Rattle.mp_names.specs.Logs.{Log, LogIsLegal, is_pending, with_applied, with_took}
use Rattle.mp_stamps.specs.declared.seen.Seen.{Seen}
use Rattle.mp_model.specs.declared.record.Rec.{Rec}
use Rattle.mp_model.specs.Facts.{JobFacts, QueryFacts}
use Rattle.mp_outline.specs.JobOutline.{name_of_record, outline_of}
use Rattle.mp_host_laws.specs.Hosted.{Hosted}
use Rattle.mp_host_laws.specs.HostOf.{IsHostOf, IsReadyAt}
use Rattle.mp_host.specs.declared.applied.Applied.{Applied}

-- where a group was applied this holds of what came of it
abbrev pub IfDid : Result (Option Applied) AllocError → (Applied → Type 0) → Type 0
IfDid result P = IfOk result (λ o. IfSome o P)

module _ {Cell : Type 0} (q : QueryFacts Cell) (job : JobFacts) where
  -- a host that held what a legal log said, without this record, holds what it says with the record taken
  abbrev pub TakesRecord : Rec → Hosted Cell → Hosted Cell → Type 0
  TakesRecord r old new =
      (log : Log)
      → IsHostOf q job log old
      → LogIsLegal (outline_of q job) old.worker log
      → has log.took (name_of_record old.stage r) ≡ false
      → IsHostOf q job (with_took log (name_of_record old.stage r)) new

  -- the group could be applied by the log; the host holds what the log says with the group applied; and the key waits from then on, and didn't before, at these times
  pub record AppliesGroup (log : Log) (seen : Seen) (old new : Hosted Cell) (t k : ℕ) (woke : List ℕ) : Type 0 where
    pub ready : IsReadyAt q job log seen old t k
    pub held : IsHostOf q job (with_applied log (Group old.stage t k)) new
    pub woken : (u : ℕ) → (Contains woke u ↔ ((is_pending (outline_of q job) old.worker (with_applied log (Group old.stage t k)) (Group old.stage u k) ≡ true) × (is_pending (outline_of q job) old.worker log (Group old.stage u k) ≡ false)))
