-- What is known of a group that a worker applies.
use Rattle.std.specs.Prelude.{◌≡◌, ℕ, ◌+◌, ◌<◌, ◌≤◌, List, [], ◌∷◌, ◌++◌, All, Contains, Some, get_or, length, map, set, slice_get}
use Rattle.mp_names.specs.declared.kinds.Kind.TheVariants.{Apply}
use Rattle.mp_names.specs.declared.locations.Loc.{Loc}
use Rattle.mp_names.specs.declared.locations.Loc.TheVariants.{Host}
use Rattle.mp_names.specs.declared.names.Name.TheVariants.{Group}
use Rattle.mp_names.specs.Limits.{last_time}
use Rattle.mp_names.specs.Logs.{Log, with_applied}
use Rattle.mp_model.specs.declared.value.Value.{Value}
use Rattle.mp_model.specs.declared.record.Output.{Output}
use Rattle.mp_model.specs.Facts.{JobFacts, QueryFacts}
use Rattle.mp_model.specs.Folds.{cell_before, outputs_at}
use Rattle.mp_model.specs.Stages.{answer_rows, stage_records}
use Rattle.mp_rows.specs.Entries.{AreChanges}
use Rattle.mp_rows_laws.specs.Changes.{location_after, one_less, one_more, some_more}
use Rattle.mp_outline.specs.JobOutline.{name_of_record, name_of_row, outline_of}
use Rattle.mp_outline.specs.Laws.{group_at}
use Rattle.mp_msg.specs.Contents.{IsRecordOf}
use Rattle.mp_route.specs.Routed.{Routed}
use Rattle.mp_route.specs.Unsent.{HoldsAllBut, HoldsUnsent}
use Rattle.mp_host_laws.specs.Applying.{woken_by}
use Rattle.mp_host_laws.specs.Hosted.{Hosted}
use Rattle.mp_worker_invariant.specs.Laws.{CanDo}
use Rattle.mp_worker_invariant.specs.Parts.{ArePartsOf, HoldsRowsBut, Parts}
use Rattle.mp_worker_apply.specs.Onward.{GoOnward, records_at}

-- What is known of a group of a stage that was applied, by its outputs, its wakes and the new host: its time, that the step could be made, what its outputs are, what it changes at the counts, that what is enough for it at the stage is enough, and what the parts are once its outputs are handed on
pub record IsApplying {Cell : Type 0} (q : QueryFacts Cell) (job : JobFacts) (p : Parts Cell) (j t k : ℕ) (vs : List Value) (woke : List ℕ) (new : Hosted Cell) : Type 0 where
  pub in_time : t ≤ last_time
  pub can : CanDo q job p (Apply j) (Group j t k)
  pub records : j + 1 < job.shape.stages → All (IsRecordOf q job (j + 1)) (records_at q (j + 1) t k vs)
  pub rows : job.shape.stages ≤ j + 1 → All (Contains (answer_rows q job.events)) (outputs_at t k vs)
  pub changes : (onward : Loc) → onward ≡ location_after j (outline_of q job).stages → (number : ℕ) → GoOnward q job j t k vs number
      → AreChanges (outline_of q job) p.number p.log (with_applied p.log (Group j t k)) (one_less (Host j) t ∷ (some_more onward t number ++ map (one_more (Host j)) woke))
  pub fits : (most : ℕ)
      → ((h : Hosted Cell) → slice_get p.hosts j ≡ Some h
      → length (q.gives h.stage (cell_before q h.stage (stage_records q job.events h.stage) k t) (group_at q job h.stage t k)) + length (woken_by q h t k) ≤ most)
      → length vs + length woke ≤ most
  pub next : j + 1 < job.shape.stages → (old r : Routed) → old ≡ get_or p.routers (j + 1) old → r.stage ≡ old.stage
      → ((w : ℕ) (log : Log) → HoldsAllBut q job w log (map (name_of_record (j + 1)) (records_at q (j + 1) t k vs)) old → HoldsUnsent q job w log r)
      → ArePartsOf q job (record p { log = with_applied p.log (Group j t k); routers = set p.routers (j + 1) r; hosts = set p.hosts j new })
  pub last : job.shape.stages ≤ j + 1 → (rows : List Output)
      → ((w : ℕ) (log : Log) → HoldsRowsBut q job w log (map name_of_row (outputs_at t k vs)) p.unsent → HoldsRowsBut q job w log [] rows)
      → ArePartsOf q job (record p { log = with_applied p.log (Group j t k); hosts = set p.hosts j new; unsent = rows })
