-- The next record of a worker's share goes to the router of stage 0: which record that is, and that the parts hold what the new log says.
use Rattle.std.proofs.Common.{◌≡◌, ◌==◌, ◌%◌, ℕ, ◌<◌, ◌≤◌, Contains, List, IsSome, Some, get_or, length, slice_get, refl, sym, ap, ◌∙◌, subst}
use Rattle.std.specs.List.{range_with_len}
use Rattle.std.specs.Option.{is_some}
use Rattle.std.proofs.lemmas.Bool.{and_parts}
use Rattle.std.proofs.lemmas.Option.{slice_get_past, slice_get_read}
use Rattle.mp_names.specs.declared.kinds.Kind.TheVariants.{Ingest}
use Rattle.mp_names.specs.declared.names.Name.{Name}
use Rattle.mp_names.specs.Logs.{Log, with_ingested}
use Rattle.mp_names.specs.Outlines.{OutlineIsSound}
use Rattle.mp_model.specs.declared.record.Rec.{Rec}
use Rattle.mp_model.specs.Facts.{JobFacts, QueryFacts}
use Rattle.mp_job.specs.Records.{is_taken_by, record_at, share_of}
use Rattle.mp_job.proofs.Members.{Contains-filter}
use Rattle.mp_outline.specs.JobOutline.{name_of_record, outline_of}
use Rattle.mp_rows.specs.Entries.{AreChanges}
use Rattle.mp_rows_laws.specs.Changes.{ingested_at}
use Rattle.mp_rows_laws.proofs.Ingested.{ingested}
use Rattle.mp_route.specs.Routed.{Routed}
use Rattle.mp_route.specs.Unsent.{HoldsOneMore, HoldsUnsent}
use Rattle.mp_worker_invariant.specs.Kept.{with_router}
use Rattle.mp_worker_invariant.specs.Laws.{CanDo, SharesAreIngested}
use Rattle.mp_worker_invariant.specs.Parts.{ArePartsOf, Parts}
use Rattle.mp_worker_invariant.proofs.Ingested.{shares_are_ingested}
use Rattle.mp_worker_steps.specs.Ingesting.{IsNextRecord}
use Rattle.mp_worker_invariant.proofs.Standing.{router_at, steps}

-- each event of a share makes a record
pub has_record : {Cell : Type 0} (q : QueryFacts Cell) (job : JobFacts) (w n i : ℕ) (indices : List ℕ) → indices ≡ share_of q job.events job.shape.workers w → n < length indices → i ≡ get_or indices n i → IsSome (record_at q job.events i)
has_record q job w n i indices are inside at =
    let there = subst (λ (xs : List ℕ). Contains xs i) are (n, inside, sym at) in
    let taken = Contains-filter (is_taken_by q job.events job.shape.workers w) (range_with_len 0 (length job.events)) i there in
    (and_parts (is_some (record_at q job.events i)) (i % job.shape.workers == w) taken.1).0

module _ {Cell : Type 0} {q : QueryFacts Cell} {job : JobFacts} {p : Parts Cell} (sound : OutlineIsSound (outline_of q job)) (are : ArePartsOf q job p) where
  ingests : SharesAreIngested q job p.number p.log
  ingests = shares_are_ingested q job sound p.number p.log are.legal

  -- there is a router of stage 0
  pub some_router : 0 < length p.routers
  some_router = subst (λ (n : ℕ). 0 < n) (sym are.all_routers) sound.some_stage

  module _ (indices : List ℕ) (share_is : indices ≡ share_of q job.events job.shape.workers p.number) where
    -- it is that of the index at the place of as many as are ingested
    pub next_record : (i : ℕ) (r : Rec) → length p.log.ingested < length indices → i ≡ get_or indices (length p.log.ingested) i → record_at q job.events i ≡ Some r → IsNextRecord q job p.number p.log r
    next_record i r inside at makes =
        let n = length p.log.ingested in
        ingests.next n i r refl (sym (ap (λ (l : List ℕ). slice_get l n) share_is) ∙ slice_get_read indices (length indices) n i refl inside at) makes

    -- where the share has no such place no record can be ingested
    pub none_to_ingest : length indices ≤ length p.log.ingested → (x : Name) → CanDo q job p Ingest x → ⊥
    none_to_ingest past x can =
        let n = length p.log.ingested in
        ingests.over n refl (sym (ap (λ (l : List ℕ). slice_get l n) share_is) ∙ slice_get_past indices n past) x can.0

  module _ (r : Rec) (next : IsNextRecord q job p.number p.log r) where
    -- ingesting it is a step that the worker can make
    pub can_ingest : CanDo q job p Ingest (name_of_record 0 r)
    can_ingest = (next.0, tt)

    -- its event is no longer to come, and it is at the router
    pub ingested_counts : AreChanges (outline_of q job) p.number p.log (with_ingested p.log (name_of_record 0 r)) (ingested_at r.time)
    ingested_counts =
        let new = ingests.is_new (name_of_record 0 r) next.0 in
        ingested (outline_of q job) p.number p.log sound are.legal r.time r.key r.tag new.0 new.1

    -- and the parts hold what the new log says once the router of stage 0 holds the record too
    pub record_ingested : (old new : Routed) → old ≡ get_or p.routers 0 old → new.stage ≡ old.stage
        → ((v : ℕ) (before after : Log) → HoldsUnsent q job v before old → HoldsOneMore q job v before after old.stage (name_of_record old.stage r) → HoldsUnsent q job v after new)
        → ArePartsOf q job (with_router p (with_ingested p.log (name_of_record 0 r)) 0 new)
    record_ingested old new is same holds =
        let x = name_of_record 0 r in
        let at = router_at are 0 sound.some_stage old is in
        let one_more = subst (λ (j : ℕ). HoldsOneMore q job p.number p.log (with_ingested p.log x) j (name_of_record j r)) (sym at.0) (ingests.one_more x next.0) in
        (steps sound are).ingest x new next.0 (same ∙ at.0, holds p.number p.log (with_ingested p.log x) at.1 one_more)
