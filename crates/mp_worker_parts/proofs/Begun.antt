-- A new worker: its parts hold nothing, as its empty log says.
use Rattle.std.proofs.Common.{◌≡◌, ◌∙◌, ℕ, ◌<◌, Bool, List, [], arith, length, subst, sym}
use Rattle.std.specs.Prelude.{replicate}
use Rattle.mp_names.specs.declared.controls.Control.{Control}
use Rattle.mp_names.specs.Logs.{Log, empty_log}
use Rattle.mp_names.specs.Outlines.{OutlineIsSound}
use Rattle.mp_stamps.specs.declared.seen.Seen.{Seen}
use Rattle.mp_bins.specs.Notes.{IsShape, Notes}
use Rattle.mp_model.specs.Facts.{JobFacts, QueryFacts}
use Rattle.mp_job.specs.Runs.{IsRunOf}
use Rattle.mp_job.proofs.Runs.{run_controls, run_shape}
use Rattle.mp_board.specs.Boards.{ShowsFrontiers}
use Rattle.mp_outline.specs.JobOutline.{layout_of, outline_of}
use Rattle.mp_rows.specs.WorkerLog.{WorkerLog}
use Rattle.mp_controller.specs.Controlling.{Controlling, IsNew, IsSendingOrder}
use Rattle.mp_route.specs.Routed.{Routed}
use Rattle.mp_host_laws.specs.Hosted.{Hosted}
use Rattle.mp_handoff.specs.MoversState.{MoversState}
use Rattle.mp_output.specs.Unwritten.{Unwritten}
use Rattle.mp_worker_invariant.specs.Parts.{AreMoversAt, ArePartsOf, AtEach, IsHostAt, IsRouterAt}
use Rattle.mp_worker_invariant.proofs.Asked.{parts_begin}
use Rattle.mp_worker_refinement.proofs.Begins.{opening_is_told}
use Rattle.mp_worker_parts.specs.Kept.{parts_with}

-- a new controller of a job is one of its runs that are paced so
pub new_for_run : (its job : JobFacts) → IsRunOf its job → (paced : Bool) → job.paced ≡ paced → (c : Controlling) → IsNew paced its c → IsNew job.paced job c
new_for_run its job run paced pace c new =
    subst
    (λ (b : Bool). IsNew b job c)
    (sym pace)
    (record {
      controls = new.controls ∙ run_controls its job run;
      order = subst (λ (cs : List Control). IsSendingOrder paced cs c.order) (run_controls its job run) new.order;
      next = new.next;
      pace = new.pace;
      shape = new.shape ∙ run_shape its job run;
    })

module _ {Cell : Type 0} (q : QueryFacts Cell) (job : JobFacts) (sound : OutlineIsSound (outline_of q job)) where
  -- there is a worker, a bin and a stage
  pub some_of_each : IsShape job.shape
  some_of_each = let bin = sound.bins_fit 0 in (sound.some_worker, omega arith, sound.some_stage)

  module _ (w : ℕ) (seen : Seen) (inside : w < job.shape.workers) (opening : ShowsFrontiers (outline_of q job) (replicate job.shape.workers empty_log) seen) where
    pub parts_at_first :
        (log : WorkerLog) (posted : Log) (notes : Notes) (c : Controlling) (routers : List Routed) (hosts : List (Hosted Cell)) (movers : List MoversState) (unsent unwritten : Unwritten)
        → log.worker ≡ w → log.log ≡ empty_log → posted ≡ empty_log → notes.layout ≡ layout_of job → notes.noted ≡ [] → (w ≡ 0 → IsNew job.paced job c) → length routers ≡ job.shape.stages
        → AtEach routers (IsRouterAt q job w empty_log) → length hosts ≡ job.shape.stages → AtEach hosts (IsHostAt q job w empty_log)
        → length movers ≡ job.shape.stages → AtEach movers (AreMoversAt q job w empty_log) → unsent.rows ≡ [] → unwritten.rows ≡ []
        → ArePartsOf q job (parts_with log posted seen notes c routers hosts movers unsent unwritten)
    parts_at_first log posted notes c routers hosts movers unsent unwritten number empty nothing layout none new all_routers at_routers all_hosts at_hosts all_movers at_movers no_unsent no_unwritten =
        let done = opening_is_told (outline_of q job) w seen sound inside opening in
        rw (number, empty, nothing, no_unsent, no_unwritten)
        (parts_begin q job w seen notes c routers hosts movers inside done layout none new all_routers at_routers all_hosts at_hosts all_movers at_movers)
