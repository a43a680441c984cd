-- What a worker may be sure of before its step.
use Rattle.std.proofs.Common.{ℕ, ◌∙◌, sym, subst, arith}
use Rattle.mp_names.specs.Outlines.{Outline}
use Rattle.mp_names.specs.Logs.{Log, LogGrows, LogIsLegal}
use Rattle.mp_machine.specs.Worlds.{World, logs_of}
use Rattle.mp_machine.proofs.Worlds.{WorldIsRight}
use Rattle.mp_worker_refinement.specs.Ends.{sent_to, took_from}
use Rattle.mp_worker_refinement.specs.Laws.{StepsMayBeAsked}
use Rattle.mp_worker_refinement.specs.SystemState.{Refines, SystemState}
use Rattle.mp_worker_refinement.proofs.Logs.{listed}
use Rattle.mp_worker_refinement.proofs.Mailboxes.{at_ends}

module _ (o : Outline) (depth : ℕ) (t : SystemState) (world : World) (right : WorldIsRight o depth world) (are : Refines o depth t world) where
  pub may_be_asked : StepsMayBeAsked o t
  may_be_asked =
      record {
        fits = λ w s e. (listed o depth t world are w s e, (are.workers w s e).number);
        ends = λ w s e a b la lb mine. (sent_to o (world.worker a).log b, took_from o (world.worker b).log a, at_ends o w (logs_of world) t.post s.log (are.workers w s e).log are.mail a b la lb);
        posted = λ w s e. are.posted w (listed o depth t world are w s e) ∙ sym (are.workers w s e).posted;
        grows = λ w s e.
            subst (λ (log : Log). LogGrows s.posted log) (sym (are.workers w s e).log)
            (subst (λ (log : Log). LogGrows log (world.worker w).log) (sym (are.workers w s e).posted) (right.grows w (listed o depth t world are w s e)));
        legal = λ w s e. subst (LogIsLegal o w) (sym (are.workers w s e).log) (right.logs w (listed o depth t world are w s e));
        version = λ w s e. let b = right.behind w (listed o depth t world are w s e) in let v = (are.workers w s e).version in let n = are.version in omega arith;
      }
