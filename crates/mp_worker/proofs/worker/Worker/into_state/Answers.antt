use Rattle.std.proofs.Common.{subst, sym}
use Rattle.mp_machine.specs.Promises.{LogIsFull}
use Rattle.mp_model.specs.Tables.{table_of}
use Rattle.mp_outline.specs.JobOutline.{outline_of}
use Rattle.mp_worker_refinement.specs.State.{WorkerState}
use Rattle.mp_worker.proofs.worker.Worker.into_state.Goals as goal

pub into_states-requires-after_bounds : goal.into_states-requires-after_bounds
into_states-requires-after_bounds g c κs within =
    let o = outline_of (table_of g.Q.Query.facts g.J.Naming.job) g.J.Naming.job in
    subst (λ (s : WorkerState). LogIsFull o s.number s.log) (sym c.self.view_is) (c.log_is_known.ensures.full c.requires.finished)
