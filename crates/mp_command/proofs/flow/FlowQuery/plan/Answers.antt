-- The numbers of a pipeline say its own lines.
use Rattle.std.proofs.Common.{◌∙◌, ap, length}
use Rattle.mp_pipeline.specs.Laws.{said_again}
use Rattle.mp_pipeline.specs.Pipes.{PipeFacts}
use Rattle.mp_command.proofs.flow.FlowQuery.plan.Goals as goal

pub returns-in-Piped-clause-stages : goal.returns-in-Piped-clause-stages
returns-in-Piped-clause-stages c =
    let sound = rw c.in-Piped.is at c.requires in
    rw c.in-Piped.is (c.plan_for.ensures.stages ∙ ap (λ (p : PipeFacts). length p.lines) (said_again _ sound))
