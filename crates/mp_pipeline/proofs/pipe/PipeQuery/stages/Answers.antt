-- The numbers of a pipeline say it again.
use Rattle.std.proofs.Common.{rules}
use Rattle.mp_pipeline.specs.Laws.{said_again}
use Rattle.mp_pipeline.proofs.pipe.PipeQuery.stages.Goals as goal

pub returns : goal.returns
returns c = rw (said_again c.args.self.now (rw (← c.self.view_is) c.self.invariant)) (search (c, rules))
