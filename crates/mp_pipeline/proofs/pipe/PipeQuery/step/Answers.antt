-- The numbers of a pipeline say it again.
use Rattle.std.proofs.Common.{rules}
use Rattle.mp_pipeline.specs.Laws.{said_again}
use Rattle.mp_pipeline.proofs.pipe.PipeQuery.step.Goals as goal

pub returns-in_default-clause-cell : goal.returns-in_default-clause-cell
returns-in_default-clause-cell c = rw (said_again c.args.self.now c.line.ensures.sound) (search (c, rules))

pub returns-in_default-clause-outputs : goal.returns-in_default-clause-outputs
returns-in_default-clause-outputs c = rw (said_again c.args.self.now c.line.ensures.sound) (search (c, rules))

pub returns-clause-cell : goal.returns-clause-cell
returns-clause-cell c = rw (said_again c.args.self.now c.line.ensures.sound) (search (c, rules))

pub returns-clause-outputs : goal.returns-clause-outputs
returns-clause-outputs c = rw (said_again c.args.self.now c.line.ensures.sound) (search (c, rules))
