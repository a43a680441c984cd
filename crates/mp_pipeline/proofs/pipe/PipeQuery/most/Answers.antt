-- The numbers of a pipeline say it again.
use Rattle.std.proofs.Common.{rules}
use Rattle.mp_pipeline.specs.Laws.{said_again}
use Rattle.mp_pipeline.proofs.pipe.PipeQuery.most.Goals as goal

pub returns-in-Some : goal.returns-in-Some
returns-in-Some c = rw (said_again c.args.self.now c.line.ensures.sound) (search (c, rules))

pub returns-in-None : goal.returns-in-None
returns-in-None c = rw (said_again c.args.self.now c.line.ensures.sound) (search (c, rules))
