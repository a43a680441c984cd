-- The numbers of a pipeline say it again.
use Rattle.std.proofs.Common.{rules}
use Rattle.mp_pipeline.specs.Laws.{said_again}
use Rattle.mp_pipeline.proofs.pipe.PipeQuery.fresh.Goals as goal

pub returns : goal.returns
returns c = rw (said_again c.args.self.now c.fresh_cell.ensures.sound) (search (c, rules))
