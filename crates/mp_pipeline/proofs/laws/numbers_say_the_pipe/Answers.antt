use Rattle.std.proofs.Common.{ap}
use Rattle.mp_pipeline.specs.Laws.{said_again}
use Rattle.mp_pipeline.specs.Pipes.{pipe_table}
use Rattle.mp_pipeline.proofs.laws.numbers_say_the_pipe.Goals as goal

pub returns : goal.returns
returns c = λ p sound. ap pipe_table (said_again p sound)
