use Rattle.mp_test_runs.proofs.GivingRows.{q1_gives_rows}
use Rattle.mp_test_runs.proofs.sends.sent_at_once.Goals as goal

pub open-requires-clause-run : goal.open-requires-clause-run
open-requires-clause-run g c κs within = record { run = c.requires.job; pace = c.requires.pace; rows = q1_gives_rows g.J.Naming.job }
