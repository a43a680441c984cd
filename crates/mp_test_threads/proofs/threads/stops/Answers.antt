use Rattle.mp_test_threads.proofs.GivingRows.{waking_gives_rows}
use Rattle.mp_test_threads.proofs.threads.stops.Goals as goal

pub open-requires-clause-run : goal.open-requires-clause-run
open-requires-clause-run g c κs within = record { run = c.requires.job; pace = c.requires.pace; rows = waking_gives_rows g.J.Naming.job }

pub run_workers-requires-clause-start : goal.run_workers-requires-clause-start
run_workers-requires-clause-start g c κs within = c.in_ok-crew.ensures.new.start
