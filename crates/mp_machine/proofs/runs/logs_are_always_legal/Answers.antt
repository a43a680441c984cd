use Rattle.mp_machine.proofs.Worlds.{run_right, run_goes_on}
use Rattle.mp_machine.proofs.runs.logs_are_always_legal.Goals as goal

pub returns-clause-legal : goal.returns-clause-legal
returns-clause-legal c = λ o depth steps ok w l. let r = run_right o ok depth steps in (r.logs w l, r.posted w l, r.grows w l)

pub returns-clause-grow : goal.returns-clause-grow
returns-clause-grow c = λ o depth steps more ok w l. let g = run_goes_on o ok depth steps more in (g.logs w l, g.posted w l)
