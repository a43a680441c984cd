use Rattle.mp_machine.specs.Runs.{run_of_machine}
use Rattle.mp_machine.proofs.Worlds.{run_right}
use Rattle.mp_machine.proofs.Full.{full_at_end, all_applied_at_end, full_where_known, over_where_known}
use Rattle.mp_machine.proofs.progress.finished_runs_are_full.Goals as goal

pub returns-clause-full : goal.returns-clause-full
returns-clause-full c = λ o depth steps ok over w l. full_at_end o ok depth (run_of_machine o depth steps) (run_right o ok depth steps) over w l

pub returns-clause-known : goal.returns-clause-known
returns-clause-known c = λ o depth steps ok w l know. full_where_known o ok depth (run_of_machine o depth steps) (run_right o ok depth steps) w l know

pub returns-clause-over : goal.returns-clause-over
returns-clause-over c = λ o depth steps ok know. over_where_known o ok depth (run_of_machine o depth steps) (run_right o ok depth steps) know

pub returns-clause-applied : goal.returns-clause-applied
returns-clause-applied c = λ o depth steps ok over. all_applied_at_end o ok depth (run_of_machine o depth steps) (run_right o ok depth steps) over
