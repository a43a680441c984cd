use Rattle.std.proofs.Common.{ℕ, ◌++◌}
use Rattle.mp_names.specs.Logs.{Log}
use Rattle.mp_names.proofs.Exact.{closed_from_passed, passed_from_closed}
use Rattle.mp_machine.specs.Worlds.{posted_logs}
use Rattle.mp_machine.specs.Runs.{run_of_machine}
use Rattle.mp_machine.proofs.Worlds.{known, closed_grows, run_right, run_goes_on}
use Rattle.mp_machine.proofs.runs.frontiers_go_on.Goals as goal

pub returns-clause-seen : goal.returns-clause-seen
returns-clause-seen c = λ o depth steps more ok w l at t p. (run_goes_on o ok depth steps more).seen w l at t p

pub returns-clause-board : goal.returns-clause-board
returns-clause-board c = λ o depth steps more ok at f g t hf hg p.
    let old : ℕ → Log = posted_logs (run_of_machine o depth steps) in
    let new : ℕ → Log = posted_logs (run_of_machine o depth (steps ++ more)) in
    passed_from_closed o new ok (run_right o ok depth (steps ++ more)).posted at g t hg
    (closed_grows o old new (run_goes_on o ok depth steps more).posted at t (closed_from_passed o old ok (run_right o ok depth steps).posted at f t hf p))

pub returns-clause-done : goal.returns-clause-done
returns-clause-done c = λ o depth steps ok w l at t p. let r = run_right o ok depth steps in (r.seen w l at t p, known o ok depth (run_of_machine o depth steps) r w l at t p)

pub returns-clause-versions : goal.returns-clause-versions
returns-clause-versions c = λ o depth steps ok w l. let r = run_right o ok depth steps in (r.behind w l, r.level w l)

pub returns-clause-exact : goal.returns-clause-exact
returns-clause-exact c = λ o depth steps ok at f t h.
    let logs : ℕ → Log = posted_logs (run_of_machine o depth steps) in
    let legal = (run_right o ok depth steps).posted in
    (closed_from_passed o logs ok legal at f t h, passed_from_closed o logs ok legal at f t h)
