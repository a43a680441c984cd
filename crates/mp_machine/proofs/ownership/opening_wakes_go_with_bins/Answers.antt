use Rattle.mp_machine.specs.Runs.{run_of_machine}
use Rattle.mp_machine.proofs.Worlds.{run_right}
use Rattle.mp_machine.proofs.Opening.{here_holds, holds_here}
use Rattle.mp_machine.proofs.ownership.opening_wakes_go_with_bins.Goals as goal

pub returns : goal.returns
returns c = λ o depth steps ok j u k w l wake unapplied.
    let world = run_of_machine o depth steps in
    let right = run_right o ok depth steps in
    (here_holds o ok depth world right j u k w l wake, holds_here o ok depth world right j u k w l wake unapplied)
