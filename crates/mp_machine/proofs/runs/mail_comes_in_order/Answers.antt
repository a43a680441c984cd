use Rattle.mp_machine.specs.Runs.{run_of_machine}
use Rattle.mp_machine.proofs.Worlds.{run_right}
use Rattle.mp_machine.proofs.Single.{single_names, single_mail}
use Rattle.mp_machine.proofs.runs.mail_comes_in_order.Goals as goal

pub returns-clause-order : goal.returns-clause-order
returns-clause-order c = λ o depth steps ok v w lv lw. let m = (run_right o ok depth steps).mail in (m.order v w lv lw, m.room v w lv lw)

pub returns-clause-messages : goal.returns-clause-messages
returns-clause-messages c = λ o depth steps ok v w lv lw. (run_right o ok depth steps).mail.messages v w lv lw

pub returns-clause-single : goal.returns-clause-single
returns-clause-single c = λ o depth steps ok one.
    let world = run_of_machine o depth steps in
    let right = run_right o ok depth steps in
    ((λ w kind x can. single_names o ok one depth world right w kind x can), single_mail o one depth world right)
