use Rattle.mp_machine.specs.Runs.{run_of_machine}
use Rattle.mp_machine.proofs.Worlds.{run_right}
use Rattle.mp_worker_refinement.proofs.Asked.{may_be_asked}
use Rattle.mp_worker_refinement.proofs.Exchanges.{same_board, saw, saw_nothing}
use Rattle.mp_worker_refinement.proofs.Steps.{did, not_now, same_world}
use Rattle.mp_worker_refinement.proofs.laws.steps_are_turns.Goals as goal

pub returns-clause-turns : goal.returns-clause-turns
returns-clause-turns c = λ o depth steps t ok are.
    let world = run_of_machine o depth steps in
    let right = run_right o ok depth steps in
    record {
      did = λ w kind told xs old new post was tells makes lets mail. did o ok depth t world right are w old was kind xs new post makes lets mail told tells;
      not_now = λ w kind s post was other hinders mail. (not_now o ok depth t world right are w s was kind other hinders, same_world o ok depth t world right are w s was post mail);
      saw = λ w s new post was sees shows mail. saw o ok depth t world right are w s was new sees shows post mail;
      saw_nothing = λ w s post was level mail.
          (saw_nothing o ok depth t world right are w s was level, same_board o ok depth t world right are w s was level, same_world o ok depth t world right are w s was post mail);
    }

pub returns-clause-asked : goal.returns-clause-asked
returns-clause-asked c = λ o depth steps t ok are. may_be_asked o depth t (run_of_machine o depth steps) (run_right o ok depth steps) are
