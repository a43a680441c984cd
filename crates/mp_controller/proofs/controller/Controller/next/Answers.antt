use Rattle.mp_controller.proofs.Machine.{tells_machine}
use Rattle.mp_controller.proofs.controller.Controller.next.Goals as goal

pub returns-clause-machine : goal.returns-clause-machine
returns-clause-machine c = tells_machine c.args.self.now c.args.seen.now c.first_to_go.result c.first_to_go.ensures.some c.first_to_go.ensures.none
