use Rattle.mp_machine.proofs.Samples.{records_travel_together}
use Rattle.mp_machine.proofs.examples.records_travel_together.Goals as goal

pub returns : goal.returns
returns c = records_travel_together
