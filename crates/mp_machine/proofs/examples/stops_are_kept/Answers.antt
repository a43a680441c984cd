use Rattle.mp_machine.proofs.Samples.{stops_are_kept}
use Rattle.mp_machine.proofs.examples.stops_are_kept.Goals as goal

pub returns : goal.returns
returns c = stops_are_kept
