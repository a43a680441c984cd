use Rattle.mp_machine.proofs.Samples.{counts_cancel}
use Rattle.mp_machine.proofs.examples.counts_cancel_in_a_run.Goals as goal

pub returns : goal.returns
returns c = counts_cancel
