use Rattle.mp_rows_laws.proofs.Samples.{auction_applied}
use Rattle.mp_rows_laws.proofs.laws.a_step_is_there.Goals as goal

pub returns : goal.returns
returns c = auction_applied
