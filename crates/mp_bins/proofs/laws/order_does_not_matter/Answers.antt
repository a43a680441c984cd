use Rattle.mp_bins.proofs.Placing.{commute}
use Rattle.mp_bins.proofs.laws.order_does_not_matter.Goals as goal

pub returns : goal.returns
returns c = commute
