use Rattle.mp_pipeline.specs.Laws.{totals_are_sums}
use Rattle.mp_pipeline.proofs.laws.totals_are_sums.Goals as goal

pub returns : goal.returns
returns c = totals_are_sums
