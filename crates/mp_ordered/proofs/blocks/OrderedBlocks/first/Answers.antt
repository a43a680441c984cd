use Rattle.mp_ordered.proofs.Placing.{goes_back}
use Rattle.mp_ordered.proofs.blocks.OrderedBlocks.first.Goals as goal

pub returns-clause-goes_back : goal.returns-clause-goes_back
returns-clause-goes_back g c = goes_back g.O.Order.rank

pub returns-in_err-first-clause-goes_back : goal.returns-in_err-first-clause-goes_back
returns-in_err-first-clause-goes_back g c = goes_back g.O.Order.rank
