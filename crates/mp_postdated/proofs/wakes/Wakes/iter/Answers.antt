-- The set has each wake once.
use Rattle.mp_postdated.proofs.Ordered.{ordered-ascends, ordered-permuted, same_pair, same_pair-exact}
use Rattle.mp_postdated.proofs.wakes.Wakes.iter.Goals as goal

pub returns-clause-wakes : goal.returns-clause-wakes
returns-clause-wakes c = rw (← c.self.view_is, c.iter.ensures.rest) (ordered-permuted same_pair same_pair-exact c.self.inside.live.keys c.iter.ensures.unique)

pub returns-clause-ascending : goal.returns-clause-ascending
returns-clause-ascending c = rw (← c.self.view_is) (ordered-ascends c.self.inside.live.keys)
