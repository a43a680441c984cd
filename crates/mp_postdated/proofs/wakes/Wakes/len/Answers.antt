-- The set has each wake once.
use Rattle.std.proofs.Common.{◌∙◌}
use Rattle.std.proofs.lemmas.List.Sorted.{length_permutation}
use Rattle.mp_postdated.specs.Wakes.{ordered}
use Rattle.mp_postdated.proofs.Ordered.{ordered-ascends, ordered-permuted, same_pair, same_pair-exact}
use Rattle.mp_postdated.proofs.wakes.Wakes.len.Goals as goal

pub returns-clause-wakes : goal.returns-clause-wakes
returns-clause-wakes c = let live = c.self.inside.live.keys in rw (← c.self.view_is) (c.len.ensures.len ∙ length_permutation (ordered live) live (ordered-permuted same_pair same_pair-exact live c.len.ensures.unique))

pub returns-clause-ascending : goal.returns-clause-ascending
returns-clause-ascending c = rw (← c.self.view_is) (ordered-ascends c.self.inside.live.keys)
