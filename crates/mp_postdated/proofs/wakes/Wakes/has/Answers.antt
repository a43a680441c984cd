-- The search finds a wake just where it is there.
use Rattle.mp_postdated.proofs.Ordered.{ordered_found}
use Rattle.mp_postdated.proofs.wakes.Wakes.has.Goals as goal

pub returns : goal.returns
returns c = rw (c.contains.ensures, ← c.self.view_is) (ordered_found c.self.inside.live.keys c.args.time c.args.key)
