-- There is no wake just where the set has none.
use Rattle.mp_postdated.proofs.Ordered.{none_ordered, ordered_none}
use Rattle.mp_postdated.proofs.wakes.Wakes.is_empty.Goals as goal

pub returns : goal.returns
returns c =
    let live = c.self.inside.live.keys in
    rw (← c.self.view_is) ((λ e. ordered_none live (c.is_empty.ensures.0 e)), (λ e. c.is_empty.ensures.1 (none_ordered live e)))
