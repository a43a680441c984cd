use Rattle.std.proofs.Common.{◌∙◌}
use Rattle.mp_host_places.proofs.FirstWakes.{firsts_tell}
use Rattle.mp_host_states.proofs.in_hand.InHand.first_wake.Goals as goal

pub returns : goal.returns
returns g c =
    let i = c.self.inside in
    rw (← c.self.view_is) (c.first.ensures ∙ firsts_tell i.bins i.firsts i.held.items c.self.invariant.wakes c.self.invariant.inside)
