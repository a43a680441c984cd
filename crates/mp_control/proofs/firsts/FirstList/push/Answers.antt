use Rattle.mp_control.proofs.Marked.{one_more_marked}
use Rattle.mp_control.proofs.firsts.FirstList.push.Goals as goal

pub invariant_of-self-2 : goal.invariant_of-self-2
invariant_of-self-2 c =
    let i = c.self.inside in
    rw (c.in_ok-push.ensures.items, c.place_in-place.ensures) (one_more_marked i.shape i.firsts.items i.marks.items c.args.first (rw (← c.self.view_is) at c.requires) c.self.invariant)
