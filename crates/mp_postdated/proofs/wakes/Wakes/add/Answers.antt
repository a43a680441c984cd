-- There is room for one more.
use Rattle.mp_postdated.proofs.wakes.Wakes.add.Goals as goal

pub returns-clause-exact : goal.returns-clause-exact
returns-clause-exact c = λ t k. rw (← c.make_room.ensures.same) (c.put.ensures.exact t k)
