use Rattle.mp_host_steps.proofs.Left.{wakes_applied, wakes_stay}
use Rattle.mp_host_steps.proofs.wakes.step_wakes.Goals as goal

pub returns-clause-exact : goal.returns-clause-exact
returns-clause-exact c =
    let added = rw c.key.ensures at c.add_all.ensures.exact in
    wakes_applied c.args.wakes.now.wakes c.args.group.now.time c.args.group.now.key c.args.posts.now c.take_wake.new.wakes.wakes c.add_all.new.self.wakes c.take_wake.ensures.exact added

pub returns-clause-same : goal.returns-clause-same
returns-clause-same c = λ idle ascending.
    wakes_stay c.args.wakes.now.wakes c.add_all.new.self.wakes c.args.group.now c.args.posts.now ascending c.add_all.ensures.ascending c.requires.woken (returns-clause-exact c) idle
