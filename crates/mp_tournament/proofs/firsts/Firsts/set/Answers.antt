use Rattle.mp_tournament.proofs.Same.{set_same}
use Rattle.mp_tournament.proofs.firsts.Firsts.set.Goals as goal

pub returns-else-ne : goal.returns-else-ne
returns-else-ne c =
    let i = c.self.inside in
    rw (← c.self.view_is) (set_same i.count c.args.at i.tree.items c.index.result.now c.args.wake c.ne.result c.index.ensures c.ne.ensures c.if-ne.false)
