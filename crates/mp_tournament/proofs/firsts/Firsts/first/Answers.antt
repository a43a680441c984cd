-- Entry 1 is there, and it is the first of the wakes.
use Rattle.std.proofs.Common.{None, ◌<◌, length, ◌∙◌, ap, arith}
use Rattle.std.proofs.lemmas.List.{get_or_read}
use Rattle.mp_tournament.specs.Firsts.{first_among}
use Rattle.mp_tournament.proofs.Roots.{first_is_root}
use Rattle.mp_tournament.proofs.firsts.Firsts.first.Goals as goal

pub returns : goal.returns
returns c =
    let tree = c.self.inside.tree.items in
    let there : 1 < length tree = omega (arith, c.self.invariant.size, c.self.invariant.inside) in
    get_or_read tree 1 c.index.result.now there c.index.ensures None ∙ first_is_root c.self.inside.count tree c.self.invariant ∙ ap first_among c.self.view_is
