-- The wakes stand behind the other entries, so the write to the tree is one to the wakes.
use Rattle.std.proofs.Common.{◌≡◌, ◌+◌, drop, length, set, ◌∙◌, ap, arith}
use Rattle.std.proofs.lemmas.List.{drop-set-add, with_items_is}
use Rattle.std.specs.Vec.{with_item}
use Rattle.mp_tournament.proofs.firsts.Firsts.put.Goals as goal

pub returns : goal.returns
returns c =
    let inside = c.self.inside in
    let count = inside.count in
    let tree = inside.tree.items in
    let at = c.args.at in
    let wake = c.args.wake in
    let as_long : length c.renew.new.tree ≡ inside.tree.len = omega (arith, c.renew.ensures.order.size, c.self.invariant.size, inside.tree.ok.0) in
    ap (drop count) (with_items_is (with_item inside.tree (count + at) wake) c.renew.new.tree as_long) ∙ c.renew.ensures.wakes ∙ ap (drop count) c.deref_mut.ensures.value ∙ drop-set-add count tree at wake ∙ ap (λ ws. set ws at wake) c.self.view_is
