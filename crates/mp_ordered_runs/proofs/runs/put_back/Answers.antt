use Rattle.std.proofs.Common.{◌∙◌, ◌++◌, ◌∷◌, [], ap, sym, subst, arith, length, length-append}
use Rattle.mp_ordered.specs.InOrder.{IsInOrder}
use Rattle.mp_ordered_runs.proofs.Running.{last_back}
use Rattle.mp_ordered_runs.proofs.runs.put_back.Goals as goal

pub loop-item-preserved : goal.loop-item-preserved
loop-item-preserved g c =
    let rank = g.O.Order.rank in
    let was = c.in-Some.ensures.items in
    let all = ap (λ xs. xs ++ c.loop-item.rest.items) (sym was) ∙ c.loop-item.invariant.items in
    let order = subst (IsInOrder rank) (sym all) c.requires.order in
    record {
      items = ap (λ xs. c.pop.new.self.items ++ xs) c.insert_reserved.ensures.put ∙ last_back rank c.pop.new.self.items c.loop-item.rest.items c.in-Some.item order ∙ all;
      room = omega (arith, c.loop-item.invariant.room, c.insert_reserved.ensures.room, ap length was, length-append c.pop.new.self.items (c.in-Some.item ∷ []));
      memory = omega (arith, c.loop-item.invariant.memory, c.pop.ensures.capacity);
    }
