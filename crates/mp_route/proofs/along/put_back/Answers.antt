use Rattle.std.proofs.Common.{◌∙◌, ◌++◌, ◌∷◌, [], ap, sym, subst, arith, length, length-append}
use Rattle.mp_ordered.specs.InOrder.{IsInOrder}
use Rattle.mp_route.proofs.Counting.{last_back}
use Rattle.mp_route.specs.Routed.{tag_rank}
use Rattle.mp_route.proofs.along.put_back.Goals as goal

pub loop-rec-preserved : goal.loop-rec-preserved
loop-rec-preserved c =
    let was = c.in-Some.ensures.items in
    let all = ap (λ xs. xs ++ c.loop-rec.held.items) (sym was) ∙ c.loop-rec.invariant.items in
    let order = subst (IsInOrder tag_rank) (sym all) c.requires.order in
    record {
      items = ap (λ xs. c.pop.new.self.items ++ xs) c.in-Ok.ensures.put ∙ last_back tag_rank c.pop.new.self.items c.loop-rec.held.items c.in-Some.rec order ∙ all;
      room = omega (arith, c.loop-rec.invariant.room, c.in-Ok.ensures.room, ap length was, length-append c.pop.new.self.items (c.in-Some.rec ∷ []));
    }
