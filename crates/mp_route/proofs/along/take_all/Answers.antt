use Rattle.std.proofs.Common.{◌<◌, ◌∙◌, ◌++◌, ◌∷◌, [], ap, arith, length, sym, take}
use Rattle.std.proofs.lemmas.List.{length-take-le, take_more}
use Rattle.mp_route.proofs.Counting.{drop_head}
use Rattle.mp_route.proofs.along.take_all.Goals as goal

pub push_reserved-requires : goal.push_reserved-requires
push_reserved-requires c =
    let rs = c.args.held.now.items in
    let i = c.loop-taken._taken in
    omega (arith, c.loop-taken-test.true, c.requires.inside, c.requires.memory, length-take-le i rs (omega (arith, c.loop-taken-test.true, c.requires.inside)), c.loop-taken.invariant.for_gone, ap length c.loop-taken.invariant.gone)

pub loop-taken-preserved : goal.loop-taken-preserved
loop-taken-preserved c =
    let rs = c.args.held.now.items in
    let i = c.loop-taken._taken in
    let r = c.in-Some.rec in
    let inside : i < length rs = omega (arith, c.loop-taken-test.true, c.requires.inside) in
    let at = drop_head rs i r c.pop_first.new.self.items inside (sym c.loop-taken.invariant.held ∙ c.in-Some.ensures.some) in
    record {
      gone = c.push_reserved.ensures.items ∙ ap (λ xs. xs ++ r ∷ []) c.loop-taken.invariant.gone ∙ ap (λ x. take i rs ++ x ∷ []) at.0 ∙ sym (take_more rs i r inside);
      held = at.1;
      room = omega (arith, c.loop-taken.invariant.room, c.in-Some.ensures.room);
      for_gone = c.push_reserved.ensures.capacity ∙ c.loop-taken.invariant.for_gone;
    }
