use Rattle.std.proofs.Common.{◌∙◌, ◌++◌, ap, sym, subst, arith, length, length-append}
use Rattle.mp_ordered.specs.InOrder.{IsInOrder, put_in_order}
use Rattle.mp_ordered.proofs.Placing.{length-put, put_keeps}
use Rattle.mp_ordered_runs.proofs.Running.{put_within_run, still_ends}
use Rattle.mp_ordered_runs.proofs.runs.OrderedRuns.put.Goals as goal

pub invariant_of-self : goal.invariant_of-self
invariant_of-self g c =
    let rank = g.O.Order.rank in
    let x = c.args.item in
    let s = c.self.inside in
    let inv = c.self.invariant in
    let some = rw (← c.self.view_is) at c.requires in
    let go = rw c.deref-2.ensures.value at (c.goes_into_run.ensures c.if-goes_into_run.true) in
    let inside = rw c.deref.ensures.value at c.place_of-at.ensures.inside in
    let is = c.put.ensures.items ∙ rw c.deref.ensures.value at c.place_of-at.ensures.place in
    let all = ap (λ ys. ys ++ s.rest.items) is ∙ sym go.place in
    let parts = put_within_run g.O.Kinds.same x s.run.items s.rest.items c.place_of-at.result go.some inside go.kind inv.kind inv.ends in
    let count = ap length is in
    let more = length-put rank x s.run.items in
    record {
      order = subst (IsInOrder rank) (sym all) (put_keeps rank x (s.run.items ++ s.rest.items) inv.order);
      kind = rw c.put.ensures.items parts.0;
      ends = rw c.put.ensures.items parts.1;
      room = omega (arith, count, more, some);
      memory = omega (arith, inv.memory, c.put.ensures.memory);
    }

pub invariant_of-self-then-goes_behind_run : goal.invariant_of-self-then-goes_behind_run
invariant_of-self-then-goes_behind_run g c =
    let rank = g.O.Order.rank in
    let x = c.args.item in
    let s = c.self.inside in
    let inv = c.self.invariant in
    let some = rw (← c.self.view_is) at c.requires in
    let go = rw c.deref-else-goes_into_run.ensures.value at (c.goes_behind_run.ensures c.if-goes_behind_run.true) in
    let all = ap (λ ys. s.run.items ++ ys) c.insert_reserved.ensures.put ∙ sym (go.place s.rest.items) in
    let count = ap length c.insert_reserved.ensures.put in
    let more = length-put rank x s.rest.items in
    record {
      order = subst (IsInOrder rank) (sym all) (put_keeps rank x (s.run.items ++ s.rest.items) inv.order);
      kind = inv.kind;
      ends = rw c.insert_reserved.ensures.put (still_ends rank g.O.Kinds.same x s.run.items s.rest.items go.some go.other inv.ends);
      room = omega (arith, c.insert_reserved.ensures.room, some);
      memory = omega (arith, count, more, c.insert_reserved.ensures.room, inv.memory);
    }

pub take_run-requires-clause-memory : goal.take_run-requires-clause-memory
take_run-requires-clause-memory g c =
    let s = c.self.inside in
    let inv = c.self.invariant in
    let some = rw (← c.self.view_is) at c.requires in
    let count = ap length c.insert_reserved-else-goes_behind_run.ensures.put in
    let more = length-put g.O.Order.rank c.args.item c.put_back.new.rest.items in
    let back = ap length c.put_back.ensures.rest in
    let parts = length-append s.run.items s.rest.items in
    omega (arith, count, more, back, parts, some, inv.memory, c.put_back.ensures.memory)

pub invariant_of-self-else-goes_behind_run : goal.invariant_of-self-else-goes_behind_run
invariant_of-self-else-goes_behind_run g c =
    let rank = g.O.Order.rank in
    let x = c.args.item in
    let s = c.self.inside in
    let inv = c.self.invariant in
    let some = rw (← c.self.view_is) at c.requires in
    let all = c.take_run.ensures.items ∙ c.insert_reserved-else-goes_behind_run.ensures.put ∙ ap (λ ys. put_in_order rank x ys) c.put_back.ensures.rest in
    let count = ap length c.insert_reserved-else-goes_behind_run.ensures.put in
    let more = length-put rank x c.put_back.new.rest.items in
    let back = ap length c.put_back.ensures.rest in
    let parts = length-append s.run.items s.rest.items in
    let taken = ap length c.take_run.ensures.items in
    let new_parts = length-append c.take_run.new.run.items c.take_run.new.rest.items in
    record {
      order = subst (IsInOrder rank) (sym all) (put_keeps rank x (s.run.items ++ s.rest.items) inv.order);
      kind = c.take_run.ensures.kind;
      ends = c.take_run.ensures.ends;
      room = omega (arith, c.take_run.ensures.room);
      memory = omega (arith, count, more, back, parts, taken, new_parts, c.take_run.ensures.room, c.insert_reserved-else-goes_behind_run.ensures.room, c.put_back.ensures.room, some, inv.memory, c.put_back.ensures.memory, c.take_run.ensures.memory);
    }
