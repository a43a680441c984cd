use Rattle.std.proofs.Common.{◌∙◌, ◌++◌, ap, arith, rules, subst, sym}
use Rattle.std.specs.Arc.{arc_value}
use Rattle.std.specs.Vec.Iter.{into_iter_items}
use Rattle.std.proofs.lemmas.List.{append-nil, nil_from_length}
use Rattle.mp_seat.specs.Seats.{IsIdle, LockIdentity}
use Rattle.mp_threads_hub.proofs.Seats.{all_first, all_others, passed_over, room_stays}
use Rattle.mp_threads_hub.proofs.opening.seat_hubs.Goals as goal

pub new-requires : goal.new-requires
new-requires g c =
    let idle = all_first (IsIdle (arc_value c.args.lock.now)) _ _ _ c.in-Some.ensures.steps.0 c.loop-seat.invariant.idle in
    subst (λ (lock : LockIdentity). IsIdle lock c.in-Some.seat) (sym c.in_ok-try_clone.ensures) idle

pub loop-seat-preserved : goal.loop-seat-preserved
loop-seat-preserved g c =
    let i = c.loop-seat.invariant in
    let took = c.in-Some.ensures.steps.0 in
    let put = c.push_reserved.ensures.items in
    record {
      next = search rules;
      hubs = passed_over _ _ _ _ _ _ put took _ c.new.ensures i.hubs;
      idle = all_others (IsIdle (arc_value c.args.lock.now)) _ _ _ took i.idle;
      room = room_stays _ _ _ _ _ _ put took _ _ (let e = c.push_reserved.ensures.capacity in omega arith) i.room;
    }

pub returns : goal.returns
returns g c =
    let hubs = c.loop-seat.hubs.items in
    let over = nil_from_length (into_iter_items c.loop-seat.seat-iterator) (sym c.loop-seat.seat-iterator.rest.ok.0 ∙ c.in-None.ensures.steps.0) in
    sym (append-nil hubs) ∙ ap (λ left. hubs ++ left) (sym over) ∙ c.loop-seat.invariant.hubs
