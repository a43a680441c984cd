use Rattle.std.proofs.Common.{◌∙◌, ◌++◌, ap, arith, map, rules, sym}
use Rattle.std.specs.Vec.Iter.{into_iter_items}
use Rattle.std.proofs.lemmas.List.{append-nil, nil_from_length}
use Rattle.mp_threads_member.specs.Members.{HasDoneNothing}
use Rattle.mp_threads_place.specs.Places.{mark_at, mark_of}
use Rattle.mp_threads.proofs.Lists.{all_head, all_tail, passed_on}
use Rattle.mp_threads_crew.proofs.Lists.{room_left}
use Rattle.mp_threads.proofs.run.settle_all.Goals as goal

pub loop-member-preserved : goal.loop-member-preserved
loop-member-preserved g c =
    let i = c.loop-member.invariant in
    let s = c.in-Some.ensures.steps.0 in
    let items = c.push_reserved.ensures.items in
    record {
      next = search rules;
      marks = passed_on mark_at (λ m. mark_of m.worker) _ _ _ _ _ _ _ items s c.settle.ensures i.marks;
      start = all_tail HasDoneNothing _ _ _ s i.start;
      room = room_left _ _ _ _ _ _ _ _ items s (let e = c.push_reserved.ensures.capacity in omega arith) i.room;
    }

pub settle-requires-clause-start : goal.settle-requires-clause-start
settle-requires-clause-start g c κs within = all_head HasDoneNothing _ _ _ c.in-Some.ensures.steps.0 c.loop-member.invariant.start

pub returns : goal.returns
returns g c =
    let settled = map mark_at c.loop-member.places.items in
    let over = nil_from_length (into_iter_items c.loop-member.member-iterator) (sym c.loop-member.member-iterator.rest.ok.0 ∙ c.in-None.ensures.steps.0) in
    sym (append-nil settled) ∙ ap (λ left. settled ++ map (λ m. mark_of m.worker) left) (sym over) ∙ c.loop-member.invariant.marks
