use Rattle.std.proofs.Common.{◌≡◌, ◌∙◌, ◌++◌, ◌∷◌, [], Err, ap, arith, length, map, rules, sym}
use Rattle.std.specs.Vec.Iter.{into_iter_items}
use Rattle.std.proofs.lemmas.List.{append-nil, nil_from_length}
use Rattle.mp_outline.specs.JobOutline.{outline_of}
use Rattle.mp_threads_member.specs.Driving.{IsFinished}
use Rattle.mp_threads_place.specs.Places.{mark_at, mark_of}
use Rattle.mp_threads_place.proofs.Marks.{worker_is_back}
use Rattle.mp_threads_crew.proofs.Lists.{all_more, room_left}
use Rattle.mp_threads.proofs.Lists.{passed_on}
use Rattle.mp_threads.proofs.run.finish_all.Goals as goal
use Rattle.mp_model.specs.Tables.{table_of}

pub loop-place-init : goal.loop-place-init
loop-place-init g c =
    let o = outline_of (table_of g.Q.Query.facts g.J.Naming.job) g.J.Naming.job in
    let pushed = c.push_reserved.ensures in
    let places : into_iter_items c.into_iter-place-iterator.result ≡ c.args.places.items = c.into_iter-place-iterator.ensures.into_iter_gives.0 in
    let done : c.push_reserved.new.self.items ≡ c.args.first ∷ [] = pushed.items ∙ ap (λ l. l ++ c.args.first ∷ []) c.requires.done in
    record {
      next = search rules;
      over = c.is_over-all.ensures;
      marks = λ all. ap (λ l. map mark_of l ++ map mark_at (into_iter_items c.into_iter-place-iterator.result)) done ∙ ap (λ l. mark_of c.args.first ∷ map mark_at l) places;
      room = let a = ap length done in let b = ap length places in let e = pushed.capacity in omega arith;
      finished = λ all. all_more (IsFinished o) _ _ _ pushed.items (λ k d l. let e = ap length c.requires.done in absurd (omega arith)) (c.requires.first (c.is_over-all.ensures all));
    }

pub loop-place-preserved-in-Some-finished : goal.loop-place-preserved-in-Some-finished
loop-place-preserved-in-Some-finished g c =
    let o = outline_of (table_of g.Q.Query.facts g.J.Naming.job) g.J.Naming.job in
    let i = c.loop-place.invariant in
    let s = c.in-Some.ensures.steps.0 in
    let items = c.push_reserved-in-Some-finished.ensures.items in
    let back = worker_is_back o _ _ _ c.finish.ensures c.in-Some-finished.ensures in
    record {
      next = search rules;
      over = i.over;
      marks = λ all. passed_on mark_of mark_at _ _ _ _ _ _ _ items s back.0 (i.marks all);
      room = room_left _ _ _ _ _ _ _ _ items s (let e = c.push_reserved-in-Some-finished.ensures.capacity in omega arith) i.room;
      finished = λ all. all_more (IsFinished o) _ _ _ items (i.finished all) back.1;
    }

pub loop-place-preserved : goal.loop-place-preserved
loop-place-preserved g c =
    let i = c.loop-place.invariant in
    let s = c.in-Some.ensures.steps.0 in
    record {
      next = search rules;
      over = λ all. absurd cc;
      marks = λ all. absurd cc;
      room = let room = i.room in let taken = ap length s in omega arith;
      finished = λ all. absurd cc;
    }

pub returns-then-all-clause-ends : goal.returns-then-all-clause-ends
returns-then-all-clause-ends g c =
    let over = c.loop-place.invariant.over c.if-all.true in
    record { over = over; write = ((λ e. absurd cc), λ e. let same = sym over ∙ e in absurd cc) }

pub returns-then-all-clause-back : goal.returns-then-all-clause-back
returns-then-all-clause-back g c =
    let i = c.loop-place.invariant in
    let marks = map mark_of c.loop-place.done.items in
    let over = nil_from_length (into_iter_items c.loop-place.place-iterator) (sym c.loop-place.place-iterator.rest.ok.0 ∙ c.in-None.ensures.steps.0) in
    record {
      marks = sym (append-nil marks) ∙ ap (λ left. marks ++ map mark_at left) (sym over) ∙ i.marks c.if-all.true;
      finished = i.finished c.if-all.true;
    }

pub returns-clause-ends : goal.returns-clause-ends
returns-clause-ends g c = record { over = tt; write = ((λ e. c.cause_of.ensures.0 cc), λ e. ap Err (c.cause_of.ensures.1 e)) }
