use Rattle.std.proofs.Common.{◌≡◌, ◌+◌, ◌<◌, ◌≤◌, Ok, Some, arith, ap, inl, inr, length, sym, ◌∙◌}
use Rattle.mp_model.specs.Tables.{table_of}
use Rattle.mp_outline.specs.JobOutline.{outline_of}
use Rattle.std.specs.Prelude.{slice_get}
use Rattle.mp_machine.specs.Places.{kinds_of}
use Rattle.mp_threads_member.proofs.Driven.{further_of, goes_further}
use Rattle.mp_threads_member.proofs.Tried.{KindBelow, WasMade, all_tried, is_of_ok, kind_below, none_made, tried_more}
use Rattle.mp_threads_member.proofs.member.Member.try_all.Goals as goal
use Rattle.mp_threads_member.proofs.member.Member.try_all.Goals.{then-made, else-made}

pub loop-number-preserved : goal.loop-number-preserved
loop-number-preserved g c =
    let job = g.J.Naming.job in
    let q = table_of g.Q.Query.facts job in
    let o = outline_of q job in
    let s = g.S.Sink in
    let l = c.loop-number in
    let e = c.in-Ok.ensures in
    let shape = c.shape-shape.ensures in
    let workers = sym (ap (λ s. s.workers) shape) in
    let stages = sym (ap (λ s. s.stages) shape) in
    let many = c.count_of_kinds-number-end.ensures o workers stages in
    let below = c.loop-number-test.true in
    let inside : l.number < length (kinds_of o) = omega (arith, many, below) in
    let at : slice_get (kinds_of o) l.number ≡ Some c.kind_at.result = c.kind_at.ensures o workers stages inside in
    let is =
    elim c.if-made.branch as (λ b. WasMade l.made c.in-Ok.was_made c.if-made.made) [
      | then-made w ↦ inl (w.if-made.true, w.made-is ∙ w.if-made.true)
      | else-made w ↦ inr (w.if-made.false, w.made-is)
    ] in
    record {
      on = goes_further q job s.written s.faults s.frame c.args.self.now l.self c.try_kind.new.self c.args.sink.now l.sink c.try_kind.new.sink l.invariant.on e.drives;
      further = further_of q job s.written s.faults s.frame c.args.self.now l.self c.try_kind.new.self c.args.sink.now l.sink c.try_kind.new.sink l.invariant.on e.drives l.made c.in-Ok.was_made c.if-made.made is l.invariant.further (λ m. e.made (ap Ok m));
      tried = λ none.
          let n = none_made l.made c.in-Ok.was_made c.if-made.made is none in
          tried_more o (KindBelow o l.number) (KindBelow o (l.number + 1)) c.kind_at.result c.args.self.now l.self c.try_kind.new.self (kind_below o l.number c.kind_at.result at) (l.invariant.tried n.0) (e.idle (ap Ok n.1));
    }

pub returns-clause-idle : goal.returns-clause-idle
returns-clause-idle g c = λ none.
    let o = outline_of (table_of g.Q.Query.facts g.J.Naming.job) g.J.Naming.job in
    let l = c.loop-number in
    let shape = c.shape-shape.ensures in
    let many = c.count_of_kinds-number-end.ensures o (sym (ap (λ s. s.workers) shape)) (sym (ap (λ s. s.stages) shape)) in
    let past = c.loop-number-test.false in
    let all : length (kinds_of o) ≤ l.number = omega (arith, many, past) in
    all_tried o c.args.self.now l.self l.number all (l.invariant.tried (is_of_ok _ _ none))
