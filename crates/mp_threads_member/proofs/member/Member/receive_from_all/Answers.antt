use Rattle.std.proofs.Common.{◌+◌, Ok, arith, ap, inl, inr, refl, ◌∙◌}
use Rattle.mp_model.specs.Tables.{table_of}
use Rattle.mp_outline.specs.JobOutline.{outline_of}
use Rattle.mp_names.specs.declared.kinds.Kind.TheVariants.{Receive}
use Rattle.mp_threads_member.proofs.Driven.{further_of, goes_further}
use Rattle.mp_threads_member.proofs.Tried.{ReceiveBelow, WasMade, is_of_ok, none_made, receive_below, tried_more}
use Rattle.mp_threads_member.proofs.member.Member.receive_from_all.Goals as goal
use Rattle.mp_threads_member.proofs.member.Member.receive_from_all.Goals.{then-made, else-made}

pub loop-from-preserved : goal.loop-from-preserved
loop-from-preserved g c =
    let job = g.J.Naming.job in
    let q = table_of g.Q.Query.facts job in
    let o = outline_of q job in
    let s = g.S.Sink in
    let l = c.loop-from in
    let e = c.in-Ok.ensures in
    let is =
    elim c.if-made.branch as (λ b. WasMade l.made c.in-Ok.was_made c.if-made.made) [
      | then-made w ↦ inl (w.if-made.true, w.made-is ∙ w.if-made.true)
      | else-made w ↦ inr (w.if-made.false, w.made-is)
    ] in
    record {
      on = goes_further q job s.written s.faults s.frame c.args.self.now l.self c.repeat.new.self c.args.sink.now l.sink c.repeat.new.sink l.invariant.on e.drives;
      further = further_of q job s.written s.faults s.frame c.args.self.now l.self c.repeat.new.self c.args.sink.now l.sink c.repeat.new.sink l.invariant.on e.drives l.made c.in-Ok.was_made c.if-made.made is l.invariant.further (λ m. e.made (ap Ok m));
      tried = λ none.
          let n = none_made l.made c.in-Ok.was_made c.if-made.made is none in
          tried_more o (ReceiveBelow o l.from) (ReceiveBelow o (l.from + 1)) (Receive l.from) c.args.self.now l.self c.repeat.new.self (receive_below o l.from) (l.invariant.tried n.0) (e.idle (ap Ok n.1));
      hub = λ none.
          let n = none_made l.made c.in-Ok.was_made c.if-made.made is none in
          (e.idle (ap Ok n.1)).hub (λ x. cc) ∙ l.invariant.hub n.0;
    }

pub returns-clause-idle : goal.returns-clause-idle
returns-clause-idle g c = λ none.
    let l = c.loop-from in
    let idle = is_of_ok _ _ none in
    let t = l.invariant.tried idle in
    let all = ap (λ s. s.workers) c.shape-from-end.ensures in
    let past = c.loop-from-test.false in
    record { same = t.same; hub = l.invariant.hub idle; each = λ from inside. t.each (Receive from) (from, omega (arith, inside, all, past), refl) }
