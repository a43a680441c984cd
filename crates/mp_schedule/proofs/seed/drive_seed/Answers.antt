use Rattle.std.proofs.Common.{◌≡◌, ◌+◌, ◌++◌, ◌∙◌, [], ℕ, suc, refl, sym, arith, subst, ap, inl}
use Rattle.std.proofs.lemmas.Result.{err_from_is_err_and}
use Rattle.mp_model.specs.Answers.{one_thread_answer}
use Rattle.mp_outline.specs.JobOutline.{outline_of}
use Rattle.mp_board.specs.declared.causes.Cause.TheVariants.{Memory}
use Rattle.mp_draws.specs.Draws.{draw_of, next_state, state_after}
use Rattle.mp_plain.specs.Driven.{AllKnowTheEnd}
use Rattle.mp_schedule.specs.Refused.{KeepsSchedule, RefusesDraw}
use Rattle.mp_schedule.specs.Schedule.{MakesPick}
use Rattle.mp_plain.proofs.Counted.{full_where_all_know}
use Rattle.mp_schedule.proofs.Followed.{LeadsBy, begins_by_none, follows, leads_by_one_more, stays_by}
use Rattle.mp_plain.proofs.Leaving.{left_all, left_further, left_none, left_stopped, left_there}
use Rattle.mp_plain.proofs.Refusing.{handed_on}
use Rattle.mp_schedule.proofs.Refusing.{refuses_later}
use Rattle.mp_schedule.proofs.seed.drive_seed.Goals as goal
use Rattle.mp_model.specs.Tables.{table_of}

pub loop-draws-init : goal.loop-draws-init
loop-draws-init g c =
    let job = g.J.Naming.job in
    let q = table_of g.Q.Query.facts job in
    let s = g.S.Sink in
    record {
      by = begins_by_none (outline_of q job) c.args.seed c.args.plain.now.state;
      counted = omega arith;
      drawn = c.of-draws.ensures;
      left = left_none q job s.written s.faults s.frame c.args.plain.now.state c.args.sink.now;
    }

pub step_from-requires-clause-depth : goal.step_from-requires-clause-depth
step_from-requires-clause-depth g c κs within =
    let same = c.loop-draws.invariant.by.lead.depth in
    let deep = c.requires.depth in
    omega arith

pub returns-in_default-clause-kept : goal.returns-in_default-clause-kept
returns-in_default-clause-kept g c =
    let o = outline_of (table_of g.Q.Query.facts g.J.Naming.job) g.J.Naming.job in
    let i = c.loop-draws.invariant in
    record {
      n = c.loop-draws.made;
      follows = follows o c.args.seed c.loop-draws.made c.args.plain.now.state c.loop-draws.plain.state c.shape.ensures.sound c.shape.ensures.reached i.by;
      counted = i.counted;
      refused = record { write = λ e. absurd (cc); lines = λ before h. inl (i.left.lines before h) };
    }

pub returns-in_default-clause-leaves : goal.returns-in_default-clause-leaves
returns-in_default-clause-leaves g c =
    let job = g.J.Naming.job in
    let q = table_of g.Q.Query.facts job in
    let s = g.S.Sink in
    left_there q job s.written s.faults s.frame Memory (one_thread_answer q job.events) c.args.plain.now.state c.loop-draws.plain.state c.args.sink.now c.loop-draws.sink (λ e. cc) c.is_finished.ensures.begun c.loop-draws.invariant.left

pub returns-in_err-step_from-clause-kept : goal.returns-in_err-step_from-clause-kept
returns-in_err-step_from-clause-kept g c =
    let job = g.J.Naming.job in
    let q = table_of g.Q.Query.facts job in
    let o = outline_of q job in
    let i = c.loop-draws.invariant in
    let n = c.loop-draws.made in
    let e = c.in_err-step_from.ensures.refused in
    let why = c.in_err-step_from.field-0.0 in
    let had = g.S.Sink.written c.args.sink.now in
    let has = g.S.Sink.written c.step_from.new.sink in
    let drawn : c.draw.result ≡ draw_of c.args.seed n = c.draw.ensures.draw ∙ ap next_state i.drawn in
    let p = err_from_is_err_and c.from_residual.result c.from_residual.ensures.1 in
    handed_on (λ why. KeepsSchedule q job c.args.seed why c.args.plain.now c.step_from.new.plain had has) c.from_residual.result why p.0 p.1 p.2
    (record {
      n = n;
      follows = follows o c.args.seed n c.args.plain.now.state c.step_from.new.plain.state c.shape.ensures.sound c.shape.ensures.reached (stays_by o c.args.seed n c.args.plain.now.state c.loop-draws.plain.state c.step_from.new.plain.state i.by e.still);
      counted = e.counted ∙ i.counted;
      refused = refuses_later q job (draw_of c.args.seed n) why i.by.steps i.by.turns c.args.plain.now.state c.loop-draws.plain.state c.step_from.new.plain.state had (g.S.Sink.written c.loop-draws.sink) has i.by.lead i.left.lines
          (subst (λ (d : ℕ). RefusesDraw q job d why [] c.loop-draws.plain.state c.step_from.new.plain.state (g.S.Sink.written c.loop-draws.sink) has) drawn e.refused);
    })

pub returns-in_err-step_from-clause-leaves : goal.returns-in_err-step_from-clause-leaves
returns-in_err-step_from-clause-leaves g c =
    let job = g.J.Naming.job in
    let q = table_of g.Q.Query.facts job in
    let s = g.S.Sink in
    let p = err_from_is_err_and c.from_residual.result c.from_residual.ensures.1 in
    left_stopped q job s.written s.faults s.frame c.from_residual.result c.in_err-step_from.field-0.0 p.0 (one_thread_answer q job.events) _ c.args.plain.now.state c.loop-draws.plain.state c.args.sink.now c.loop-draws.sink c.step_from.new.sink p.1 p.2 c.loop-draws.invariant.left c.in_err-step_from.ensures.leaves

pub loop-draws-preserved : goal.loop-draws-preserved
loop-draws-preserved g c =
    let job = g.J.Naming.job in
    let q = table_of g.Q.Query.facts job in
    let o = outline_of q job in
    let s = g.S.Sink in
    let i = c.loop-draws.invariant in
    let made = c.in_ok-step_from.ensures.makes in
    let counted : c.in-Some.counted ≡ c.loop-draws.made + 1 = c.in-Some.ensures.1 in
    let unfinished : AllKnowTheEnd o c.loop-draws.plain.state → ⊥ = λ all. let known = c.is_finished.ensures.known.1 all in absurd (cc) in
    let one_more : c.in-Some.counted ≡ suc c.loop-draws.made = omega (arith, counted) in
    let drawn : c.draw.result ≡ draw_of c.args.seed c.loop-draws.made = c.draw.ensures.draw ∙ ap next_state i.drawn in
    record {
      by = subst (λ (n : ℕ). LeadsBy o c.args.seed n c.args.plain.now.state c.step_from.new.plain.state) (sym counted)
          (leads_by_one_more o c.args.seed c.loop-draws.made c.args.plain.now.state c.loop-draws.plain c.step_from.new.plain i.by unfinished (subst (λ (d : ℕ). MakesPick o d c.loop-draws.plain c.step_from.new.plain) drawn made));
      counted = let one = made.counted in let had = i.counted in omega arith;
      drawn = c.draw.ensures.state ∙ drawn ∙ ap (state_after c.args.seed) (sym one_more);
      left = left_further q job s.written s.faults s.frame _ c.args.plain.now.state c.loop-draws.plain.state c.step_from.new.plain.state c.args.sink.now c.loop-draws.sink c.step_from.new.sink i.left c.in_ok-step_from.ensures.leaves;
    }

pub returns-clause-ends : goal.returns-clause-ends
returns-clause-ends g c =
    let o = outline_of (table_of g.Q.Query.facts g.J.Naming.job) g.J.Naming.job in
    let reached = c.shape.ensures.reached in
    let ok = c.shape.ensures.sound in
    let i = c.loop-draws.invariant in
    let known = c.loop-draws-test.ensures.known.0 refl in
    record {
      follows = follows o c.args.seed c.loop-draws.made c.args.plain.now.state c.loop-draws.plain.state ok reached i.by;
      counted = i.counted;
      finished = known;
      full = full_where_all_know o ok c.loop-draws.plain.state (reached.0 ++ i.by.steps, i.by.lead.state_is reached.0 reached.1) known;
    }

pub returns-clause-leaves : goal.returns-clause-leaves
returns-clause-leaves g c =
    let job = g.J.Naming.job in
    let q = table_of g.Q.Query.facts job in
    let s = g.S.Sink in
    left_all q job s.written s.faults s.frame c.loop-draws.made (one_thread_answer q job.events) c.args.plain.now.state c.loop-draws.plain.state c.args.sink.now c.loop-draws.sink c.loop-draws.invariant.left (c.loop-draws-test.ensures.answer refl)
