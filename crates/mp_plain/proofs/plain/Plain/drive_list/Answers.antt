use Rattle.std.proofs.Common.{◌≡◌, [], ◌∷◌, ◌++◌, Err, length, take, refl, ap, subst, sym, arith, length-append}
use Rattle.std.proofs.Math.Seq.{drop-cons}
use Rattle.std.proofs.lemmas.List.Elements.{All-push}
use Rattle.std.proofs.lemmas.Result.{err_from_is_err_and}
use Rattle.std.specs.Prelude.{All}
use Rattle.mp_names.specs.Outlines.{OutlineIsSound}
use Rattle.mp_job.specs.Legal.{JobIsLegal}
use Rattle.mp_outline.specs.JobOutline.{outline_of}
use Rattle.mp_outline.proofs.Soundness.{outline_is_sound}
use Rattle.mp_worker.specs.Below.turn.{Busy}
use Rattle.mp_board.specs.declared.causes.Cause.TheVariants.{Memory}
use Rattle.mp_plain.specs.Driven.{AreReached, Driven, lines_of}
use Rattle.mp_plain.specs.Refused.{KeepsSteps}
use Rattle.mp_plain.proofs.Ended.{lines_begin}
use Rattle.mp_plain.proofs.Leaving.{left_all, left_more, left_none, left_stopped, left_there, step_stops}
use Rattle.mp_plain.proofs.Listed.{makes_none, one_more, whole}
use Rattle.mp_plain.proofs.Made.{counted_more}
use Rattle.mp_plain.proofs.Refusing.{handed_on, keeps_none, keeps_steps}
use Rattle.mp_plain.proofs.plain.Plain.drive_list.Given as given
use Rattle.mp_plain.proofs.plain.Plain.drive_list.Goals as goal
use Rattle.mp_model.specs.Tables.{table_of}

sound : (g : given.Over) → let job = g.J.Naming.job in let q = table_of g.Q.Query.facts job in JobIsLegal q job → OutlineIsSound (outline_of q job)
sound g legal =
    let laws = g.met.Q.Query g.world.𝓛 g.world.𝓜 g.world.𝓡 ((λ s x. x), (λ x. x), (λ x. x), λ x. x) in
    let job = g.J.Naming.job in
    outline_is_sound (table_of g.Q.Query.facts job) (laws.has_stages job.values) (laws.posts_are_later job.values) (laws.later_stages_post_nothing job.values) job legal

pub loop-worker-init : goal.loop-worker-init
loop-worker-init g c =
    let job = g.J.Naming.job in
    let q = table_of g.Q.Query.facts job in
    let s = g.S.Sink in
    record {
      room = c.in-Ok.ensures.capacity;
      many = ap length c.in-Ok.ensures.items;
      makes = makes_none (outline_of q job) _ c.args.self.now c.in-Ok.ensures.items;
      left = left_none q job s.written s.faults s.frame c.args.self.now.state c.args.sink.now;
    }

pub returns-in_default-clause-kept : goal.returns-in_default-clause-kept
returns-in_default-clause-kept g c =
    let job = g.J.Naming.job in
    keeps_none (table_of g.Q.Query.facts job) job c.args.steps.now Memory c.args.self.now (g.S.Sink.written c.args.sink.now) (λ e. cc)

pub returns-in_default-clause-leaves : goal.returns-in_default-clause-leaves
returns-in_default-clause-leaves g c =
    let job = g.J.Naming.job in
    let q = table_of g.Q.Query.facts job in
    let s = g.S.Sink in
    let t = c.args.self.now.state in
    let reached = subst (λ (u : Driven). AreReached (outline_of q job) u.state) c.self.view_is c.self.invariant.reached in
    left_there q job s.written s.faults s.frame Memory (lines_of q job.events t) t t c.args.sink.now c.args.sink.now (λ e. cc) (lines_begin q job (sound g c.self.invariant.legal) t reached) (left_none q job s.written s.faults s.frame t c.args.sink.now)

pub returns-in_err-turn-clause-kept : goal.returns-in_err-turn-clause-kept
returns-in_err-turn-clause-kept g c =
    let job = g.J.Naming.job in
    let q = table_of g.Q.Query.facts job in
    let steps = c.args.steps.now in
    let i = c.loop-worker.worker-index in
    let made = c.loop-worker.invariant.makes in
    let e = c.in_err-turn.ensures in
    let why = c.in_err-turn.field-0.0 in
    let had = g.S.Sink.written c.args.sink.now in
    let has = g.S.Sink.written c.step.new.sink in
    let p = err_from_is_err_and c.from_residual.result c.from_residual.ensures.1 in
    handed_on (λ why. KeepsSteps q job steps why c.args.self.now c.step.new.self had has) c.from_residual.result why p.0 p.1 p.2
    (keeps_steps q job steps i _ why _ c.args.self.now c.loop-worker.self c.step.new.self had has (drop-cons steps i _ c.loop-worker-test.true) made.lead e.makes.unchanged made.counted (omega (arith, e.makes.counted)) (λ f. (e.leaves.failed (ap Err f)).0) (λ before h. e.leaves.part before (c.loop-worker.invariant.left.lines before h)))

pub returns-in_err-turn-clause-leaves : goal.returns-in_err-turn-clause-leaves
returns-in_err-turn-clause-leaves g c =
    let job = g.J.Naming.job in
    let q = table_of g.Q.Query.facts job in
    let s = g.S.Sink in
    let made = take c.loop-worker.worker-index c.args.steps.now in
    let i = c.loop-worker.invariant in
    let e = c.in_err-turn.ensures in
    let p = err_from_is_err_and c.from_residual.result c.from_residual.ensures.1 in
    let reached = subst (λ (u : Driven). AreReached (outline_of q job) u.state) c.self.view_is c.self.invariant.reached in
    let here : AreReached (outline_of q job) c.step.new.self.state = ((reached.0 ++ made) ++ [], e.makes.unchanged.state_is (reached.0 ++ made) (i.makes.lead.state_is reached.0 reached.1)) in
    left_stopped q job s.written s.faults s.frame c.from_residual.result c.in_err-turn.field-0.0 p.0 (lines_of q job.events c.step.new.self.state) [] c.args.self.now.state c.loop-worker.self.state c.args.sink.now c.loop-worker.sink c.step.new.sink p.1 p.2 i.left
    (step_stops q job s.written s.faults s.frame _ c.in_err-turn.field-0.0 [] c.loop-worker.self.state c.step.new.self.state c.loop-worker.sink c.step.new.sink (sound g c.self.invariant.legal) here e.leaves)

pub loop-worker-preserved : goal.loop-worker-preserved
loop-worker-preserved g c =
    let job = g.J.Naming.job in
    let q = table_of g.Q.Query.facts job in
    let s = g.S.Sink in
    let i = c.loop-worker.invariant in
    let next = c.in_ok-turn.ensures in
    let turn = c.in_ok-turn.turn in
    let turns = c.loop-worker.turns.items in
    let pushed = c.push_reserved.ensures in
    record {
      room = omega (arith, i.room, pushed.capacity);
      many = omega (arith, ap length pushed.items, length-append turns (turn ∷ []), i.many);
      makes = record {
        lead = one_more (outline_of q job) c.args.self.now.state c.loop-worker.self.state c.step.new.self.state c.args.steps.now c.loop-worker.worker-index _ turns c.push_reserved.new.self.items turn c.loop-worker-test.true pushed.items i.makes.lead next.makes.turn;
        counted = counted_more turns c.push_reserved.new.self.items turn c.args.self.now.made c.loop-worker.self.made c.step.new.self.made pushed.items i.makes.counted next.makes.counted;
        not_busy = subst (All (λ turn. turn ≡ Busy → ⊥)) (sym pushed.items) (All-push (λ turn. turn ≡ Busy → ⊥) turns turn i.makes.not_busy next.makes.not_busy);
      };
      left = left_more q job s.written s.faults s.frame _ turn c.args.self.now.state c.loop-worker.self.state c.step.new.self.state c.args.sink.now c.loop-worker.sink c.step.new.sink i.left next.leaves;
    }

pub returns-clause-makes : goal.returns-clause-makes
returns-clause-makes g c =
    let o = outline_of (table_of g.Q.Query.facts g.J.Naming.job) g.J.Naming.job in
    let made = c.loop-worker.invariant.makes in
    record {
      lead = whole o c.args.self.now.state c.loop-worker.self.state c.args.steps.now c.loop-worker.worker-index _ c.loop-worker-test.false made.lead;
      counted = made.counted;
      not_busy = made.not_busy;
    }

pub returns-clause-leaves : goal.returns-clause-leaves
returns-clause-leaves g c =
    let job = g.J.Naming.job in
    let s = g.S.Sink in
    left_all (table_of g.Q.Query.facts job) job s.written s.faults s.frame c.loop-worker.turns _ c.args.self.now.state c.loop-worker.self.state c.args.sink.now c.loop-worker.sink c.loop-worker.invariant.left refl
