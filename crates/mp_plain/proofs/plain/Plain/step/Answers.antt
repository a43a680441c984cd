use Rattle.std.proofs.Common.{◌≡◌, ◌+◌, ℕ, [], ◌∷◌, Err, Some, arith, sym, ap, ◌∙◌, subst}
use Rattle.std.specs.Prelude.{slice_get, slice_set}
use Rattle.mp_names.specs.Outlines.{OutlineIsSound}
use Rattle.mp_job.specs.Legal.{JobIsLegal}
use Rattle.mp_names.specs.declared.kinds.Kind.TheVariants.{Write}
use Rattle.mp_outside.specs.Fault.{Rose}
use Rattle.mp_outline.specs.JobOutline.{outline_of}
use Rattle.mp_outline.proofs.Soundness.{outline_is_sound}
use Rattle.mp_machine.specs.Runs.{NotNow}
use Rattle.mp_plain.specs.Driven.{AreReachedBy, Driven, LeadsOn}
use Rattle.mp_plain.specs.Kept.{together}
use Rattle.mp_plain.proofs.Idling.{idle_leaves, step_idles}
use Rattle.mp_plain.proofs.Made.{counted_by}
use Rattle.mp_plain.proofs.Turned.{Passes, at_hub, at_post, leads_nowhere_on_err, leads_on_if_ok, leads_on_outside, not_busy_if_ok, number_is, placed, same_cause, still_reached}
use Rattle.mp_plain.proofs.Told.{Says, Writes, failed_kind, fault_of, no_fault_of, says_of, writes_of}
use Rattle.mp_plain.proofs.Written.{kept_on_err, written_on_ok}
use Rattle.mp_plain.proofs.plain.Plain.step.Given as given
use Rattle.mp_plain.proofs.plain.Plain.step.Goals as goal
use Rattle.mp_plain.proofs.plain.Plain.step.Goals.{After-made_in, in-Ok, in-Err-Write, in-Err-Memory}
use Rattle.mp_model.specs.Tables.{table_of}

sound : (g : given.Over) → let job = g.J.Naming.job in let q = table_of g.Q.Query.facts job in JobIsLegal q job → OutlineIsSound (outline_of q job)
sound g legal =
    let laws = g.met.Q.Query g.world.𝓛 g.world.𝓜 g.world.𝓡 ((λ s x. x), (λ x. x), (λ x. x), λ x. x) in
    let job = g.J.Naming.job in
    outline_is_sound (table_of g.Q.Query.facts job) (laws.has_stages job.values) (laws.posts_are_later job.values) (laws.later_stages_post_nothing job.values) job legal

pub step-requires-clause-at_post : goal.step-requires-clause-at_post
step-requires-clause-at_post g c κs within =
    let o = outline_of (table_of g.Q.Query.facts g.J.Naming.job) g.J.Naming.job in
    let kept = c.self.invariant in
    let t = together c.self.inside.workers.items c.self.inside.board c.self.inside.post in
    let s = c.index_mut-worker.result.now in
    at_post o (sound g kept.legal) t kept.reached c.args.worker s (placed t c.args.worker s (omega (arith, c.len.ensures, c.if-worker-len.false)) c.index_mut-worker.ensures.value)

pub step-requires-clause-at_hub : goal.step-requires-clause-at_hub
step-requires-clause-at_hub g c κs within =
    let o = outline_of (table_of g.Q.Query.facts g.J.Naming.job) g.J.Naming.job in
    let kept = c.self.invariant in
    let t = together c.self.inside.workers.items c.self.inside.board c.self.inside.post in
    let s = c.index_mut-worker.result.now in
    at_hub o (sound g kept.legal) t kept.reached c.args.worker s (placed t c.args.worker s (omega (arith, c.len.ensures, c.if-worker-len.false)) c.index_mut-worker.ensures.value)

was : (g : given.Over) (c : After-made_in g) → slice_get c.self.inside.workers.items c.args.worker ≡ Some c.index_mut-worker.result.now
was g c =
    let t = together c.self.inside.workers.items c.self.inside.board c.self.inside.post in
    placed t c.args.worker c.index_mut-worker.result.now (omega (arith, c.len.ensures, c.if-worker-len.false)) c.index_mut-worker.ensures.value

told : (g : given.Over) (c : After-made_in g) → let o = outline_of (table_of g.Q.Query.facts g.J.Naming.job) g.J.Naming.job in let s = c.index_mut-worker.result.now in
    Says o c.args.kind c.self.inside.board c.step.new.hub c.self.inside.post c.step.new.post s c.step.new.self c.step.result s.number
told g c =
    let o = outline_of (table_of g.Q.Query.facts g.J.Naming.job) g.J.Naming.job in
    let e = c.step.ensures in
    says_of o c.args.kind c.self.inside.board c.step.new.hub c.self.inside.post c.step.new.post c.index_mut-worker.result.now c.step.new.self c.step.result e.answers e.exchanges e.others_post_nothing e.mail e.keeps

writes : (g : given.Over) (c : After-made_in g) → let job = g.J.Naming.job in
    Writes (table_of g.Q.Query.facts job) job c.args.kind c.index_mut-worker.result.now (g.S.Sink.written c.args.sink.now) (g.S.Sink.written c.step.new.sink) c.step.result
writes g c =
    let job = g.J.Naming.job in
    let e = c.step.ensures in
    writes_of (table_of g.Q.Query.facts job) job g.S.Sink.written g.S.Sink.faults c.args.kind c.index_mut-worker.result.now c.args.sink.now c.step.new.sink c.step.result e.writes e.others_write_nothing

passes : (g : given.Over) (c : After-made_in g) → Passes c.step.result c.match-step.answered
passes g c =
    elim c.match-step.branch as (λ b. Passes c.step.result c.match-step.answered) [
      | in-Ok w ↦ subst (λ r. Passes r c.match-step.answered) (sym w.in-Ok.is) w.answered-is
      | in-Err-Write w ↦ subst (λ r. Passes r c.match-step.answered) (sym w.in-Err-Write.is) (_, w.answered-is)
      | in-Err-Memory w ↦ subst (λ r. Passes r c.match-step.answered) (sym w.in-Err-Memory.is) (_, w.answered-is)
    ]

pub invariant_of-self : goal.invariant_of-self
invariant_of-self g c =
    let o = outline_of (table_of g.Q.Query.facts g.J.Naming.job) g.J.Naming.job in
    let kept = c.self.invariant in
    let t = together c.self.inside.workers.items c.self.inside.board c.self.inside.post in
    let s = c.index_mut-worker.result.now in
    let ok = sound g kept.legal in
    let next = together (slice_set c.self.inside.workers.items c.args.worker c.step.new.self) c.step.new.hub c.step.new.post in
    record {
      run = kept.run;
      legal = kept.legal;
      reached = still_reached o ok t c.args.worker c.args.kind s c.step.new.self c.step.new.hub c.step.new.post (was g c.before) c.step.result (told g c.before) kept.reached;
      counted = subst (λ (n : ℕ). AreReachedBy o next (c.self.inside.made + n)) (sym c.made_in.ensures)
          (counted_by o c.args.worker c.self.inside.made c.args.kind c.match-step.answered t next kept.counted
          (leads_on_if_ok o ok t c.args.worker c.args.kind s c.step.new.self c.step.new.hub c.step.new.post (was g c.before) c.step.result c.match-step.answered (passes g c.before) (told g c.before))
          (leads_nowhere_on_err o ok t c.args.worker c.args.kind s c.step.new.self c.step.new.hub c.step.new.post (was g c.before) c.step.result c.match-step.answered (passes g c.before) (told g c.before)));
      goes_on = same_cause o ok t c.args.worker c.args.kind s c.step.new.self c.step.new.hub c.step.new.post (was g c.before) c.step.result (told g c.before) ∙ kept.goes_on;
    }

pub returns-clause-makes : goal.returns-clause-makes
returns-clause-makes g c =
    let o = outline_of (table_of g.Q.Query.facts g.J.Naming.job) g.J.Naming.job in
    let t = together c.self.inside.workers.items c.self.inside.board c.self.inside.post in
    let s = c.index_mut-worker.result.now in
    let ok = sound g c.self.invariant.legal in
    rw (← c.self.view_is)
    (record {
      turn = leads_on_if_ok o ok t c.args.worker c.args.kind s c.step.new.self c.step.new.hub c.step.new.post (was g c.before) c.step.result c.match-step.answered (passes g c.before) (told g c.before);
      unchanged = leads_nowhere_on_err o ok t c.args.worker c.args.kind s c.step.new.self c.step.new.hub c.step.new.post (was g c.before) c.step.result c.match-step.answered (passes g c.before) (told g c.before);
      counted = ap (λ (n : ℕ). c.self.inside.made + n) c.made_in.ensures;
      not_busy = not_busy_if_ok o ok t c.args.worker c.args.kind s c.step.new.self c.step.new.hub c.step.new.post (was g c.before) c.step.result c.match-step.answered (passes g c.before) (told g c.before);
    })

pub returns-clause-leaves : goal.returns-clause-leaves
returns-clause-leaves g c =
    let job = g.J.Naming.job in
    let q = table_of g.Q.Query.facts job in
    let kept = c.self.invariant in
    let t = together c.self.inside.workers.items c.self.inside.board c.self.inside.post in
    let s = c.index_mut-worker.result.now in
    let ok = sound g kept.legal in
    let number = number_is (outline_of q job) ok t kept.reached c.args.worker s (was g c.before) in
    let had = g.S.Sink.written c.args.sink.now in
    let has = g.S.Sink.written c.step.new.sink in
    let quiet = no_fault_of q job g.S.Sink.written g.S.Sink.faults c.args.kind s c.args.sink.now c.step.new.sink c.step.result in
    let e = c.step.ensures in
    rw (← c.self.view_is)
    (record {
      lines = λ before h. written_on_ok q job ok t c.args.worker c.args.kind s c.step.new.self c.step.new.hub c.step.new.post (was g c.before) number had has before h c.self.inside.board c.self.inside.post c.step.result c.match-step.answered (passes g c.before) (told g c.before) (writes g c.before);
      part = λ before h. kept_on_err q job ok t c.args.worker c.args.kind s c.step.new.self c.step.new.hub c.step.new.post (was g c.before) number had has before h c.self.inside.post.depth kept.reached.0 kept.reached.1 c.step.result c.match-step.answered (passes g c.before) (told g c.before).unchanged (writes g c.before);
      failed = λ failed.
          elim c.match-step.branch as (λ b. (c.args.kind ≡ Write) × Rose (g.S.Sink.faults c.args.sink.now) (g.S.Sink.faults c.step.new.sink)) [
            | in-Ok w ↦ let is = w.answered-is in absurd (cc)
            | in-Err-Write w ↦
                let is = w.in-Err-Write.is ∙ ap Err w.in-Err-Write.field-0-is in
                let kind = failed_kind (outline_of q job) c.args.kind c.self.inside.board c.step.new.hub c.self.inside.post c.step.new.post s c.step.new.self c.step.result is e.answers in
                (kind, fault_of q job g.S.Sink.written g.S.Sink.faults c.args.kind s c.args.sink.now c.step.new.sink c.step.result is kind e.writes)
            | in-Err-Memory w ↦ let is = w.answered-is in absurd (cc)
          ];
      no_fault = λ not_failed.
          elim c.match-step.branch as (λ b. g.S.Sink.faults c.step.new.sink ≡ g.S.Sink.faults c.args.sink.now) [
            | in-Ok w ↦ let is = w.in-Ok.is in quiet (λ f. cc) e.writes e.others_write_nothing
            | in-Err-Write w ↦ absurd (not_failed w.answered-is)
            | in-Err-Memory w ↦
                let is = w.in-Err-Memory.is ∙ ap Err w.in-Err-Memory.field-0-is in
                quiet (λ f. cc) e.writes e.others_write_nothing
          ];
      appends = e.appends_only;
    })

pub returns-then-worker-len-clause-makes : goal.returns-then-worker-len-clause-makes
returns-then-worker-len-clause-makes g c =
    let o = outline_of (table_of g.Q.Query.facts g.J.Naming.job) g.J.Naming.job in
    let t = together c.self.inside.workers.items c.self.inside.board c.self.inside.post in
    step_idles o c.args.worker c.args.kind c.args.self.now (subst (λ (u : Driven). LeadsOn o ((c.args.worker, c.args.kind) ∷ []) (NotNow ∷ []) u.state u.state) c.self.view_is (leads_on_outside o (sound g c.self.invariant.legal) t c.args.worker c.args.kind c.self.invariant.reached (omega (arith, c.len.ensures, c.if-worker-len.true))))

pub returns-then-worker-len-clause-leaves : goal.returns-then-worker-len-clause-leaves
returns-then-worker-len-clause-leaves g c =
    let job = g.J.Naming.job in
    let s = g.S.Sink in
    idle_leaves (table_of g.Q.Query.facts job) job s.written s.faults s.frame c.args.kind c.args.self.now.state c.args.sink.now
