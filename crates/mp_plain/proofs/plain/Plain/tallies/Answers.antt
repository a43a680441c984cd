use Rattle.std.proofs.Common.{[], ◌∷◌, ◌≡◌, ◌∙◌, ℕ, List, ap, arith, get_or, length, length-append, subst, sym}
use Rattle.mp_outline.specs.JobOutline.{outline_of}
use Rattle.mp_outline.proofs.Soundness.{outline_is_sound}
use Rattle.mp_worker_refinement.specs.State.{WorkerState}
use Rattle.mp_plain.specs.Driven.{AreReached, Driven}
use Rattle.mp_plain.proofs.Counted.{one_more_tells, tallied_at_the_end, tallied_where_complete}
use Rattle.mp_plain.proofs.plain.Plain.tallies.Goals as goal
use Rattle.mp_model.specs.Tables.{table_of}

pub loop-worker-preserved : goal.loop-worker-preserved
loop-worker-preserved g c =
    let job = g.J.Naming.job in
    let q = table_of g.Q.Query.facts job in
    let i = c.loop-worker.invariant in
    let workers = c.args.self.now.state.workers in
    let tallies = c.loop-worker.tallies.items in
    let worker = c.worker-item.result in
    let tally = c.in_ok-tally.field-0 in
    let pushed = c.push_reserved.ensures in
    let same = c.deref-worker-items.ensures.value ∙ ap (λ (t : Driven). t.state.workers) c.self.view_is in
    let at = subst (λ (n : ℕ). worker ≡ get_or workers n worker) (sym i.many) (subst (λ (xs : List WorkerState). worker ≡ get_or xs c.loop-worker.worker-index worker) same c.worker-item.is) in
    let told = c.in_ok-tally.ensures in
    record {
      room = omega (arith, i.room, pushed.capacity);
      many = omega (arith, ap length pushed.items, length-append tallies (tally ∷ []), i.many);
      told = one_more_tells q job workers tallies c.push_reserved.new.self.items worker tally i.told at (record { groups = told.groups; moved = told.moved; keys = told.keys }) pushed.items;
    }

pub returns-clause-told : goal.returns-clause-told
returns-clause-told g c =
    let o = outline_of (table_of g.Q.Query.facts g.J.Naming.job) g.J.Naming.job in
    let same = ap length (c.deref-worker-items.ensures.value ∙ ap (λ (t : Driven). t.state.workers) c.self.view_is) in
    let reached = subst (λ (u : Driven). AreReached o u.state) c.self.view_is c.self.invariant.reached in
    record { all = omega (arith, same, c.loop-worker.invariant.many, c.loop-worker-test.false, c.loop-worker.auto.worker-index-end, reached.1.all_workers); each = c.loop-worker.invariant.told }

pub returns-clause-at_the_end : goal.returns-clause-at_the_end
returns-clause-at_the_end g c = λ all.
    let laws = g.met.Q.Query g.world.𝓛 g.world.𝓜 g.world.𝓡 ((λ s x. x), (λ x. x), (λ x. x), λ x. x) in
    let job = g.J.Naming.job in
    let q = table_of g.Q.Query.facts job in
    let kept = c.self.invariant in
    let sound = outline_is_sound q (laws.has_stages job.values) (laws.posts_are_later job.values) (laws.later_stages_post_nothing job.values) job kept.legal in
    let reached = subst (λ (u : Driven). AreReached (outline_of q job) u.state) c.self.view_is kept.reached in
    tallied_at_the_end q job sound c.args.self.now.state reached all c.loop-worker.tallies.items (returns-clause-told g c)

pub returns-clause-complete : goal.returns-clause-complete
returns-clause-complete g c = λ over.
    let laws = g.met.Q.Query g.world.𝓛 g.world.𝓜 g.world.𝓡 ((λ s x. x), (λ x. x), (λ x. x), λ x. x) in
    let job = g.J.Naming.job in
    let q = table_of g.Q.Query.facts job in
    let sound = outline_is_sound q (laws.has_stages job.values) (laws.posts_are_later job.values) (laws.later_stages_post_nothing job.values) job c.self.invariant.legal in
    tallied_where_complete q job sound c.args.self.now.state over c.loop-worker.tallies.items (returns-clause-told g c)
