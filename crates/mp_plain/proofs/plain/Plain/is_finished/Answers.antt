use Rattle.std.proofs.Common.{IsTrue, ◌↔◌, subst, rules, tests}
use Rattle.std.proofs.lemmas.Iterator.{cases_from_all, YieldsList-from_slice}
use Rattle.mp_names.specs.Outlines.{OutlineIsSound}
use Rattle.mp_outline.specs.JobOutline.{outline_of}
use Rattle.mp_outline.proofs.Soundness.{outline_is_sound}
use Rattle.mp_worker_refinement.specs.SystemState.{KnowsTheEnd}
use Rattle.mp_plain.specs.Driven.{AllKnowTheEnd, AreReached, Driven}
use Rattle.mp_plain.proofs.Ended.{all_written, lines_begin, told_by_all}
use Rattle.mp_plain.proofs.plain.Plain.is_finished.Given as given
use Rattle.mp_plain.proofs.plain.Plain.is_finished.Goals as goal
use Rattle.mp_model.specs.Tables.{table_of}

sound : (g : given.Over) (c : goal.After-all g) → OutlineIsSound (outline_of (table_of g.Q.Query.facts g.J.Naming.job) g.J.Naming.job)
sound g c =
    let laws = g.met.Q.Query g.world.𝓛 g.world.𝓜 g.world.𝓡 ((λ s x. x), (λ x. x), (λ x. x), λ x. x) in
    let job = g.J.Naming.job in
    outline_is_sound (table_of g.Q.Query.facts job) (laws.has_stages job.values) (laws.posts_are_later job.values) (laws.later_stages_post_nothing job.values) job c.self.invariant.legal

known : (g : given.Over) (c : goal.After-all g) → IsTrue c.all.result ↔ AllKnowTheEnd (outline_of (table_of g.Q.Query.facts g.J.Naming.job) g.J.Naming.job) c.args.self.now.state
known g c =
    let o = outline_of (table_of g.Q.Query.facts g.J.Naming.job) g.J.Naming.job in
    let workers = c.self.inside.workers.items in
    let by_call = cases_from_all _ _ _ (KnowsTheEnd o) (λ s. KnowsTheEnd o s → ⊥) c.all.ensures.ran (YieldsList-from_slice workers cc) (λ x q k. search (rules, tests)) (λ x q k. search (rules, tests)) in
    subst (λ (t : Driven). IsTrue c.all.result ↔ AllKnowTheEnd o t.state) c.self.view_is (told_by_all (KnowsTheEnd o) c.all.result workers by_call)

pub returns-clause-known : goal.returns-clause-known
returns-clause-known g c = known g c

pub returns-clause-answer : goal.returns-clause-answer
returns-clause-answer g c = λ finished.
    let job = g.J.Naming.job in
    let q = table_of g.Q.Query.facts job in
    let reached = subst (λ (u : Driven). AreReached (outline_of q job) u.state) c.self.view_is c.self.invariant.reached in
    all_written q job (sound g c) c.args.self.now.state reached ((known g c).0 finished)

pub returns-clause-begun : goal.returns-clause-begun
returns-clause-begun g c =
    let job = g.J.Naming.job in
    let q = table_of g.Q.Query.facts job in
    let reached = subst (λ (u : Driven). AreReached (outline_of q job) u.state) c.self.view_is c.self.invariant.reached in
    lines_begin q job (sound g c) c.args.self.now.state reached
