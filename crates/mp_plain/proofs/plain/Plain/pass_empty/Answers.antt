use Rattle.std.proofs.Common.{◌≡◌, ◌∷◌, ◌<◌, ◌+◌, ◌-◌, [], Some, ap, arith, sym, subst, ◌∙◌}
use Rattle.mp_names.specs.declared.controls.Shape.{Shape}
use Rattle.mp_names.specs.declared.kinds.Kind.{Kind}
use Rattle.mp_names.specs.declared.kinds.Kind.TheVariants.{Receive}
use Rattle.mp_names.specs.Outlines.{OutlineIsSound}
use Rattle.mp_job.specs.Legal.{JobIsLegal}
use Rattle.mp_model.specs.Tables.{table_of}
use Rattle.mp_outline.specs.JobOutline.{outline_of}
use Rattle.mp_outline.proofs.Soundness.{outline_is_sound}
use Rattle.mp_machine.specs.Runs.{NotNow}
use Rattle.mp_worker.proofs.Numbered.{receive_at}
use Rattle.mp_plain.specs.Driven.{Driven, LeadsOn}
use Rattle.mp_plain.specs.Kept.{together}
use Rattle.mp_plain.proofs.Glanced.{none_waits}
use Rattle.mp_plain.proofs.plain.Plain.pass_empty.Given as given
use Rattle.mp_plain.proofs.plain.Plain.pass_empty.Goals as goal

sound : (g : given.Over) → let job = g.J.Naming.job in let q = table_of g.Q.Query.facts job in JobIsLegal q job → OutlineIsSound (outline_of q job)
sound g legal =
    let laws = g.met.Q.Query g.world.𝓛 g.world.𝓜 g.world.𝓡 ((λ s x. x), (λ x. x), (λ x. x), λ x. x) in
    let job = g.J.Naming.job in
    outline_is_sound (table_of g.Q.Query.facts job) (laws.has_stages job.values) (laws.posts_are_later job.values) (laws.later_stages_post_nothing job.values) job legal

some_same : (a b : Kind) → Some a ≡ Some b → a ≡ b
some_same a b e = cc

pub returns-clause-none : goal.returns-clause-none
returns-clause-none g c = λ i kind l m is.
    let o = outline_of (table_of g.Q.Query.facts g.J.Naming.job) g.J.Naming.job in
    let kept = c.self.invariant in
    let t = together c.self.inside.workers.items c.self.inside.board c.self.inside.post in
    let workers : c.args.shape.workers ≡ o.workers = ap (λ (s : Shape). s.workers) c.requires.shape in
    let stages : c.args.shape.stages ≡ o.stages = ap (λ (s : Shape). s.stages) c.requires.shape in
    let v = i - (c.from-first.result + 2) in
    let waits = c.first_waiting-waiting.ensures in
    let inside : v < o.workers = omega (arith, l, m, workers, waits.first.0, waits.first.1, c.from-2.ensures, c.if-kind-first.false) in
    let receives : Receive v ≡ kind = some_same (Receive v) kind (sym (receive_at o i v (omega (arith, l, stages, c.from-first.ensures, c.if-kind-first.false)) inside) ∙ is) in
    let empty = waits.none v (omega (arith, l, c.if-kind-first.false)) (omega (arith, l, m, waits.first.0, c.from-2.ensures, c.if-kind-first.false)) in
    let place_in = c.requires.place.worker in
    let idle = none_waits o (sound g kept.legal) t kept.reached c.args.place.worker (omega (arith, place_in, workers)) v empty in
    subst (λ (u : Driven). LeadsOn o ((c.args.place.worker, kind) ∷ []) (NotNow ∷ []) u.state u.state) c.self.view_is (subst (λ (k : Kind). LeadsOn o ((c.args.place.worker, k) ∷ []) (NotNow ∷ []) t t) receives idle)
