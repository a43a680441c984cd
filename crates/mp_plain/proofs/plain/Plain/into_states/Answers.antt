use Rattle.std.proofs.Common.{map, subst, sym}
use Rattle.mp_model.specs.Tables.{table_of}
use Rattle.mp_outline.specs.JobOutline.{outline_of}
use Rattle.mp_msg.specs.LastStates.{AreAllStates}
use Rattle.mp_plain.specs.Driven.{AllKnowTheEnd, Driven}
use Rattle.mp_worker.specs.Last.{AreTheirStates}
use Rattle.mp_worker.proofs.LastStates.{all_states, ok_so}
use Rattle.mp_plain.proofs.plain.Plain.into_states.Goals as goal

pub last_states-requires-after_bounds : goal.last_states-requires-after_bounds
last_states-requires-after_bounds g c κs within =
    let o = outline_of (table_of g.Q.Query.facts g.J.Naming.job) g.J.Naming.job in
    subst (λ (p : Driven). AllKnowTheEnd o p.state) (sym c.self.view_is) c.requires.finished

pub returns : goal.returns
returns g c =
    let job = g.J.Naming.job in
    let q = table_of g.Q.Query.facts job in
    let workers = c.self.inside.workers.items in
    ok_so c.last_states.result (λ all. AreTheirStates q job workers (map (λ states. states.items) all.items)) (λ all. AreAllStates q job (map (λ states. states.items) all.items))
    (λ all theirs.
    let reached = c.self.invariant.reached.1 in
    all_states q job workers reached.all_workers (λ w s at. (reached.workers w s at).number) (map (λ states. states.items) all.items) theirs) c.last_states.ensures
