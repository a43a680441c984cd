use Rattle.std.proofs.Common.{◌≡◌, ◌++◌, ◌∙◌, ◌∷◌, [], ℕ, List, All, ap, append_assoc, append-nil, arith, length, length-append, map, subst, sym}
use Rattle.std.specs.Vec.Iter.{into_iter_items}
use Rattle.std.proofs.lemmas.List.{map-append, nil_from_length}
use Rattle.std.proofs.lemmas.List.Elements.{All-tail}
use Rattle.mp_model.specs.Tables.{table_of}
use Rattle.mp_outline.specs.JobOutline.{outline_of}
use Rattle.mp_msg.specs.States.{BinContent}
use Rattle.mp_worker_refinement.specs.State.{WorkerState}
use Rattle.mp_worker_refinement.specs.SystemState.{KnowsTheEnd}
use Rattle.mp_worker.specs.Last.{AreTheirStates}
use Rattle.mp_worker.proofs.LastStates.{none_theirs, one_theirs}
use Rattle.mp_worker.proofs.last.last_states.Goals as goal

pub loop-worker-preserved : goal.loop-worker-preserved
loop-worker-preserved g c =
    let job = g.J.Naming.job in
    let q = table_of g.Q.Query.facts job in
    let knows = KnowsTheEnd (outline_of q job) in
    let before = c.loop-worker.invariant in
    let worker = c.in-Some.worker in
    let rest = into_iter_items c.next.new.self in
    let left = c.in-Some.ensures.steps.0 in
    let all = c.loop-worker.all.items in
    let given = c.in_ok-into_state.field-0 in
    let lists : (more : List (List (ℕ × BinContent g.row.Q-Cell.Denot))) → map (λ states. states.items) c.push_reserved.new.self.items ++ more ≡ map (λ states. states.items) all ++ given.items ∷ more =
    λ more. ap (λ (xs : List (List (ℕ × BinContent g.row.Q-Cell.Denot))). xs ++ more) (ap (map (λ states. states.items)) c.push_reserved.ensures.items ∙ map-append (λ states. states.items) all (given ∷ [])) ∙ append_assoc (map (λ states. states.items) all) (given.items ∷ []) more in
    let grown = ap length c.push_reserved.ensures.items ∙ length-append all (given ∷ []) in
    let fewer = ap length left in
    record {
      next = (tt, tt);
      room = omega (arith, grown, fewer, before.room, c.push_reserved.ensures.capacity);
      finished = All-tail knows worker rest (subst (All knows) left before.finished);
      theirs = λ more others. subst (AreTheirStates q job c.args.workers.items) (sym (lists more))
          (before.theirs (given.items ∷ more) (subst (λ (ws : List WorkerState). AreTheirStates q job ws (given.items ∷ more)) (sym left) (one_theirs q job worker rest given.items more c.in_ok-into_state.ensures others)));
    }

pub returns : goal.returns
returns g c =
    let job = g.J.Naming.job in
    let q = table_of g.Q.Query.facts job in
    let left = c.loop-worker.worker-iterator in
    let over = nil_from_length (into_iter_items left) (sym left.rest.ok.0 ∙ c.in-None.ensures.steps.0) in
    let none = subst (λ (ws : List WorkerState). AreTheirStates q job ws []) (sym over) (none_theirs q job) in
    subst (AreTheirStates q job c.args.workers.items) (append-nil (map (λ states. states.items) c.loop-worker.all.items)) (c.loop-worker.invariant.theirs [] none)
