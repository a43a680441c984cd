-- What is gathered, and the workers that are left.
use Rattle.std.proofs.Common.{◌+◌, ◌≤◌, ◌++◌, ℕ, List, All, length, map, vec_capacity}
use Rattle.std.specs.Vec.Iter.{into_iter_items}
use Rattle.mp_model.specs.Tables.{table_of}
use Rattle.mp_msg.specs.States.{BinContent}
use Rattle.mp_outline.specs.JobOutline.{outline_of}
use Rattle.mp_worker_refinement.specs.SystemState.{KnowsTheEnd}
use Rattle.mp_worker.specs.Last.{AreTheirStates}
use Rattle.mp_worker.proofs.last.last_states.Given as goal

abbrev pub invariant-loop-worker : goal.invariant-loop-worker
invariant-loop-worker g l =
    let job = g.J.Naming.job in
    let q = table_of g.Q.Query.facts job in
    let rest = into_iter_items l.worker-iterator in
    record {
      next : (goal.iterator-loop-worker g).can_next l.worker-iterator × (goal.iterator-loop-worker g).is_finite l.worker-iterator;
      room : length l.all.items + length rest ≤ vec_capacity l.all;
      finished : All (KnowsTheEnd (outline_of q job)) rest;
      theirs : (more : List (List (ℕ × BinContent g.row.Q-Cell.Denot))) → AreTheirStates q job rest more → AreTheirStates q job l.fn.workers.items (map (λ states. states.items) l.all.items ++ more);
    }
