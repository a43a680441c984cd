use Rattle.std.proofs.Common.{[], ◌∷◌, ◌∙◌, ◌≡◌, ap, arith, length, length-append, subst, ℕ}
use Rattle.mp_tally.specs.Tallies.{IsTallyOf}
use Rattle.mp_threads_crew.proofs.Tallied.{one_more_at, stands_at}
use Rattle.mp_threads_crew.proofs.tallies.tallies_of.Goals as goal
use Rattle.mp_model.specs.Tables.{table_of}

pub tally_of-requires-clause-finished : goal.tally_of-requires-clause-finished
tally_of-requires-clause-finished g c κs within =
    let workers = c.args.workers.now in
    let index = c.loop-worker.worker-index in
    let worker = c.worker-item.result in
    c.requires.finished.each index worker (stands_at workers index worker (omega (arith, c.loop-worker-test.true, c.loop-worker.auto.worker-index-end)) c.worker-item.is)

pub loop-worker-preserved : goal.loop-worker-preserved
loop-worker-preserved g c =
    let job = g.J.Naming.job in
    let q = table_of g.Q.Query.facts job in
    let i = c.loop-worker.invariant in
    let workers = c.args.workers.now in
    let index = c.loop-worker.worker-index in
    let worker = c.worker-item.result in
    let tallies = c.loop-worker.tallies.items in
    let tally = c.in_ok-tally_of.field-0 in
    let pushed = c.push_reserved.ensures in
    let at = stands_at workers index worker (omega (arith, c.loop-worker-test.true, c.loop-worker.auto.worker-index-end)) c.worker-item.is in
    record {
      room = omega (arith, i.room, pushed.capacity);
      many = omega (arith, ap length pushed.items, length-append tallies (tally ∷ []), i.many);
      tallies = one_more_at (IsTallyOf q job) _ tallies tally index pushed.items i.many i.tallies
          (subst (λ (w : ℕ). IsTallyOf q job w tally) (c.requires.finished.numbers index worker at) c.in_ok-tally_of.ensures);
    }

pub returns : goal.returns
returns g c =
    let i = c.loop-worker.invariant in
    let all : length c.loop-worker.tallies.items ≡ length c.args.workers.now = omega (arith, i.many, c.loop-worker-test.false, c.loop-worker.auto.worker-index-end) in
    record { all = all ∙ c.requires.finished.all; each = i.tallies }
