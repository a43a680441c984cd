use Rattle.std.proofs.Common.{◌∷◌, [], Some, length, ap, sym, ◌∙◌, arith, length-append}
use Rattle.mp_ruled.proofs.Places.{mapped, drop_first}
use Rattle.mp_ruled.proofs.Dealt.{one_more_post}
use Rattle.mp_ruled.proofs.deal.gather.Goals as goal

pub new-requires-in-loop-worker-clause-ends : goal.new-requires-in-loop-worker-clause-ends
new-requires-in-loop-worker-clause-ends g c =
    let i = c.loop-worker.invariant in
    let rows = drop_first c.args.rows.items _ _ _ (sym i.rows ∙ c.in-Some.ensures.items) in
    let columns = drop_first c.args.columns.items _ _ _ (sym i.columns ∙ c.in-Some-pop_front.ensures.items) in
    c.requires.fit _ _ _ (mapped (λ v. v.items) c.args.rows.items c.loop-worker.worker c.in-Some.senders rows.0) (mapped (λ v. v.items) c.args.columns.items c.loop-worker.worker c.in-Some-pop_front.receivers columns.0)

pub loop-worker-preserved : goal.loop-worker-preserved
loop-worker-preserved g c =
    let i = c.loop-worker.invariant in
    let rows = drop_first c.args.rows.items _ _ _ (sym i.rows ∙ c.in-Some.ensures.items) in
    let columns = drop_first c.args.columns.items _ _ _ (sym i.columns ∙ c.in-Some-pop_front.ensures.items) in
    let posts = c.loop-worker.posts.items in
    record {
      room = omega (arith, i.room, c.push_reserved.ensures.capacity);
      many = omega (arith, ap length c.push_reserved.ensures.items, length-append posts (c.new-in-loop-worker.result ∷ []), i.many);
      workers = i.workers;
      rows = sym rows.1;
      columns = sym columns.1;
      ends = rw c.push_reserved.ensures.items (one_more_post c.args.depth _ _ posts c.new-in-loop-worker.result c.loop-worker.worker i.ends i.many (record {
        worker_is = ap (λ p. p.worker) c.new-in-loop-worker.ensures;
        row = mapped (λ v. v.items) c.args.rows.items c.loop-worker.worker c.in-Some.senders rows.0 ∙ ap (λ p. Some p.senders) (sym c.new-in-loop-worker.ensures);
        column = mapped (λ v. v.items) c.args.columns.items c.loop-worker.worker c.in-Some-pop_front.receivers columns.0 ∙ ap (λ p. Some p.receivers) (sym c.new-in-loop-worker.ensures);
        own_is = ap (λ p. p.own) c.new-in-loop-worker.ensures ∙ c.in_ok-own.ensures;
      }));
    }
