use Rattle.std.proofs.Common.{◌<◌, length, arith}
use Rattle.std.proofs.lemmas.Result.{on_ok_weaker, on_err_weaker}
use Rattle.mp_mailbox.proofs.Queued.{adds_last, keeps_waiting, kept, others, others_wait, pushes}
use Rattle.mp_mailbox.proofs.plain.PlainPostPost.push.Goals as goal

pub returns-clause-ok : goal.returns-clause-ok
returns-clause-ok g c =
    let near : c.place-at.result < length c.self.inside.queues.items = omega (arith, c.self.invariant.square, c.place-at.ensures.inside) in
    rw (← c.self.view_is) (on_ok_weaker c.push_below.result
    (λ grown. pushes (λ q. q.items) c.self.inside.workers c.self.inside.depth g.M.Named.names g.M.Named.from g.M.Named.to c.self.inside.queues.items c.args.from c.args.to c.place-at.result c.index_mut.result.now c.push_below.new.queue c.args.message c.place-at.ensures.place near c.index_mut.ensures.value grown.1 c.requires.edge)
    c.push_below.ensures.ok)

pub returns-clause-unchanged : goal.returns-clause-unchanged
returns-clause-unchanged g c =
    let near : c.place-at.result < length c.self.inside.queues.items = omega (arith, c.self.invariant.square, c.place-at.ensures.inside) in
    rw (← c.self.view_is) (on_err_weaker c.push_below.result
    (λ full. kept (λ q. q.items) c.self.inside.workers c.self.inside.depth g.M.Named.names g.M.Named.from g.M.Named.to c.self.inside.queues.items c.args.from c.args.to c.place-at.result c.index_mut.result.now c.push_below.new.queue c.place-at.ensures.place near c.index_mut.ensures.value full.1)
    c.push_below.ensures.full)

pub returns-clause-others : goal.returns-clause-others
returns-clause-others g c =
    rw (← c.self.view_is) (others (λ q. q.items) c.self.inside.workers c.self.inside.depth g.M.Named.names g.M.Named.from g.M.Named.to c.self.inside.queues.items c.args.from c.args.to c.place-at.result c.index_mut.result.now c.push_below.new.queue c.place-at.ensures.place (rw (← c.self.view_is) at c.requires.workers.1))

pub returns-clause-last : goal.returns-clause-last
returns-clause-last g c =
    let near : c.place-at.result < length c.self.inside.queues.items = omega (arith, c.self.invariant.square, c.place-at.ensures.inside) in
    rw (← c.self.view_is) (on_ok_weaker c.push_below.result
    (λ grown. adds_last (λ q. q.items) c.self.inside.workers c.self.inside.depth g.M.Named.names c.self.inside.queues.items c.args.from c.args.to c.place-at.result c.index_mut.result.now c.push_below.new.queue c.place-at.ensures.place near c.index_mut.ensures.value c.args.message grown.1)
    c.push_below.ensures.ok)

pub returns-clause-waiting : goal.returns-clause-waiting
returns-clause-waiting g c =
    let near : c.place-at.result < length c.self.inside.queues.items = omega (arith, c.self.invariant.square, c.place-at.ensures.inside) in
    rw (← c.self.view_is) (on_err_weaker c.push_below.result
    (λ full. keeps_waiting (λ q. q.items) c.self.inside.workers c.self.inside.depth g.M.Named.names c.self.inside.queues.items c.args.from c.args.to c.place-at.result c.index_mut.result.now c.push_below.new.queue c.place-at.ensures.place near c.index_mut.ensures.value full.1)
    c.push_below.ensures.full)

pub returns-clause-others_wait : goal.returns-clause-others_wait
returns-clause-others_wait g c =
    rw (← c.self.view_is) (others_wait (λ q. q.items) c.self.inside.workers c.self.inside.depth g.M.Named.names c.self.inside.queues.items c.args.from c.args.to c.place-at.result c.index_mut.result.now c.push_below.new.queue c.place-at.ensures.place (rw (← c.self.view_is) at c.requires.workers.1))
