use Rattle.std.proofs.Common.{◌<◌, length, arith, sym, ◌∙◌}
use Rattle.std.proofs.lemmas.Option.{IfSome_then}
use Rattle.mp_mailbox.proofs.Cases.{IfNone_then}
use Rattle.mp_mailbox.proofs.Queued.{keeps_waiting, kept, others, others_wait, pops, pops_edge, pops_new, takes_first}
use Rattle.mp_mailbox.proofs.plain.PlainPostPost.pop.Goals as goal

pub returns-clause-some : goal.returns-clause-some
returns-clause-some g c =
    let near : c.place-at.result < length c.self.inside.queues.items = omega (arith, c.self.invariant.square, c.place-at.ensures.inside) in
    rw (← c.self.view_is) (IfSome_then c.pop_oldest.result c.pop_oldest.ensures.some
    (λ m leaves. pops (λ q. q.items) c.self.inside.workers c.self.inside.depth g.M.Named.names g.M.Named.from g.M.Named.to c.self.inside.queues.items c.args.from c.args.to c.place-at.result c.index_mut.result.now c.pop_oldest.new.queue m c.place-at.ensures.place near c.index_mut.ensures.value leaves))

pub returns-clause-edge : goal.returns-clause-edge
returns-clause-edge g c =
    let near : c.place-at.result < length c.self.inside.queues.items = omega (arith, c.self.invariant.square, c.place-at.ensures.inside) in
    IfSome_then c.pop_oldest.result c.pop_oldest.ensures.some
    (λ m leaves. pops_edge (λ q. q.items) c.self.inside.workers c.self.inside.depth g.M.Named.names g.M.Named.from g.M.Named.to c.self.inside.queues.items c.args.from c.args.to c.place-at.result c.index_mut.result.now c.pop_oldest.new.queue m c.place-at.ensures.place near c.index_mut.ensures.value leaves (rw (← c.self.view_is) at c.requires.denotes))

pub returns-clause-once : goal.returns-clause-once
returns-clause-once g c =
    let near : c.place-at.result < length c.self.inside.queues.items = omega (arith, c.self.invariant.square, c.place-at.ensures.inside) in
    rw (← c.self.view_is) (IfSome_then c.pop_oldest.result c.pop_oldest.ensures.some
    (λ m leaves. pops_new (λ q. q.items) c.self.inside.workers c.self.inside.depth g.M.Named.names g.M.Named.from g.M.Named.to c.self.inside.queues.items c.args.from c.args.to c.place-at.result c.index_mut.result.now c.pop_oldest.new.queue m c.place-at.ensures.place near c.index_mut.ensures.value leaves))

pub returns-clause-none : goal.returns-clause-none
returns-clause-none g c =
    let near : c.place-at.result < length c.self.inside.queues.items = omega (arith, c.self.invariant.square, c.place-at.ensures.inside) in
    rw (← c.self.view_is) (IfNone_then c.pop_oldest.result c.pop_oldest.ensures.none
    (λ empty. kept (λ q. q.items) c.self.inside.workers c.self.inside.depth g.M.Named.names g.M.Named.from g.M.Named.to c.self.inside.queues.items c.args.from c.args.to c.place-at.result c.index_mut.result.now c.pop_oldest.new.queue c.place-at.ensures.place near c.index_mut.ensures.value (empty.1 ∙ sym empty.0)))

pub returns-clause-others : goal.returns-clause-others
returns-clause-others g c =
    rw (← c.self.view_is) (others (λ q. q.items) c.self.inside.workers c.self.inside.depth g.M.Named.names g.M.Named.from g.M.Named.to c.self.inside.queues.items c.args.from c.args.to c.place-at.result c.index_mut.result.now c.pop_oldest.new.queue c.place-at.ensures.place (rw (← c.self.view_is) at c.requires.workers.1))

pub returns-clause-first : goal.returns-clause-first
returns-clause-first g c =
    let near : c.place-at.result < length c.self.inside.queues.items = omega (arith, c.self.invariant.square, c.place-at.ensures.inside) in
    rw (← c.self.view_is) (IfSome_then c.pop_oldest.result c.pop_oldest.ensures.some
    (takes_first (λ q. q.items) c.self.inside.workers c.self.inside.depth g.M.Named.names c.self.inside.queues.items c.args.from c.args.to c.place-at.result c.index_mut.result.now c.pop_oldest.new.queue c.place-at.ensures.place near c.index_mut.ensures.value))

pub returns-clause-waiting : goal.returns-clause-waiting
returns-clause-waiting g c =
    let near : c.place-at.result < length c.self.inside.queues.items = omega (arith, c.self.invariant.square, c.place-at.ensures.inside) in
    rw (← c.self.view_is) (IfNone_then c.pop_oldest.result c.pop_oldest.ensures.none
    (λ empty. keeps_waiting (λ q. q.items) c.self.inside.workers c.self.inside.depth g.M.Named.names c.self.inside.queues.items c.args.from c.args.to c.place-at.result c.index_mut.result.now c.pop_oldest.new.queue c.place-at.ensures.place near c.index_mut.ensures.value (empty.1 ∙ sym empty.0)))

pub returns-clause-others_wait : goal.returns-clause-others_wait
returns-clause-others_wait g c =
    rw (← c.self.view_is) (others_wait (λ q. q.items) c.self.inside.workers c.self.inside.depth g.M.Named.names c.self.inside.queues.items c.args.from c.args.to c.place-at.result c.index_mut.result.now c.pop_oldest.new.queue c.place-at.ensures.place (rw (← c.self.view_is) at c.requires.workers.1))
