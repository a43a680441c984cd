use Rattle.std.proofs.Common.{◌≡◌, ◌∷◌, ◌∙◌, sym, ap, subst}
use Rattle.std.proofs.lemmas.List.Elements.{All-head, All-tail}
use Rattle.std.proofs.lemmas.Option.{slice_get_read, IfSome_then}
use Rattle.mp_mailbox.specs.Names.{OnEdge}
use Rattle.mp_mailbox.proofs.Cases.{IfNone_then}
use Rattle.mp_ruled.specs.Ends.{with_got}
use Rattle.mp_ruled.proofs.Answered.{by_option}
use Rattle.mp_ruled.proofs.Posted.{is_some_and, gets, own_gets, own_new, receiver_kept, receiver_new, receiver_others, receiver_set}
use Rattle.mp_ruled.proofs.post.RuledPostPost.pop.Goals as goal

-- From itself

pub invariant_of-self : goal.invariant_of-self
invariant_of-self g c =
    let post = c.self.inside in
    let edge = OnEdge g.M.Named.from g.M.Named.to post.worker post.worker in
    by_option (λ m. post.own.waiting ≡ m ∷ c.pop.new.self.waiting) c.pop.result c.pop.ensures.some c.pop.ensures.unchanged
    (λ m leaves. (c.self.invariant.0, All-tail (λ x. (g.M.Named.from x ≡ post.worker) × (g.M.Named.to x ≡ post.worker)) m c.pop.new.self.waiting (subst edge leaves c.self.invariant.1)))
    (λ is. (c.self.invariant.0, subst (λ o. edge o.waiting) (sym is) c.self.invariant.1))

pub returns-then-from-self-clause-edge : goal.returns-then-from-self-clause-edge
returns-then-from-self-clause-edge g c =
    let post = c.self.inside in
    let mine = c.requires.serves ∙ sym (ap (λ p. p.worker) c.self.view_is) in
    IfSome_then c.pop.result c.pop.ensures.some
    (λ m leaves.
    let way = All-head (λ x. (g.M.Named.from x ≡ post.worker) × (g.M.Named.to x ≡ post.worker)) m c.pop.new.self.waiting (subst (λ ms. OnEdge g.M.Named.from g.M.Named.to post.worker post.worker ms) leaves c.self.invariant.1) in
    (way.0 ∙ sym c.if-from-self.true, way.1 ∙ sym mine))

pub returns-then-from-self-clause-some : goal.returns-then-from-self-clause-some
returns-then-from-self-clause-some g c =
    let post = c.self.inside in
    let mine = c.requires.serves ∙ sym (ap (λ p. p.worker) c.self.view_is) in
    rw (← c.self.view_is) (IfSome_then c.pop.result c.pop.ensures.some
    (λ m leaves. own_gets g.M.Named.names post.worker post.senders.items post.receivers.items post.own c.args.from c.args._to c.pop.new.self c.if-from-self.true mine m leaves))

pub returns-then-from-self-clause-once : goal.returns-then-from-self-clause-once
returns-then-from-self-clause-once g c =
    let post = c.self.inside in
    let mine = c.requires.serves ∙ sym (ap (λ p. p.worker) c.self.view_is) in
    rw (← c.self.view_is) (IfSome_then c.pop.result c.pop.ensures.some
    (λ m leaves. own_new g.M.Named.names post.worker post.senders.items post.receivers.items post.own c.args.from c.args._to c.pop.new.self c.if-from-self.true mine m leaves))

-- From another worker

pub invariant_of-self-2 : goal.invariant_of-self-2
invariant_of-self-2 g c =
    let post = c.self.inside in
    let near = rw (← c.self.view_is) at c.requires.workers.0 in
    let here = slice_get_read post.receivers.items _ c.args.from c.index_mut.result.now (sym c.self.invariant.0.square) near c.index_mut.ensures.value in
    by_option (λ m. c.pop-2.new.self ≡ with_got c.index_mut.result.now m) c.pop-2.result c.pop-2.ensures.some c.pop-2.ensures.none
    (λ m is. (receiver_set post.worker post.senders.items post.receivers.items c.self.invariant.0 c.args.from c.index_mut.result.now c.pop-2.new.self here (ap (λ e. e.from) is) (ap (λ e. e.to) is), c.self.invariant.1))
    (λ is. (receiver_set post.worker post.senders.items post.receivers.items c.self.invariant.0 c.args.from c.index_mut.result.now c.pop-2.new.self here (ap (λ e. e.from) is) (ap (λ e. e.to) is), c.self.invariant.1))

pub returns-clause-edge : goal.returns-clause-edge
returns-clause-edge g c =
    let post = c.self.inside in
    let near = rw (← c.self.view_is) at c.requires.workers.0 in
    let here = slice_get_read post.receivers.items _ c.args.from c.index_mut.result.now (sym c.self.invariant.0.square) near c.index_mut.ensures.value in
    let mine = c.requires.serves ∙ sym (ap (λ p. p.worker) c.self.view_is) in
    let way = c.self.invariant.0.pops c.args.from c.index_mut.result.now here in
    IfSome_then c.pop-2.result c.pop-2.ensures.edge (λ m edge. (edge.0 ∙ way.0, edge.1 ∙ (way.1 ∙ sym mine)))

pub returns-clause-some : goal.returns-clause-some
returns-clause-some g c =
    let post = c.self.inside in
    let near = rw (← c.self.view_is) at c.requires.workers.0 in
    let here = slice_get_read post.receivers.items _ c.args.from c.index_mut.result.now (sym c.self.invariant.0.square) near c.index_mut.ensures.value in
    let mine = c.requires.serves ∙ sym (ap (λ p. p.worker) c.self.view_is) in
    rw (← c.self.view_is) (IfSome_then c.pop-2.result c.pop-2.ensures.some
    (λ m is. gets g.M.Named.names post.worker post.senders.items post.receivers.items post.own c.args.from c.args._to c.index_mut.result.now c.pop-2.new.self m mine c.if-from-self.false here is))

pub returns-clause-once : goal.returns-clause-once
returns-clause-once g c =
    let post = c.self.inside in
    let near = rw (← c.self.view_is) at c.requires.workers.0 in
    let here = slice_get_read post.receivers.items _ c.args.from c.index_mut.result.now (sym c.self.invariant.0.square) near c.index_mut.ensures.value in
    let mine = c.requires.serves ∙ sym (ap (λ p. p.worker) c.self.view_is) in
    rw (← c.self.view_is) (IfSome_then c.pop-2.result c.pop-2.ensures.once
    (λ m once. receiver_new g.M.Named.names post.worker post.senders.items post.receivers.items post.own c.args.from c.args._to c.index_mut.result.now c.pop-2.new.self m mine c.if-from-self.false here once))

pub returns-clause-empty : goal.returns-clause-empty
returns-clause-empty g c =
    let post = c.self.inside in
    let near = rw (← c.self.view_is) at c.requires.workers.0 in
    let here = slice_get_read post.receivers.items _ c.args.from c.index_mut.result.now (sym c.self.invariant.0.square) near c.index_mut.ensures.value in
    rw (← c.self.view_is) (IfNone_then c.pop-2.result c.pop-2.ensures.empty
    (λ empty. (λ itself. absurd (c.if-from-self.false itself), λ _. is_some_and post.receivers.items c.args.from c.index_mut.result.now _ here empty)))

pub returns-clause-none : goal.returns-clause-none
returns-clause-none g c =
    let post = c.self.inside in
    let near = rw (← c.self.view_is) at c.requires.workers.0 in
    let here = slice_get_read post.receivers.items _ c.args.from c.index_mut.result.now (sym c.self.invariant.0.square) near c.index_mut.ensures.value in
    let mine = c.requires.serves ∙ sym (ap (λ p. p.worker) c.self.view_is) in
    rw (← c.self.view_is) (IfNone_then c.pop-2.result c.pop-2.ensures.none
    (λ is. receiver_kept g.M.Named.names post.worker post.senders.items post.receivers.items post.own c.args.from c.args._to c.index_mut.result.now c.pop-2.new.self mine c.if-from-self.false here is))

pub returns-clause-others : goal.returns-clause-others
returns-clause-others g c =
    let post = c.self.inside in
    let mine = c.requires.serves ∙ sym (ap (λ p. p.worker) c.self.view_is) in
    rw (← c.self.view_is) (receiver_others g.M.Named.names post.worker post.senders.items post.receivers.items post.own c.args.from c.args._to c.index_mut.result.now c.pop-2.new.self mine)
