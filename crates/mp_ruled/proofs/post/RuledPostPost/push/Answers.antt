use Rattle.std.proofs.Common.{◌≢◌, ◌∙◌, sym, ap, refl}
use Rattle.std.proofs.lemmas.Option.{slice_get_read}
use Rattle.std.proofs.lemmas.Result.{on_ok_weaker, on_err_weaker}
use Rattle.mp_ruled.proofs.Answered.{by_result}
use Rattle.mp_ruled.proofs.Posted.{is_some_and, own_sends, sender_fresh, sender_kept, sender_others, sender_set, sends}
use Rattle.mp_ruled.proofs.post.RuledPostPost.push.Goals as goal

pub returns-then-to-self-clause-ok : goal.returns-then-to-self-clause-ok
returns-then-to-self-clause-ok g c =
    let post = c.self.inside in
    let mine = c.requires.serves ∙ sym (ap (λ p. p.worker) c.self.view_is) in
    rw (← c.self.view_is) (on_ok_weaker c.push.result
    (λ is. own_sends g.M.Named.names post.worker post.senders.items post.receivers.items post.own c.args._from c.args.to c.push.new.self mine c.if-to-self.true c.args.message (ap (λ o. o.waiting) is))
    c.push.ensures.ok)

-- To another worker

pub push-requires-2-clause-edge : goal.push-requires-2-clause-edge
push-requires-2-clause-edge g c =
    let post = c.self.inside in
    let mine = c.requires.serves ∙ sym (ap (λ p. p.worker) c.self.view_is) in
    let here = slice_get_read post.senders.items _ c.args.to c.index_mut.result.now refl (rw (← c.self.view_is) at c.requires.workers.1) c.index_mut.ensures.value in
    let way = c.self.invariant.0.pushes c.args.to c.index_mut.result.now here in
    (c.requires.edge.0 ∙ (mine ∙ sym way.0), c.requires.edge.1 ∙ sym way.1)

pub push-requires-2-clause-fresh : goal.push-requires-2-clause-fresh
push-requires-2-clause-fresh g c =
    let post = c.self.inside in
    let mine = c.requires.serves ∙ sym (ap (λ p. p.worker) c.self.view_is) in
    let far : c.args.to ≢ post.worker = c.if-to-self.false in
    let here = slice_get_read post.senders.items _ c.args.to c.index_mut.result.now refl (rw (← c.self.view_is) at c.requires.workers.1) c.index_mut.ensures.value in
    sender_fresh g.M.Named.names post.worker post.senders.items post.receivers.items post.own c.args._from c.args.to c.index_mut.result.now c.index_mut.result.now c.args.message mine far here (rw (← c.self.view_is) at c.requires.fresh)

pub invariant_of-self-2 : goal.invariant_of-self-2
invariant_of-self-2 g c =
    let post = c.self.inside in
    let here = slice_get_read post.senders.items _ c.args.to c.index_mut.result.now refl (rw (← c.self.view_is) at c.requires.workers.1) c.index_mut.ensures.value in
    by_result c.push-2.result c.push-2.ensures.ok c.push-2.ensures.unchanged
    (λ is. (sender_set post.worker post.senders.items post.receivers.items c.self.invariant.0 c.args.to c.index_mut.result.now c.push-2.new.self here (ap (λ e. e.from) is) (ap (λ e. e.to) is), c.self.invariant.1))
    (λ is. (sender_set post.worker post.senders.items post.receivers.items c.self.invariant.0 c.args.to c.index_mut.result.now c.push-2.new.self here (ap (λ e. e.from) is) (ap (λ e. e.to) is), c.self.invariant.1))

pub returns-clause-room : goal.returns-clause-room
returns-clause-room g c =
    let post = c.self.inside in
    let here = slice_get_read post.senders.items _ c.args.to c.index_mut.result.now refl (rw (← c.self.view_is) at c.requires.workers.1) c.index_mut.ensures.value in
    rw (← c.self.view_is) (on_ok_weaker c.push-2.result (λ room. (λ near. absurd (c.if-to-self.false near), λ _. is_some_and post.senders.items c.args.to c.index_mut.result.now _ here room)) c.push-2.ensures.room)

pub returns-clause-full : goal.returns-clause-full
returns-clause-full g c =
    let post = c.self.inside in
    let here = slice_get_read post.senders.items _ c.args.to c.index_mut.result.now refl (rw (← c.self.view_is) at c.requires.workers.1) c.index_mut.ensures.value in
    rw (← c.self.view_is) (on_err_weaker c.push-2.result (λ full. (λ near. absurd (c.if-to-self.false near), λ _. is_some_and post.senders.items c.args.to c.index_mut.result.now _ here full)) c.push-2.ensures.full)

pub returns-clause-ok : goal.returns-clause-ok
returns-clause-ok g c =
    let post = c.self.inside in
    let mine = c.requires.serves ∙ sym (ap (λ p. p.worker) c.self.view_is) in
    let here = slice_get_read post.senders.items _ c.args.to c.index_mut.result.now refl (rw (← c.self.view_is) at c.requires.workers.1) c.index_mut.ensures.value in
    rw (← c.self.view_is) (on_ok_weaker c.push-2.result
    (λ is. sends g.M.Named.names post.worker post.senders.items post.receivers.items post.own c.args._from c.args.to c.index_mut.result.now c.push-2.new.self c.args.message mine c.if-to-self.false here is)
    c.push-2.ensures.ok)

pub returns-clause-unchanged : goal.returns-clause-unchanged
returns-clause-unchanged g c =
    let post = c.self.inside in
    let mine = c.requires.serves ∙ sym (ap (λ p. p.worker) c.self.view_is) in
    let here = slice_get_read post.senders.items _ c.args.to c.index_mut.result.now refl (rw (← c.self.view_is) at c.requires.workers.1) c.index_mut.ensures.value in
    rw (← c.self.view_is) (on_err_weaker c.push-2.result
    (λ is. sender_kept g.M.Named.names post.worker post.senders.items post.receivers.items post.own c.args._from c.args.to c.index_mut.result.now c.push-2.new.self mine c.if-to-self.false here is)
    c.push-2.ensures.unchanged)

pub returns-clause-others : goal.returns-clause-others
returns-clause-others g c =
    let post = c.self.inside in
    let mine = c.requires.serves ∙ sym (ap (λ p. p.worker) c.self.view_is) in
    rw (← c.self.view_is) (sender_others g.M.Named.names post.worker post.senders.items post.receivers.items post.own c.args._from c.args.to c.index_mut.result.now c.push-2.new.self mine)
