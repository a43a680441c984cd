use Rattle.std.proofs.Common.{refl}
use Rattle.mp_outline.specs.JobOutline.{outline_of}
use Rattle.mp_worker_refinement.proofs.Messages.{keeps_everywhere, messages_kept}
use Rattle.mp_worker_refinement.proofs.Pushed.{edge_fits, edge_is, follows_push, may_push, messages_push}
use Rattle.mp_worker_sends.proofs.Kept.{follows_kept}
use Rattle.mp_worker_sends.proofs.push.send.Goals as goal
use Rattle.mp_model.specs.Tables.{table_of}

pub push-requires-clause-workers : goal.push-requires-clause-workers
push-requires-clause-workers g c = edge_fits c.requires.outline c.requires.worker c.requires.may c.worker.ensures c.requires.to _ c.requires.at_post.all_workers

pub push-requires-clause-edge : goal.push-requires-clause-edge
push-requires-clause-edge g c = edge_is c.requires.outline c.requires.worker c.requires.may c.worker.ensures c.requires.to

pub push-requires-clause-fresh : goal.push-requires-clause-fresh
push-requires-clause-fresh g c = may_push c.requires.outline c.requires.worker c.requires.may c.worker.ensures c.requires.to (g.P.Post.denotes c.args.post.now) c.requires.at_post.ends

pub returns-in-Ok-push_all-clause-mail : goal.returns-in-Ok-push_all-clause-mail
returns-in-Ok-push_all-clause-mail g c =
    let r = c.requires in
    let e = c.in-Ok.ensures in
    let old = c.args.post.now in
    let new = c.push.new.self in
    rw (c.in-Ok-push_all.ensures.pushed, r.names)
    (record {
      follows = follows_push r.outline r.worker r.may c.worker.ensures r.to (g.P.Post.denotes old) (g.P.Post.denotes new) e.ok e.others;
      messages = messages_push r.outline r.worker r.may c.worker.ensures r.to (g.P.Post.waits old) (g.P.Post.waits new) e.last e.others_wait;
      keeps = e.keeps;
    })

pub push_all-requires : goal.push_all-requires
push_all-requires g c = record { changes = rw c.requires.names c.requires.changes }

pub returns-in-Err-clause-mail : goal.returns-in-Err-clause-mail
returns-in-Err-clause-mail g c =
    let log = c.args.log.now in
    let old = c.args.post.now in
    let new = c.push.new.self in
    let o = outline_of (table_of g.Q.Query.facts g.J.Naming.job) g.J.Naming.job in
    let e = c.in-Err.ensures in
    record {
      follows = follows_kept o log.worker log.log (g.P.Post.denotes old) (g.P.Post.denotes new) c.worker.result c.args.to e.unchanged e.others;
      messages = messages_kept o log.worker log.log log.log (g.P.Post.waits old) (g.P.Post.waits new) refl refl (keeps_everywhere (g.P.Post.waits old) (g.P.Post.waits new) c.worker.result c.args.to e.waiting e.others_wait);
      keeps = e.keeps;
    }
