use Rattle.std.proofs.Common.{subst, sym}
use Rattle.mp_model.specs.Tables.{table_of}
use Rattle.mp_outline.specs.JobOutline.{outline_of}
use Rattle.mp_worker_refinement.specs.Served.{IsAtPost}
use Rattle.mp_worker_refinement.specs.State.{WorkerState}
use Rattle.mp_worker.proofs.worker.Worker.step.Goals as goal

pub make_step-requires-clause-at_post : goal.make_step-requires-clause-at_post
make_step-requires-clause-at_post g c κs within =
    let o = outline_of (table_of g.Q.Query.facts g.J.Naming.job) g.J.Naming.job in
    subst (λ (s : WorkerState). IsAtPost g.P.Post.workers g.P.Post.depth g.P.Post.serves g.P.Post.denotes o s.number s.log c.args.post.now) (sym c.self.view_is) c.requires.at_post

pub returns-clause-answers : goal.returns-clause-answers
returns-clause-answers g c = rw (← c.self.view_is) c.make_step.ensures.post.answers

pub returns-clause-mail : goal.returns-clause-mail
returns-clause-mail g c = rw (← c.self.view_is) c.make_step.ensures.post.mail
