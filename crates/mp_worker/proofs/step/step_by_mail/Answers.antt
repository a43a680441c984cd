use Rattle.std.proofs.Common.{refl}
use Rattle.mp_names.specs.declared.kinds.Kind.TheVariants.{Apply, Ingest, Settle}
use Rattle.mp_worker_refinement.proofs.Alone.{alone_by_mail, post_kept}
use Rattle.mp_worker.proofs.step.step_by_mail.Goals as goal

pub route-requires-clause-stage : goal.route-requires-clause-stage
route-requires-clause-stage g c κs within = rw c.in-Route.is at c.requires.fits

pub receive-requires-clause-from : goal.receive-requires-clause-from
receive-requires-clause-from g c κs within = rw c.in-Receive.is at c.requires.fits

pub extract-requires-clause-stage : goal.extract-requires-clause-stage
extract-requires-clause-stage g c κs within = rw c.in-Extract.is at c.requires.fits

pub settle-requires-clause-stage : goal.settle-requires-clause-stage
settle-requires-clause-stage g c κs within = rw c.in-Settle.is at c.requires.fits

pub apply-requires-clause-stage : goal.apply-requires-clause-stage
apply-requires-clause-stage g c κs within = rw c.in-Apply.is at c.requires.fits

pub returns-in-Ingest-clause-steps : goal.returns-in-Ingest-clause-steps
returns-in-Ingest-clause-steps g c = rw (c.in-Ingest.is) (alone_by_mail (g.P.Post.had_room c.args.post.now) (g.P.Post.was_full c.args.post.now) (g.P.Post.was_empty c.args.post.now) _ Ingest (λ w x. tt) _ _ _ c.ingest.ensures)

pub returns-in-Ingest-clause-mail : goal.returns-in-Ingest-clause-mail
returns-in-Ingest-clause-mail g c = (post_kept g.P.Post.workers g.P.Post.depth g.P.Post.serves g.P.Post.denotes g.P.Post.waits _ Ingest (λ log x. (refl, refl)) _ _ _ _ c.ingest.ensures)

pub returns-in-Settle-clause-steps : goal.returns-in-Settle-clause-steps
returns-in-Settle-clause-steps g c = rw (c.in-Settle.is) (alone_by_mail (g.P.Post.had_room c.args.post.now) (g.P.Post.was_full c.args.post.now) (g.P.Post.was_empty c.args.post.now) _ (Settle c.in-Settle.stage) (λ w x. tt) _ _ _ c.settle.ensures)

pub returns-in-Settle-clause-mail : goal.returns-in-Settle-clause-mail
returns-in-Settle-clause-mail g c = (post_kept g.P.Post.workers g.P.Post.depth g.P.Post.serves g.P.Post.denotes g.P.Post.waits _ (Settle c.in-Settle.stage) (λ log x. (refl, refl)) _ _ _ _ c.settle.ensures)

pub returns-in-Apply-clause-steps : goal.returns-in-Apply-clause-steps
returns-in-Apply-clause-steps g c = rw (c.in-Apply.is) (alone_by_mail (g.P.Post.had_room c.args.post.now) (g.P.Post.was_full c.args.post.now) (g.P.Post.was_empty c.args.post.now) _ (Apply c.in-Apply.stage) (λ w x. tt) _ _ _ c.apply.ensures)

pub returns-in-Apply-clause-mail : goal.returns-in-Apply-clause-mail
returns-in-Apply-clause-mail g c = (post_kept g.P.Post.workers g.P.Post.depth g.P.Post.serves g.P.Post.denotes g.P.Post.waits _ (Apply c.in-Apply.stage) (λ log x. (refl, refl)) _ _ _ _ c.apply.ensures)

pub returns-in-SendControl-clause-steps : goal.returns-in-SendControl-clause-steps
returns-in-SendControl-clause-steps g c = rw (c.in-SendControl.is) c.send_control.ensures.steps

pub returns-in-Route-clause-steps : goal.returns-in-Route-clause-steps
returns-in-Route-clause-steps g c = rw (c.in-Route.is) c.route.ensures.steps

pub returns-in-Receive-clause-steps : goal.returns-in-Receive-clause-steps
returns-in-Receive-clause-steps g c = rw (c.in-Receive.is) c.receive.ensures.steps

pub returns-in-Extract-clause-steps : goal.returns-in-Extract-clause-steps
returns-in-Extract-clause-steps g c = rw (c.in-Extract.is) c.extract.ensures.steps

pub returns-in-SendRow-clause-steps : goal.returns-in-SendRow-clause-steps
returns-in-SendRow-clause-steps g c = rw (c.in-SendRow.is) c.send_row.ensures.steps
