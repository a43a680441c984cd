use Rattle.std.proofs.Common.{[]}
use Rattle.mp_msg.specs.Bundles.{receiver_of, sender_of}
use Rattle.mp_samples.specs.Bids.{answering_in}
use Rattle.mp_outline.specs.JobOutline.{outline_of}
use Rattle.mp_test_job.proofs.Pushed.{stands_after}
use Rattle.mp_test_job.proofs.msg.carried.Goals as goal

pub push-requires-clause-fresh : goal.push-requires-clause-fresh
push-requires-clause-fresh g c = ([], [], c.in_ok-post.ensures.denotes c.args.from c.args.to c.requires.from c.requires.to, c.requires.once)

pub pop-requires-clause-denotes : goal.pop-requires-clause-denotes
pop-requires-clause-denotes g c =
    let o = outline_of (answering_in g.J.Naming.job) g.J.Naming.job in
    stands_after (λ m. m) (sender_of o) (receiver_of o) c.in_ok-post.post c.push.new.self c.args.from c.args.to c.args.message c.requires.once c.push.result c.push.ensures.ok c.push.ensures.unchanged (c.in_ok-post.ensures.denotes c.args.from c.args.to c.requires.from c.requires.to)
