use Rattle.std.proofs.Common.{refl}
use Rattle.mp_names.specs.Outlines.{owner_before}
use Rattle.mp_test_job.proofs.msg.record_is_sent.Goals as goal

pub carried-requires-clause-receiver : goal.carried-requires-clause-receiver
unfolding owner_before
carried-requires-clause-receiver g c = rw (c.records-message.ensures, c.new.ensures, c.in_ok-push.ensures.items, c.new-recs.ensures.items, c.record_of_bid.ensures, c.requires) refl
