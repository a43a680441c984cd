use Rattle.std.proofs.Common.{refl}
use Rattle.mp_names.specs.Outlines.{owner_before}
use Rattle.mp_samples.proofs.Moving.{state_is_packet}
use Rattle.mp_test_job.proofs.msg.packet_is_sent.Goals as goal

pub packet-message-requires-after_bounds : goal.packet-message-requires-after_bounds
packet-message-requires-after_bounds g c κs within = rw (c.requires, c.with-boxed.ensures, c.in_ok-state_of_bin.ensures) state_is_packet

pub carried-requires-clause-sender : goal.carried-requires-clause-sender
unfolding owner_before
carried-requires-clause-sender g c = rw (c.packet-message.ensures, c.requires) refl

pub carried-requires-clause-receiver : goal.carried-requires-clause-receiver
unfolding owner_before
carried-requires-clause-receiver g c = rw (c.packet-message.ensures, c.requires) refl
