use Rattle.mp_test_parts.proofs.Empty.{no_keys}
use Rattle.mp_test_parts.proofs.handoff.send.Goals as goal

pub sent-requires-clause-keys : goal.sent-requires-clause-keys
sent-requires-clause-keys g c κs within = rw c.requires (no_keys c.make_room_for_sent.new.self.stage _ _)
