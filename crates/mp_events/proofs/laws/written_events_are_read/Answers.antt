use Rattle.mp_events.proofs.WrittenLines.{written_are_read}
use Rattle.mp_events.proofs.laws.written_events_are_read.Goals as goal

pub returns : goal.returns
returns c = written_are_read
