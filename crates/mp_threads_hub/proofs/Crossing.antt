-- The way to the board may go to another thread. Each part is shown by itself: a search through all of it ends at its limits, since a log, whose names lead back to themselves, has no such proof of its own.
use denote.RattleType.{RattleType}
use denote.Param.Send.{IsSend, sendable}
use Rattle.std.proofs.Crossing.{crosses}
use Rattle.std.proofs.marker.PhantomData.TheSendSync as phantom
use Rattle.mp_rows.specs.declared.outlined.Outlined as outlined
use Rattle.mp_seat.proofs.lock.SeatLock.TheSendSync as lock
use Rattle.mp_seat.proofs.seat.Seat.TheSendSync as seat
use Rattle.mp_stamps.proofs.counts.Counts.TheSendSync as counts
use Rattle.mp_rows.specs.contracts.log.Log as log
use Rattle.mp_threads_hub.specs.contracts.shared.Shared as shared
use Rattle.mp_threads_hub.specs.contracts.hub.SeatHub as hub

pub log_send : (O : RattleType) (g : outlined.Ghosts O.Denot) → IsSend (log.the_row O g)
log_send O g = search (phantom.the_field_send, crosses, sendable) depth 60 fits 20000

pub shared_send : (O : RattleType) (g : outlined.Ghosts O.Denot) → IsSend (shared.the_row O g)
shared_send O g = search (counts.the_send, crosses, sendable) depth 60 fits 20000

pub hub_send : (O : RattleType) (g : outlined.Ghosts O.Denot) → IsSend (hub.the_row O g)
hub_send O g = search (shared_send, lock.the_send, lock.the_sync, seat.the_send, crosses, sendable) depth 60 fits 20000
