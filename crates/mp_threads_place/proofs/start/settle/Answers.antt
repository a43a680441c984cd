use denote.Param.Send.{sendable}
use Rattle.std.proofs.Crossing.{crosses}
use Rattle.mp_threads_member.proofs.Crossing.{member_send, worker_send}
use Rattle.mp_threads_place.proofs.start.settle.Goals as goal

pub spawn_with-started-requires-send-F : goal.spawn_with-started-requires-send-F
spawn_with-started-requires-send-F g c κs within =
    let s = c.type_bounds in
    search (member_send, s, crosses, sendable) depth 60 fits 20000

pub spawn_with-started-requires-send-T : goal.spawn_with-started-requires-send-T
spawn_with-started-requires-send-T g c κs within =
    let s = c.type_bounds in
    search (member_send, worker_send, s, crosses, sendable) depth 60 fits 20000
