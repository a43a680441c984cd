use Rattle.std.proofs.Common.{◌∙◌, List, ap, length, subst, sym}
use Rattle.std.proofs.lemmas.Result.{IfOk-weaker}
use Rattle.std.specs.Prelude.{All}
use Rattle.mp_names.specs.Logs.{Log}
use Rattle.mp_board.specs.Boards.{Posted}
use Rattle.mp_seat.specs.Seats.{IsIdle, LockIdentity, SeatState}
use Rattle.mp_threads_hub.specs.Hubs.{AreNewHubs, AreOfOneLock, shared_version}
use Rattle.mp_threads_hub.proofs.Seats.{are_new_hubs, new_are_idle, of_one_lock}
use Rattle.mp_threads_hub.proofs.opening.open_hubs.Goals as goal

pub seat_hubs-requires : goal.seat_hubs-requires
seat_hubs-requires g c =
    subst (λ (lock : LockIdentity). All (IsIdle lock) c.in_ok-lock.seats.items) (sym c.in_ok-lock-2.ensures.ok) (new_are_idle _ _ _ _ c.in_ok-lock.ensures.seats)

pub returns-clause-many : goal.returns-clause-many
returns-clause-many g c =
    IfOk-weaker c.seat_hubs.result _ _ (λ hubs same. ap length same ∙ c.in_ok-lock.ensures.many) c.seat_hubs.ensures

pub returns-clause-new : goal.returns-clause-new
returns-clause-new g c =
    let logs = ap (λ (b : Posted). b.logs) c.in_ok-shared.ensures in
    let version = ap shared_version c.in_ok-shared.ensures in
    let new = are_new_hubs _ _ _ _ c.in_ok-lock.ensures.seats (c.in_ok-lock.ensures.lock ∙ sym (ap length logs ∙ c.requires.logs)) in
    IfOk-weaker c.seat_hubs.result _ _
    (λ hubs same. subst (λ (l : List (SeatState Log)). AreNewHubs c.args.board.logs (shared_version c.args.board) l) (sym same) (rw (logs, version) at new))
    c.seat_hubs.ensures

pub returns-clause-one_lock : goal.returns-clause-one_lock
returns-clause-one_lock g c =
    let one = of_one_lock _ _ _ _ c.in_ok-lock.ensures.seats in
    IfOk-weaker c.seat_hubs.result _ _ (λ hubs same. subst AreOfOneLock (sym same) one) c.seat_hubs.ensures
