use Rattle.std.proofs.Common.{◌≡◌, ◌+◌, ◌*◌, ◌++◌, ap, arith, get_or, length, length-append, List, ℕ, refl}
use Rattle.mp_names.specs.declared.controls.Control.{Control}
use Rattle.mp_plans.specs.Drains.{bins_of, owner_in, spread, worker_of_turn}
use Rattle.mp_plans.proofs.Appended.{one_more, so_long}
use Rattle.mp_plans.proofs.Drained.{bins_told, one_each_turn, told_in_time}
use Rattle.mp_plans.proofs.drains.drain.Goals as goal

pub returns-then-count-clause-too_many : goal.returns-then-count-clause-too_many
returns-then-count-clause-too_many c =
    let a = c.args in
    let its = c.in_ok-bins.bins.items in
    let told : its ≡ bins_of (owner_in a.owners.now.layout a.list.now.items a.stage a.time) a.shape.bins a.worker =
    bins_told a.list.now.items a.owners.now c.requires.notes c.requires.noted a.stage a.time a.shape.bins a.worker its c.in_ok-bins.ensures in
    let more = length-append a.list.now.items (spread a.shape a.time a.gap a.stage a.worker its) in
    let count : c.len.result + c.len-2.result ≡ length (a.list.now.items ++ spread a.shape a.time a.gap a.stage a.worker its) =
    omega (arith, c.len.ensures, c.len-2.ensures, more, one_each_turn a.shape a.time a.gap a.stage a.worker its) in
    rw (← told) (count, omega (arith, count, c.if-count.true))

pub overflow_mul-turn : goal.overflow_mul-turn
overflow_mul-turn c =
    let a = c.args in
    let timely = told_in_time a.list.now.items a.owners.now c.requires.notes c.requires.noted a.stage a.time a.gap a.shape.bins a.worker c.loop-turn.turn c.in_ok-bins.bins.items
    c.in_ok-bins.ensures (omega (arith, c.loop-turn-test.true, c.deref-bin-items.ensures.len)) c.requires.last in
    omega (arith, timely)

pub overflow_add-time : goal.overflow_add-time
overflow_add-time c =
    let a = c.args in
    let timely = told_in_time a.list.now.items a.owners.now c.requires.notes c.requires.noted a.stage a.time a.gap a.shape.bins a.worker c.loop-turn.turn c.in_ok-bins.bins.items
    c.in_ok-bins.ensures (omega (arith, c.loop-turn-test.true, c.deref-bin-items.ensures.len)) c.requires.last in
    omega (arith, timely)

pub loop-turn-preserved : goal.loop-turn-preserved
loop-turn-preserved c =
    let a = c.args in
    let record_of : ℕ → Control = λ turn. record { time = a.time + turn * a.gap; stage = a.stage; bin = get_or c.deref-bin-items.result.now turn 0; worker = worker_of_turn a.shape a.worker turn } in (
      one_more record_of _ _ _ c.loop-turn.turn _ c.loop-turn.invariant.0 c.push_reserved.ensures.items (rw (c.worker_of_turn.ensures) refl),
      omega (arith, c.loop-turn.invariant.1, c.push_reserved.ensures.len, c.push_reserved.ensures.capacity, c.loop-turn-test.true),
    )

pub returns-clause-appended : goal.returns-clause-appended
returns-clause-appended c =
    let a = c.args in
    let its = c.in_ok-bins.bins.items in
    let told = bins_told a.list.now.items a.owners.now c.requires.notes c.requires.noted a.stage a.time a.shape.bins a.worker its c.in_ok-bins.ensures in
    let ended : c.loop-turn.turn ≡ length c.deref-bin-items.result.now = omega (arith, c.loop-turn-test.false, c.loop-turn.auto.turn-end) in
    rw (← told, ← c.deref-bin-items.ensures.value, ← ended, ← c.in_ok-reserve.ensures.items) c.loop-turn.invariant.0

pub returns-clause-few : goal.returns-clause-few
returns-clause-few c =
    let long = so_long _ _ _ c.loop-turn.turn c.loop-turn.invariant.0 in
    let same = ap (λ (l : List Control). length l) c.in_ok-reserve.ensures.items in
    omega (arith, long, same, c.len.ensures, c.len-2.ensures, c.if-count.false, c.loop-turn.auto.turn-end, c.deref-bin-items.ensures.len)
