use Rattle.std.proofs.Common.{◌≡◌, ◌+◌, ◌-◌, ap, arith, length, ℕ, List, sym, refl, ◌∙◌}
use Rattle.mp_names.specs.declared.controls.Control.{Control}
use Rattle.mp_plans.specs.Plans.{time_by, worker_by}
use Rattle.mp_plans.proofs.Appended.{one_more, so_long}
use Rattle.mp_plans.proofs.Counted.{more_by}
use Rattle.mp_plans.proofs.Times.{not_later}
use Rattle.mp_plans.proofs.plans.append.Goals as goal

pub time_of-requires-clause-last : goal.time_of-requires-clause-last
time_of-requires-clause-last c =
    let le = not_later c.args.pace c.args.time c.loop-bin.bin (c.args.shape.bins - 1) c.requires.pace (omega (arith, c.loop-bin-test.true)) in omega (arith, le, c.requires.last)

pub loop-bin-preserved : goal.loop-bin-preserved
loop-bin-preserved c =
    let record_at : ℕ → Control = λ bin. record { time = time_by c.args.pace c.args.time bin; stage = c.args.stage; bin = bin; worker = worker_by c.args.shape c.args.shift bin } in
    (one_more record_at _ _ _ c.loop-bin.bin _ c.loop-bin.invariant.0 c.push_reserved.ensures.items (rw (c.time_of.ensures, c.worker_of.ensures) refl), omega (arith, c.loop-bin.invariant.1, c.push_reserved.ensures.len, c.push_reserved.ensures.capacity, c.loop-bin-test.true))

pub returns-then-count-clause-too_many : goal.returns-then-count-clause-too_many
returns-then-count-clause-too_many c =
    let more = more_by c.args.shape c.args.stage c.args.shift (time_by c.args.pace c.args.time) c.args.list.now.items in
    let count : c.len.result + c.from.result ≡ length c.args.list.now.items + c.args.shape.bins = omega (arith, c.len.ensures, c.from.ensures) in
    (count ∙ sym more, omega (arith, more, count, c.if-count.true))

pub returns-clause-few : goal.returns-clause-few
returns-clause-few c =
    let long = so_long _ _ _ c.loop-bin.bin c.loop-bin.invariant.0 in
    let same = ap (λ (l : List Control). length l) c.in_ok-reserve.ensures.items in
    omega (arith, long, same, c.len.ensures, c.from.ensures, c.if-count.false, c.loop-bin.auto.bin-end)
