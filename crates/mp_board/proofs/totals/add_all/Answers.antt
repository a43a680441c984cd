use Rattle.std.proofs.Common.{◌+◌, ◌-◌, ◌∙◌, arith, length, sym}
use Rattle.std.proofs.lemmas.Bool.{false≢true}
use Rattle.mp_stamps.specs.Counts.{count_in}
use Rattle.mp_board.proofs.Adding.{counted_along, counted_on, fits_fewer, more_counted, room_less, room_more, room_none}
use Rattle.mp_board.proofs.totals.add_all.Goals as goal
use Rattle.mp_board.proofs.totals.add_all.Goals.{then-add_one, else-add_one}

pub add_one-requires : goal.add_one-requires
add_one-requires c =
    let l = c.loop-change in
    let n = length c.args.changes.now in
    let m = n - l.change-index in
    λ loc t. fits_fewer (m + 0) 1 (count_in l.counts loc t) (omega (arith, c.loop-change-test.true)) (l.invariant.room m 0 (omega (arith, c.loop-change-test.true)) (λ a u. room_more n (count_in c.args.counts.now a u) (c.requires a u)) loc t)

pub loop-change-preserved : goal.loop-change-preserved
loop-change-preserved c =
    let l = c.loop-change in
    let old = c.args.counts.now in
    record {
      counted = λ loc t h. more_counted c.args.changes.now l.change-index _ loc t (count_in old loc t) (count_in l.counts loc t) (count_in c.add_one.new.counts loc t) c.loop-change-test.true (c.add_one.ensures.counted loc t (counted_on old l.counts loc t l.invariant.same h)) (l.invariant.counted loc t h);
      dropped = λ loc t h. c.add_one.ensures.dropped loc t (λ k. h (counted_along old l.counts loc t l.invariant.same k)) ∙ l.invariant.dropped loc t h;
      same = record { stages = c.add_one.ensures.same.stages ∙ l.invariant.same.stages; times = c.add_one.ensures.same.times ∙ l.invariant.same.times; low = c.add_one.ensures.same.low ∙ l.invariant.same.low };
      still = elim c.if-add_one.branch [
        | then-add_one w ↦ λ e. absurd (false≢true (sym e ∙ w.moved-is ∙ w.if-add_one.true))
        | else-add_one w ↦ λ e at f h. c.add_one.ensures.still w.if-add_one.false at f (l.invariant.still (sym w.moved-is ∙ e) at f h)
      ];
      room = λ m k e h. c.add_one.ensures.room (m + k) (room_less l.counts m k (l.invariant.room (1 + m) k (omega (arith, e)) h));
    }

pub returns-clause-room : goal.returns-clause-room
returns-clause-room c =
    let l = c.loop-change in
    λ k h. room_none l.counts k (l.invariant.room 0 k (omega (arith, c.loop-change-test.false)) h)
