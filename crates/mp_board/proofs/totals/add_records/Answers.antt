use Rattle.std.proofs.Common.{◌+◌, ◌-◌, ◌∙◌, ◌∷◌, List, [], ℕ, ap, arith, length, pos, refl, sym, take}
use Rattle.mp_names.specs.declared.locations.Loc.TheVariants.{Source}
use Rattle.mp_names.specs.declared.pointstamps.Change.{Change}
use Rattle.mp_stamps.specs.Counts.{count_in}
use Rattle.mp_rows.specs.Entries.{change_at, sum_at}
use Rattle.mp_rows.specs.Opening.{source_entries, time_at}
use Rattle.mp_rows.proofs.Sources.{mapped_more, time_of_read}
use Rattle.mp_rows.proofs.Sums.{sum_at-append}
use Rattle.mp_board.proofs.Adding.{counted_along, counted_on, fits_fewer, more_parts, room_less, room_more, room_none}
use Rattle.mp_board.proofs.totals.add_records.Goals as goal

pub add_one-requires : goal.add_one-requires
add_one-requires c =
    let l = c.loop-index in
    let n = length c.args.share.now in
    let m = n - l.index-index in
    λ loc t. fits_fewer (m + 0) 1 (count_in l.counts loc t) (omega (arith, c.loop-index-test.true)) (l.invariant.room m 0 (omega (arith, c.loop-index-test.true)) (λ a u. room_more n (count_in c.args.counts.now a u) (c.requires.room a u)) loc t)

pub loop-index-preserved : goal.loop-index-preserved
loop-index-preserved c =
    let l = c.loop-index in
    let old = c.args.counts.now in
    let events = c.args.events.now in
    let share = c.args.share.now in
    let k = l.index-index in
    let entry : ℕ → Change = λ t. change_at Source t (pos 1) in
    let read = time_of_read events _ c.index-events-index.result (c.requires.inside k 0 c.loop-index-test.true) c.index-events-index.is in
    let more = mapped_more (λ (i : ℕ). entry (time_at events i)) share k 0 [] (source_entries events (take k share)) _ c.change_of.result c.loop-index-test.true refl refl (c.change_of.ensures ∙ ap entry read) in
    record {
      counted = λ loc t h. more_parts _ _ (count_in old loc t) (sum_at (source_entries events (take k share)) loc t) _ _ (c.add_one.ensures.counted loc t (counted_on old l.counts loc t l.invariant.same h)) (l.invariant.counted loc t h) (sym (ap (λ (xs : List Change). sum_at xs loc t) more) ∙ sum_at-append (source_entries events (take k share)) (c.change_of.result ∷ []) loc t);
      dropped = λ loc t h. c.add_one.ensures.dropped loc t (λ j. h (counted_along old l.counts loc t l.invariant.same j)) ∙ l.invariant.dropped loc t h;
      same = record { stages = c.add_one.ensures.same.stages ∙ l.invariant.same.stages; times = c.add_one.ensures.same.times ∙ l.invariant.same.times; low = c.add_one.ensures.same.low ∙ l.invariant.same.low };
      room = λ m j e h. c.add_one.ensures.room (m + j) (room_less l.counts m j (l.invariant.room (1 + m) j (omega (arith, e)) h));
    }

pub returns-clause-room : goal.returns-clause-room
returns-clause-room c =
    let l = c.loop-index in
    λ k h. room_none l.counts k (l.invariant.room 0 k (omega (arith, c.loop-index-test.false)) h)
