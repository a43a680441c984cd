use Rattle.std.proofs.Common.{of_calls, rules, ℕ}
use Rattle.std.proofs.lemmas.Fn.{always_returns_same}
use Rattle.mp_opening.specs.ByBin.{rank_of_place}
use Rattle.mp_opening.proofs.Orders.{pair_total}
use Rattle.mp_opening.proofs.Runs.{goes_upto, parted_upto}
use Rattle.mp_opening.proofs.places.count_upto.Goals as goal

pub returns-clause-point : goal.returns-clause-point
returns-clause-point c = λ up.
    let bin : ℕ × ℕ = (c.args.stage, c.args.bin) in
    c.partition_point.ensures.partitioned (goes_upto pair_total rank_of_place bin) (always_returns_same _ _ _ (λ a r f k. search (rules, of_calls))) (parted_upto pair_total rank_of_place bin c.args.places.now up)
