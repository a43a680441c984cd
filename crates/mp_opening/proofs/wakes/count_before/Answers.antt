use Rattle.std.proofs.Common.{of_calls, rules, ℕ}
use Rattle.std.proofs.lemmas.Cmp.{nat_cmp_total}
use Rattle.std.proofs.lemmas.Fn.{always_returns_same}
use Rattle.mp_layout.specs.Bins.{bin_of_key}
use Rattle.mp_opening.proofs.Runs.{goes_before, parted_before}
use Rattle.mp_opening.proofs.wakes.count_before.Goals as goal

pub returns-clause-point : goal.returns-clause-point
returns-clause-point c = λ up.
    let key : ℕ × ℕ → ℕ = λ w. bin_of_key w.1 c.args.bins in
    c.partition_point.ensures.partitioned (goes_before nat_cmp_total key c.args.bin) (always_returns_same _ _ _ (λ a r f k. search (rules, of_calls))) (parted_before nat_cmp_total key c.args.bin c.args.wakes.now up)
