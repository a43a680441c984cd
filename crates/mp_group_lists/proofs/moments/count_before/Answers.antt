-- Where the entries are by moments, those before a moment stand in front.
use Rattle.std.proofs.Common.{of_calls, rules}
use Rattle.std.proofs.lemmas.Fn.{always_returns_same}
use Rattle.mp_group_lists.proofs.Runs.{goes_before, parted_before}
use Rattle.mp_group_lists.proofs.moments.count_before.Goals as goal

pub returns-clause-point : goal.returns-clause-point
returns-clause-point c = λ by.
    c.partition_point.ensures.partitioned (goes_before c.args.moment) (always_returns_same _ _ _ (λ a r f k. search (rules, of_calls))) (parted_before c.args.moment c.args.entries.now by)
