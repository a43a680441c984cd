-- A sort of numbers.
use Rattle.std.proofs.Common.{ℕ}
use Rattle.std.proofs.lemmas.List.Sorted.{IsNonDecreasingBy-from_sort}
use Rattle.mp_fold.proofs.timeline.posted_times.Goals as goal

pub returns-clause-ascending : goal.returns-clause-ascending
returns-clause-ascending g c = IsNonDecreasingBy-from_sort (λ (t : ℕ). t) c.sort_unstable.new.self.items c.sort_unstable.ensures.sorted
