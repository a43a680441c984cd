-- None of those that were passed comes after the moment.
use Rattle.std.proofs.Common.{◌≡◌, ℕ, ◌<◌, false, get_or}
use Rattle.mp_chart.specs.declared.entry.Entry.{Entry}
use Rattle.mp_group_lists.specs.Moments.{comes_before, moment_of}
use Rattle.mp_group_lists.proofs.moments.run_upto.Given as goal

abbrev pub invariant-loop-count : goal.invariant-loop-count
invariant-loop-count l = (k : ℕ) (d : Entry) → k < l.count → comes_before l.moment (moment_of (get_or l.entries k d).name) ≡ false
