-- So many shares of no events.
use Rattle.std.proofs.Common.{◌≡◌, [], map}
use Rattle.std.specs.List.{range_with_len}
use Rattle.mp_shares.proofs.shares.empty_shares.Given as goal

abbrev pub invariant-loop : goal.invariant-loop
invariant-loop l = l.shares.items ≡ map (λ _. []) (range_with_len 0 l.counter)
