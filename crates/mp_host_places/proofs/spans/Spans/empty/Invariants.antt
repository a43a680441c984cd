-- There are as many spans as bins so far.
use Rattle.std.proofs.Common.{◌≡◌, length}
use Rattle.mp_host_places.proofs.spans.Spans.empty.Given as goal

abbrev pub invariant-loop-bin : goal.invariant-loop-bin
invariant-loop-bin l = length l.spans.items ≡ l._bin
