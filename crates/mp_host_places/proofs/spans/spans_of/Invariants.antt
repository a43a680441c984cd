-- The states so far stand within their spans.
use Rattle.std.proofs.Common.{◌≡◌, length, take}
use Rattle.mp_host_places.specs.Spans.{AreSpans, bins_of}
use Rattle.mp_host_places.proofs.spans.spans_of.Given as goal

abbrev pub invariant-loop-at : goal.invariant-loop-at
invariant-loop-at g l = record {
  spans : AreSpans l.spans (bins_of (take l.at l.held));
  length : length l.spans ≡ l.bins;
}
