use Rattle.std.proofs.Common.{◌≡◌, ◌≤◌, take}
use Rattle.mp_text.specs.Numbers.{value_of}
use Rattle.mp_text.proofs.numbers.value_within.Given as goal

abbrev pub invariant-loop-digit : goal.invariant-loop-digit
invariant-loop-digit l = record {
  worth : l.value ≡ value_of (take l.digit-index l.digits);
  within : l.value ≤ l.max;
}
