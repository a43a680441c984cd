-- What stands before the place, which is within the text, are digits, which are worth the value as long as they are few.
use Rattle.std.proofs.Common.{◌≡◌, ◌<◌, ◌≤◌, length, take}
use Rattle.mp_text.specs.Numbers.{value_of}
use Rattle.mp_text.proofs.NumberLemmas.{DigitsBelow}
use Rattle.mp_events.proofs.usual.number_before.Given as goal

abbrev pub invariant-loop-place : goal.invariant-loop-place
invariant-loop-place l = record {
  inside : l.place ≤ length l.text;
  digits : DigitsBelow l.text l.place;
  worth : l.place < 19 → l.value ≡ value_of (take l.place l.text);
}
