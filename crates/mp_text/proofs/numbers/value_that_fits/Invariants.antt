use Rattle.std.proofs.Common.{◌≡◌, take}
use Rattle.mp_text.specs.Numbers.{value_of}
use Rattle.mp_text.proofs.NumberLemmas.{DigitsBelow}
use Rattle.mp_text.proofs.numbers.value_that_fits.Given as goal

abbrev pub invariant-loop-byte : goal.invariant-loop-byte
invariant-loop-byte l = record {
  digits : DigitsBelow l.text l.byte-index;
  worth : l.value ≡ value_of (take l.byte-index l.text);
}
