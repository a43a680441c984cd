-- What is read, with the words that are left, is all; each turn takes a word.
use Rattle.std.proofs.Common.{◌≡◌, length}
use Rattle.mp_saved.specs.Numbers.{numbers_in, numbers_said}
use Rattle.mp_saved.proofs.Reading.{read_with}
use Rattle.mp_saved.proofs.numbers.read_numbers.Given as goal

abbrev pub invariant-loop-word : goal.invariant-loop-word
invariant-loop-word l = read_with l.numbers.items (numbers_said l.words) ≡ numbers_in l.text

abbrev pub decreases-loop-word : goal.decreases-loop-word
decreases-loop-word l = length l.words
