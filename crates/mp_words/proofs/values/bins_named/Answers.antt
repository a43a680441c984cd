-- One bit set, up to 4096.
use Rattle.std.proofs.Common.{rules, arith}
use Rattle.mp_words.proofs.Powers.{power}
use Rattle.mp_words.proofs.values.bins_named.Goals as goal

pub returns-in-Some-clause-within : goal.returns-in-Some-clause-within
returns-in-Some-clause-within c =
    let found = power 13 c.in-Some.bins (grind (arith, c.in-Some.ensures.within)) (search rules) in
    (found.0, omega (arith, found.1), found.2)
