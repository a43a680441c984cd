use Rattle.std.proofs.Common.{◌≡◌, ◌+◌, vec_len, arith}
use Rattle.std.proofs.lemmas.Grind.{common_steps}
use Rattle.mp_outside.proofs.ReadLemmas.{next_part_told}
use Rattle.mp_outside.proofs.read.read_part.Goals as goal

pub returns-clause-so_far : goal.returns-clause-so_far
returns-clause-so_far g c =
    let len : vec_len c.extend_from_slice.new.self ≡ vec_len c.args.bytes.now + c.in_ok-taken.taken = grind (arith, common_steps, c.in_ok-extend_from_slice.ensures.len, c.in_ok-taken.ensures.within, c.read.auto.into) in
    next_part_told _ _ _ _ _ _ _ _ _ c.len.ensures len c.in_ok-extend_from_slice.ensures.items c.requires.so_far c.in_ok-taken.ensures.next
