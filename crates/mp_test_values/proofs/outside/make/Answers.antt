use Rattle.std.proofs.Common.{◌∙◌}
use Rattle.mp_outside.proofs.FileLemmas.{there_begun, with_more-with_file}
use Rattle.mp_test_values.proofs.outside.make.Goals as goal

pub append_piece-requires : goal.append_piece-requires
append_piece-requires g c = there_begun _ _ _ _ c.in_ok-begin.ensures.begun

pub returns : goal.returns
returns g c = c.in_ok-append_piece.ensures.whole ∙ (rw c.in_ok-begin.ensures.begun (with_more-with_file _ _ _ _))
