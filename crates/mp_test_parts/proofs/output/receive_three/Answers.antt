use Rattle.std.proofs.Common.{lit<, refl}
use Rattle.mp_test_parts.proofs.output.receive_three.Goals as goal

-- it is the third row of the answer, which stands key by key
pub receive-requires-2-after_bounds : goal.receive-requires-2-after_bounds
receive-requires-2-after_bounds g c = λ κs b. rw (c.in_ok-fields_of-2.ensures, c.requires) (2, lit< tt, refl)

-- it is the second row
pub receive-requires-3-after_bounds : goal.receive-requires-3-after_bounds
receive-requires-3-after_bounds g c = λ κs b. rw (c.in_ok-fields_of-3.ensures, c.requires) (1, lit< tt, refl)
