use Rattle.std.proofs.Common.{lit<, refl}
use Rattle.mp_test_parts.proofs.output.hold_two.Goals as goal

-- it is the last row of the answer, which stands key by key
pub hold-requires-2-after_bounds : goal.hold-requires-2-after_bounds
hold-requires-2-after_bounds g c = λ κs b. rw (c.in_ok-row_at-2.ensures, c.requires) (2, lit< tt, refl)
