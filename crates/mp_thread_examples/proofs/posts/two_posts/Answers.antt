use Rattle.std.proofs.Common.{ap, slice_get}
use Rattle.mp_seat.proofs.Places.{two_popped}
use Rattle.mp_thread_examples.proofs.posts.two_posts.Goals as goal

pub returns : goal.returns
returns g c =
    let made = c.in_ok-posts.ensures in
    let pair = two_popped _ _ _ _ _ c.in-Some.ensures.items c.in-Some-pop.ensures.items made.many in
    let first = ap (λ l. slice_get l 0) pair in
    let second = ap (λ l. slice_get l 1) pair in
    record {
      first = made.new 0 c.in-Some-pop.first first;
      second = made.new 1 c.in-Some.second second;
      first_stands = made.stand 0 c.in-Some-pop.first first 0 1;
      second_stands = made.stand 1 c.in-Some.second second 0 1;
    }
