-- The times so far are added.
use Rattle.std.proofs.Common.{◌≡◌, ◌++◌, map, take}
use Rattle.mp_outline_lists.proofs.moments.add_posts.Given as goal

abbrev pub invariant-loop-time : goal.invariant-loop-time
invariant-loop-time l = l.moments.items ≡ l.initial.moments.items ++ map (λ u. record { time = u; key = l.key }) (take l.time-index l.posts)
