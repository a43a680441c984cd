-- The posts of the records so far are counted.
use Rattle.std.proofs.Common.{◌≡◌, ◌-◌, ◌^◌, length, min, take}
use Rattle.std.specs.List.{flat_map}
use Rattle.mp_host_states.proofs.posts.count_posts.Given as goal

abbrev pub invariant-loop-rec : goal.invariant-loop-rec
invariant-loop-rec g l = l.count ≡ min (length (flat_map ((g.Q.Query.facts (g.Q.Query.values l.query)).posts l.stage) (take l.rec-index l.recs))) (2 ^ 64 - 1)
