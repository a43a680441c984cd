-- The posts of the records so far are listed.
use Rattle.std.proofs.Common.{◌≡◌, ◌++◌, take}
use Rattle.std.specs.List.{flat_map}
use Rattle.mp_host_states.proofs.posts.add_posts.Given as goal

abbrev pub invariant-loop-rec : goal.invariant-loop-rec
invariant-loop-rec g l = l.times.items ≡ l.initial.times.items ++ flat_map ((g.Q.Query.facts (g.Q.Query.values l.query)).posts l.stage) (take l.rec-index l.recs)
