-- The times so far, with those that the records that are left post, are all.
use Rattle.std.proofs.Common.{◌≡◌, ◌++◌, drop}
use Rattle.std.specs.List.{flat_map}
use Rattle.mp_fold.proofs.timeline.posts_of.Given as goal

abbrev pub invariant-loop-rec : goal.invariant-loop-rec
invariant-loop-rec g l =
    let q = g.Q.Query.facts (g.Q.Query.values l.query) in
    l.times.items ++ flat_map (q.posts l.stage) (drop l.rec-index l.recs) ≡ flat_map (q.posts l.stage) l.recs
