-- The lists so far are those of the records so far.
use Rattle.std.proofs.Common.{◌≡◌, length, map, take}
use Rattle.mp_job_lists.specs.Cut.{EndAt, cut}
use Rattle.mp_job_lists.proofs.posts.Posts.of.Given as goal

abbrev pub invariant-loop-rec : goal.invariant-loop-rec
invariant-loop-rec g l =
    let q = g.Q.Query.facts (g.Q.Query.values l.query) in record {
      lists : cut 0 l.times.items l.ends.items ≡ map (q.posts 0) (take l.rec-index l.recs);
      ends : EndAt 0 l.ends.items (length l.times.items);
    }
