-- One more record, and what it posts.
use Rattle.std.proofs.Common.{◌≡◌, ◌∙◌, ◌++◌, ◌∷◌, [], ap, length, arith, rules, sym, List, ℕ}
use Rattle.mp_job_lists.proofs.Cuts.{cut_more, ends_more, map_next}
use Rattle.mp_job_lists.proofs.posts.Posts.of.Goals as goal

pub loop-rec-preserved : goal.loop-rec-preserved
loop-rec-preserved g c =
    let q = g.Q.Query.facts (g.Q.Query.values c.args.query.now) in
    let times = c.loop-rec.times.items in
    let ends = c.loop-rec.ends.items in
    let more = c.as_slice.result.now in
    let before = c.loop-rec.invariant in
    let grew : c.extend_from_slice.new.self.items ≡ times ++ more = search rules in
    let pushed : c.push.new.self.items ≡ ends ++ length (times ++ more) ∷ [] = search rules in
    let posts : more ≡ q.posts 0 c.rec-item.result = search rules in
    let next = map_next (q.posts 0) c.args.recs.now c.loop-rec.rec-index c.rec-item.result (omega arith) (search rules) in
    record {
      lists = rw (pushed, grew) (cut_more 0 times more ends before.ends ∙ ap (λ (ls : List (List ℕ)). ls ++ more ∷ []) before.lists ∙ rw posts (sym next));
      ends = rw (pushed, grew) (ends_more 0 times more ends before.ends);
    }
