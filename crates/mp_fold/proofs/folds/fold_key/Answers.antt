-- Each group is the one of the first time that is left.
use Rattle.std.proofs.Common.{◌==◌, ℕ, not, ap, arith}
use Rattle.std.proofs.lemmas.List.Sums.{prefix_len-le-length}
use Rattle.mp_model.specs.declared.record.Rec.{Rec}
use Rattle.mp_fold.proofs.Cuts.{cut_at}
use Rattle.mp_fold.proofs.Groups.{begin_fold, end_fold, fits_here, fold_more}
use Rattle.mp_fold.proofs.folds.fold_key.Goals as goal

pub split_at-requires : goal.split_at-requires
split_at-requires g c = omega (arith, c.run_of_time.ensures, prefix_len-le-length (λ (r : Rec). r.time == c.in-Some.time) c.loop-time.recs.now)

pub split_at-requires-in-Some : goal.split_at-requires-in-Some
split_at-requires-in-Some g c = omega (arith, c.run_of_posts.ensures, prefix_len-le-length (λ (t : ℕ). t == c.in-Some.time) c.loop-time.posts.now)

pub loop-time-init : goal.loop-time-init
loop-time-init g c =
    let laws = g.met.Q.Query g.world.𝓛 g.world.𝓜 g.world.𝓡 ((λ s x. x), (λ x. x), (λ x. x), λ x. x) in
    let values = g.Q.Query.values c.args.query.now in
    let posted = c.in_ok-posted.ensures in
    rw (c.as_slice-posts.ensures.value, c.fresh-cell.ensures)
    (begin_fold (g.Q.Query.facts values) (laws.begins_fresh values) c.args.stage c.args.key _ c.args.recs.now c.in_ok-posted.posted.items c.requires.ordered posted.ascending posted.same c.requires.fits)

pub step-requires : goal.step-requires
step-requires g c =
    fits_here c.loop-time.invariant c.in-Some.time c.in-Some.ensures
    c.split_at.result.0.now c.split_at.result.1.now c.split_at-in-Some.result.0.now c.split_at-in-Some.result.1.now
    (cut_at c.run_of_time.ensures c.split_at.ensures.front c.split_at.ensures.back) (cut_at c.run_of_posts.ensures c.split_at-in-Some.ensures.front c.split_at-in-Some.ensures.back)
    c.new-group.result (not c.is_empty.result) c.new-group.ensures (ap not c.is_empty.ensures)

pub loop-time-preserved : goal.loop-time-preserved
loop-time-preserved g c =
    fold_more c.loop-time.invariant c.in-Some.time c.in-Some.ensures
    c.split_at.result.0.now c.split_at.result.1.now c.split_at-in-Some.result.0.now c.split_at-in-Some.result.1.now
    (cut_at c.run_of_time.ensures c.split_at.ensures.front c.split_at.ensures.back) (cut_at c.run_of_posts.ensures c.split_at-in-Some.ensures.front c.split_at-in-Some.ensures.back)
    c.new-group.result (not c.is_empty.result) c.new-group.ensures (ap not c.is_empty.ensures)
    c.in_ok-values.values.items _ c.push_outputs.new.outputs.items c.in_ok-values.ensures.outputs c.in_ok-values.ensures.cell c.in_ok-push_outputs.ensures

pub returns : goal.returns
returns g c =
    let none = rw c.in_default.is at c.first_time.ensures in
    end_fold c.loop-time.invariant none.0 none.1
