-- The records in front are those of the first key.
use Rattle.std.proofs.Common.{◌==◌, sym, arith}
use Rattle.std.proofs.lemmas.List.Sums.{prefix_len-le-length}
use Rattle.mp_model.specs.declared.record.Rec.{Rec}
use Rattle.mp_fold.proofs.Cuts.{begins, cut_at}
use Rattle.mp_fold.proofs.Keys.{key_of, keys_more, own_is}
use Rattle.mp_fold.proofs.stages.fold_keys.Goals as goal

pub split_at-requires : goal.split_at-requires
split_at-requires g c = omega (arith, c.run_of_key.ensures, prefix_len-le-length (λ (r : Rec). r.key == c.in-Some.first.now.key) c.loop-first.recs.now)

pub fold_key-requires-clause-ordered : goal.fold_key-requires-clause-ordered
fold_key-requires-clause-ordered g c κs within =
    let laws = g.met.Q.Query g.world.𝓛 g.world.𝓜 g.world.𝓡 ((λ s x. x), (λ x. x), (λ x. x), λ x. x) in
    let fresh = laws.begins_fresh (g.Q.Query.values c.args.query.now) in
    let first = begins key_of c.in-Some.first.now c.loop-first.recs.now (sym c.in-Some.ensures.value) in
    rw (own_is fresh c.loop-first.invariant c.in-Some.first.now.key first c.split_at.result.0.now c.split_at.result.1.now (cut_at c.run_of_key.ensures c.split_at.ensures.front c.split_at.ensures.back))
    (c.loop-first.invariant.by_time c.in-Some.first.now.key)

pub fold_key-requires-clause-fits : goal.fold_key-requires-clause-fits
fold_key-requires-clause-fits g c κs within =
    let laws = g.met.Q.Query g.world.𝓛 g.world.𝓜 g.world.𝓡 ((λ s x. x), (λ x. x), (λ x. x), λ x. x) in
    let fresh = laws.begins_fresh (g.Q.Query.values c.args.query.now) in
    let first = begins key_of c.in-Some.first.now c.loop-first.recs.now (sym c.in-Some.ensures.value) in
    rw (own_is fresh c.loop-first.invariant c.in-Some.first.now.key first c.split_at.result.0.now c.split_at.result.1.now (cut_at c.run_of_key.ensures c.split_at.ensures.front c.split_at.ensures.back))
    (c.loop-first.invariant.fits c.in-Some.first.now.key)

pub loop-first-preserved : goal.loop-first-preserved
loop-first-preserved g c =
    let laws = g.met.Q.Query g.world.𝓛 g.world.𝓜 g.world.𝓡 ((λ s x. x), (λ x. x), (λ x. x), λ x. x) in
    let fresh = laws.begins_fresh (g.Q.Query.values c.args.query.now) in
    let first = begins key_of c.in-Some.first.now c.loop-first.recs.now (sym c.in-Some.ensures.value) in
    keys_more fresh c.loop-first.invariant c.in-Some.first.now.key first c.split_at.result.0.now c.split_at.result.1.now (cut_at c.run_of_key.ensures c.split_at.ensures.front c.split_at.ensures.back)
    c.fold_key.new.outputs.items c.in_ok-fold_key.ensures
