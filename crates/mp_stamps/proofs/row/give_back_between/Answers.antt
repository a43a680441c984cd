-- So many pieces are given back.
use Rattle.std.proofs.Common.{◌≡◌, ◌∙◌, ◌≤◌, ◌<◌, ap, sym, subst, true, false, [], length, inr, ℕ, arith, rules}
use Rattle.std.proofs.lemmas.List.{get_or_default}
use Rattle.mp_stamps.specs.Rows.{GivesBack, IsZeroAt, PieceState, piece_at}
use Rattle.mp_stamps.proofs.Joined.{one_more_back}
use Rattle.mp_stamps.proofs.row.give_back_between.Goals as goal

pub give_back-requires : goal.give_back-requires
give_back-requires c =
    let old = c.args.pieces.now.items in
    let n = c.loop-place.place in
    let ps = c.loop-place.pieces.items in
    let before : n < c.args.to = search rules in
    let inside : n < length ps = omega (arith, before, c.loop-place.invariant.long, c.requires.inside) in
    let piece : c.index_mut.result.now ≡ piece_at old n =
    c.index_mut.ensures.value ∙ get_or_default ps n c.index_mut.result.now (record { kept = true; counts = [] }) inside
    ∙ c.loop-place.invariant.others n (inr (omega arith)) in
    λ k. subst (λ (p : PieceState). IsZeroAt p.counts k) (sym piece) (c.requires.zero n before k)

pub loop-place-preserved : goal.loop-place-preserved
loop-place-preserved c =
    let old = c.args.pieces.now.items in
    let n = c.loop-place.place in
    let ps = c.loop-place.pieces.items in
    let before : n < c.args.to = search rules in
    let after : c.args.from ≤ n = search rules in
    let inside : n < length old = omega (arith, before, c.requires.inside) in
    let there : n < length ps = omega (arith, inside, c.loop-place.invariant.long) in
    let piece : c.index_mut.result.now ≡ piece_at ps n = c.index_mut.ensures.value ∙ get_or_default ps n c.index_mut.result.now (record { kept = true; counts = [] }) there in
    search (one_more_back c.args.from n old ps c.give_back.new.self c.loop-place.invariant after inside (c.give_back.ensures.given_back ∙ ap (λ (p : PieceState). record { kept = false; counts = p.counts }) piece), rules)

pub returns : goal.returns
returns c =
    let end : c.loop-place.place ≡ c.args.to = omega (arith, c.loop-place-test.false, c.loop-place.auto.place-end c.requires.order) in
    subst (λ (n : ℕ). GivesBack c.args.from n c.args.pieces.now.items c.loop-place.pieces.items) end c.loop-place.invariant
