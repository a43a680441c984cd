-- The count that changes stands in its piece.
use Rattle.std.proofs.Common.{◌≡◌, ◌∙◌, ◌*◌, ◌/◌, ◌%◌, ◌<◌, ◌≤◌, ap, sym, subst, true, [], length, pos, get_or, set, ℤ, ◌+ℤ◌, List, FitsSigned, SFits, rules, arith}
use Rattle.std.specs.Int.{w128, w64}
use Rattle.std.proofs.lemmas.Int.{to_z-of_z}
use Rattle.std.proofs.lemmas.List.{get_or_default, length-set}
use Rattle.mp_stamps.specs.Rows.{PieceState, RowState, is_outstanding, joined, piece_at}
use Rattle.mp_stamps.proofs.Joined.{added_there, count_at_split, count_then, joined_length, joined_then, span_then}
use Rattle.mp_stamps.proofs.row.Row.add.Goals as goal

pub index_mut-requires : goal.index_mut-requires
index_mut-requires c =
    let ps = c.self.inside.pieces.items in
    let w = c.self.invariant.whole in
    let is : joined ps ≡ c.args.self.now.counts = ap (λ (r : RowState). r.counts) c.self.view_is in
    let few : c.args.index < 1024 * length ps = omega (arith, c.requires.index, ap (λ (xs : List ℤ). length xs) is, joined_length ps w) in
    let inside : c.args.index / 1024 < length ps = omega (arith, few) in
    search (inside, rules)

pub add-is_open-requires-clause-kept : goal.add-is_open-requires-clause-kept
add-is_open-requires-clause-kept c =
    let ps = c.self.inside.pieces.items in
    let w = c.self.invariant.whole in
    let is : joined ps ≡ c.args.self.now.counts = ap (λ (r : RowState). r.counts) c.self.view_is in
    let few : c.args.index < 1024 * length ps = omega (arith, c.requires.index, ap (λ (xs : List ℤ). length xs) is, joined_length ps w) in
    let b = c.args.index / 1024 in
    let inside : b < length ps = omega (arith, few) in
    let piece : c.index_mut.result.now ≡ piece_at ps b = c.index_mut.ensures.value ∙ get_or_default ps b c.index_mut.result.now (record { kept = true; counts = [] }) inside in
    let past : c.self.inside.given ≤ b = omega (arith, c.requires.kept, ap (λ (r : RowState). r.given) c.self.view_is) in
    ap (λ (p : PieceState). p.kept) piece ∙ c.self.invariant.kept b past inside

pub add-is_open-requires-clause-fits : goal.add-is_open-requires-clause-fits
add-is_open-requires-clause-fits c =
    let ps = c.self.inside.pieces.items in
    let w = c.self.invariant.whole in
    let is : joined ps ≡ c.args.self.now.counts = ap (λ (r : RowState). r.counts) c.self.view_is in
    let few : c.args.index < 1024 * length ps = omega (arith, c.requires.index, ap (λ (xs : List ℤ). length xs) is, joined_length ps w) in
    let b = c.args.index / 1024 in
    let piece : c.index_mut.result.now ≡ piece_at ps b = c.index_mut.ensures.value ∙ get_or_default ps b c.index_mut.result.now (record { kept = true; counts = [] }) (omega (arith, few)) in
    let was : get_or c.args.self.now.counts c.args.index (pos 0) ≡ get_or c.index_mut.result.now.counts (c.args.index % 1024) (pos 0) =
    ap (λ (xs : List ℤ). get_or xs c.args.index (pos 0)) (sym is) ∙ count_at_split ps w c.args.index few ∙ ap (λ (p : PieceState). get_or p.counts (c.args.index % 1024) (pos 0)) (sym piece) in
    let by : SFits w64 c.args.by = search rules in
    rw (to_z-of_z w64 c.args.by by) (subst (λ (n : ℤ). FitsSigned w128 (n +ℤ c.args.by)) was c.requires.fits)

pub span_after-self-inside-requires-clause-index : goal.span_after-self-inside-requires-clause-index
span_after-self-inside-requires-clause-index c =
    let ps = c.self.inside.pieces.items in
    let w = c.self.invariant.whole in
    let is : joined ps ≡ c.args.self.now.counts = ap (λ (r : RowState). r.counts) c.self.view_is in
    let few : c.args.index < 1024 * length ps = omega (arith, c.requires.index, ap (λ (xs : List ℤ). length xs) is, joined_length ps w) in
    rw c.deref.ensures.value (omega (arith, few, length-set ps (c.args.index / 1024) c.add-is_open.new.self))

pub span_after-self-inside-requires-clause-open : goal.span_after-self-inside-requires-clause-open
span_after-self-inside-requires-clause-open c =
    let ps = c.self.inside.pieces.items in
    let w = c.self.invariant.whole in
    let is : joined ps ≡ c.args.self.now.counts = ap (λ (r : RowState). r.counts) c.self.view_is in
    let few : c.args.index < 1024 * length ps = omega (arith, c.requires.index, ap (λ (xs : List ℤ). length xs) is, joined_length ps w) in
    let by : SFits w64 c.args.by = search rules in
    let new = added_there ps c.args.index c.args.by c.index_mut.result.now c.add-is_open.new.self w few c.index_mut.ensures.value (rw (to_z-of_z w64 c.args.by by) at c.add-is_open.ensures.counts) in
    rw c.deref.ensures.value (c.add-is_open.ensures.open ∙ ap is_outstanding (sym (count_then ps c.args.index _ c.add-is_open.new.self w few new)))

pub span_after-self-inside-requires-clause-before : goal.span_after-self-inside-requires-clause-before
span_after-self-inside-requires-clause-before c =
    let ps = c.self.inside.pieces.items in
    let w = c.self.invariant.whole in
    let is : joined ps ≡ c.args.self.now.counts = ap (λ (r : RowState). r.counts) c.self.view_is in
    let few : c.args.index < 1024 * length ps = omega (arith, c.requires.index, ap (λ (xs : List ℤ). length xs) is, joined_length ps w) in
    let by : SFits w64 c.args.by = search rules in
    let new = added_there ps c.args.index c.args.by c.index_mut.result.now c.add-is_open.new.self w few c.index_mut.ensures.value (rw (to_z-of_z w64 c.args.by by) at c.add-is_open.ensures.counts) in
    rw c.deref.ensures.value (span_then ps c.args.index _ c.add-is_open.new.self w few new _ _ c.self.invariant.span)

pub returns-clause-counts : goal.returns-clause-counts
returns-clause-counts c =
    let ps = c.self.inside.pieces.items in
    let w = c.self.invariant.whole in
    let is : joined ps ≡ c.args.self.now.counts = ap (λ (r : RowState). r.counts) c.self.view_is in
    let few : c.args.index < 1024 * length ps = omega (arith, c.requires.index, ap (λ (xs : List ℤ). length xs) is, joined_length ps w) in
    let by : SFits w64 c.args.by = search rules in
    let new = added_there ps c.args.index c.args.by c.index_mut.result.now c.add-is_open.new.self w few c.index_mut.ensures.value (rw (to_z-of_z w64 c.args.by by) at c.add-is_open.ensures.counts) in
    joined_then ps c.args.index _ c.add-is_open.new.self w few new ∙ ap (λ (xs : List ℤ). set xs c.args.index (get_or xs c.args.index (pos 0) +ℤ c.args.by)) is
