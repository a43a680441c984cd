-- The count stands in its piece.
use Rattle.std.proofs.Common.{◌≡◌, ◌∙◌, ◌*◌, ◌/◌, ◌%◌, ◌<◌, ap, sym, true, [], length, pos, get_or, ℤ, List, rules, arith}
use Rattle.std.proofs.lemmas.List.{get_or_default}
use Rattle.mp_stamps.specs.Rows.{PieceState, RowState, joined, piece_at}
use Rattle.mp_stamps.proofs.Joined.{count_at_split, joined_length}
use Rattle.mp_stamps.proofs.row.Row.at.Goals as goal

pub returns : goal.returns
returns c =
    let i = c.args.index in
    let ps = c.self.inside.pieces.items in
    let w = c.self.invariant.whole in
    let is : joined ps ≡ c.args.self.now.counts = ap (λ (r : RowState). r.counts) c.self.view_is in
    let few : i < 1024 * length ps = omega (arith, c.requires, ap (λ (xs : List ℤ). length xs) is, joined_length ps w) in
    let inside : i / 1024 < length ps = omega (arith, few) in
    let piece : c.index.result.now ≡ piece_at ps (i / 1024) = c.index.ensures ∙ get_or_default ps (i / 1024) c.index.result.now (record { kept = true; counts = [] }) inside in
    let h : c.at.result ≡ get_or c.args.self.now.counts i (pos 0) =
    c.at.ensures ∙ ap (λ (p : PieceState). get_or p.counts (i % 1024) (pos 0)) piece
    ∙ sym (count_at_split ps w i few)
    ∙ ap (λ (xs : List ℤ). get_or xs i (pos 0)) is in
    search (h, rules)

pub index-requires : goal.index-requires
index-requires c =
    let i = c.args.index in
    let ps = c.self.inside.pieces.items in
    let is : joined ps ≡ c.args.self.now.counts = ap (λ (r : RowState). r.counts) c.self.view_is in
    let few : i < 1024 * length ps = omega (arith, c.requires, ap (λ (xs : List ℤ). length xs) is, joined_length ps c.self.invariant.whole) in
    let inside : i / 1024 < length ps = omega (arith, few) in
    search (inside, rules)
