-- Where all counts are 0 the pieces hold zeros, and are given back.
use Rattle.std.proofs.Common.{◌≡◌, ◌∙◌, ◌<◌, ◌≤◌, ap, ap₂, length, max, pos, get_or, ℕ, List, ℤ, rules, arith}
use Rattle.mp_stamps.specs.Rows.{RowState, joined}
use Rattle.mp_stamps.proofs.Joined.{back_row, joined_length, joined_same, zero_pieces}
use Rattle.mp_stamps.proofs.row.Row.give_back.Goals as goal

row_state : ℕ → List ℤ → RowState
row_state n xs = record { given = n; counts = xs }

pub give_back_between-requires-clause-inside : goal.give_back_between-requires-clause-inside
give_back_between-requires-clause-inside c =
    let ps = c.self.inside.pieces.items in
    let is : joined ps ≡ c.args.self.now.counts = ap (λ (r : RowState). r.counts) c.self.view_is in
    omega (arith, c.requires.count, ap (λ (xs : List ℤ). length xs) is, joined_length ps c.self.invariant.whole)

pub give_back_between-requires-clause-zero : goal.give_back_between-requires-clause-zero
give_back_between-requires-clause-zero c =
    let ps = c.self.inside.pieces.items in
    let is : joined ps ≡ c.args.self.now.counts = ap (λ (r : RowState). r.counts) c.self.view_is in
    let few : c.args.count ≤ length ps = omega (arith, c.requires.count, ap (λ (xs : List ℤ). length xs) is, joined_length ps c.self.invariant.whole) in
    λ b l. zero_pieces ps c.args.count b c.self.invariant.whole few (λ k m. ap (λ (xs : List ℤ). get_or xs k (pos 0)) is ∙ c.requires.zero k m) l

pub returns-then-count-self : goal.returns-then-count-self
unfolding row_state
returns-then-count-self c =
    let ps = c.self.inside.pieces.items in
    let is : joined ps ≡ c.args.self.now.counts = ap (λ (r : RowState). r.counts) c.self.view_is in
    let was : c.self.inside.given ≡ c.args.self.now.given = ap (λ (r : RowState). r.given) c.self.view_is in
    let less : c.self.inside.given < c.args.count = search rules in
    let more : c.args.count ≡ max c.args.self.now.given c.args.count = omega (arith, was, less) in
    let same = joined_same ps _ c.give_back_between.ensures.long c.give_back_between.ensures.counts in
    ap₂ row_state more (same ∙ is)

pub invariant_of-self : goal.invariant_of-self
invariant_of-self c =
    let ps = c.self.inside.pieces.items in
    let is : joined ps ≡ c.args.self.now.counts = ap (λ (r : RowState). r.counts) c.self.view_is in
    let few : c.args.count ≤ length ps = omega (arith, c.requires.count, ap (λ (xs : List ℤ). length xs) is, joined_length ps c.self.invariant.whole) in
    let more : c.self.inside.given ≤ c.args.count = search rules in
    back_row ps _ c.self.inside.given c.args.count c.give_back_between.ensures c.self.inside.span.first c.self.inside.span.end more few c.self.invariant
