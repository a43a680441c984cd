-- A piece without such a count holds zeros.
use Rattle.std.proofs.Common.{◌≡◌, ◌∙◌, ◌<◌, ◌≤◌, subst, ⊎_elim, true, [], arith}
use Rattle.std.proofs.lemmas.Bool.{cases_lt}
use Rattle.std.proofs.lemmas.List.{get_or_default}
use Rattle.mp_stamps.specs.Rows.{IsFirstOpen, IsZeroPiece, PieceState, piece_at}
use Rattle.mp_stamps.proofs.Joined.{span_in_piece, zero_past}
use Rattle.mp_stamps.proofs.row.next_span.Goals as goal

pub returns-then-first-lt-PIECE : goal.returns-then-first-lt-PIECE
returns-then-first-lt-PIECE c =
    let ps = c.args.pieces.now in
    let b = c.args.place in
    let piece : c.index-pieces-place.result ≡ piece_at ps b = c.index-pieces-place.is ∙ get_or_default ps b c.index-pieces-place.result (record { kept = true; counts = [] }) c.requires.inside in
    let own : IsFirstOpen (piece_at ps b).counts c.first-first.result = subst (λ (p : PieceState). IsFirstOpen p.counts c.first-first.result) piece c.first-first.ensures in
    span_in_piece ps c.requires.whole b c.first-first.result c.args.end c.requires.inside c.requires.quiet own c.if-first-lt-PIECE.true c.requires.within c.requires.rest

pub span_from-requires-clause-quiet : goal.span_from-requires-clause-quiet
span_from-requires-clause-quiet c =
    let ps = c.args.pieces.now in
    let b = c.args.place in
    let piece : c.index-pieces-place.result ≡ piece_at ps b = c.index-pieces-place.is ∙ get_or_default ps b c.index-pieces-place.result (record { kept = true; counts = [] }) c.requires.inside in
    let own : IsFirstOpen (piece_at ps b).counts c.first-first.result = subst (λ (p : PieceState). IsFirstOpen p.counts c.first-first.result) piece c.first-first.ensures in
    λ k l m.
    ⊎_elim
    (λ (n : k < b). c.requires.quiet k n)
    (λ (n : b ≤ k).
    let same : b ≡ k = omega (arith, l, n) in
    subst (IsZeroPiece ps) same (zero_past ps c.requires.whole b c.first-first.result c.requires.inside own c.if-first-lt-PIECE.false))
    (cases_lt k b)
