-- The first piece that has a count other than 0 has the first of them.
use Rattle.std.proofs.Common.{◌≡◌, ◌∙◌, ◌+◌, ◌*◌, ◌<◌, ◌≤◌, subst, ⊎_elim, true, [], length, ℕ, arith}
use Rattle.std.proofs.lemmas.Bool.{cases_lt}
use Rattle.std.proofs.lemmas.List.{get_or_default}
use Rattle.mp_stamps.specs.Rows.{IsFirstOpen, IsSpan, IsZeroPiece, PieceState, joined, piece_at}
use Rattle.mp_stamps.proofs.Firsts.{span_none}
use Rattle.mp_stamps.proofs.Joined.{joined_length, none_in_pieces, span_in_piece, zero_piece}
use Rattle.mp_stamps.proofs.row.span_from.Goals as goal

pub returns-then-first-lt-PIECE : goal.returns-then-first-lt-PIECE
returns-then-first-lt-PIECE c =
    let ps = c.args.pieces.now in
    let b = c.loop-place.place in
    let w = c.requires.whole in
    let inside : b < length ps = omega (arith, c.div_ceil-place-end.ensures, c.loop-place-test.true, c.requires.within) in
    let piece : c.index-pieces-place.result ≡ piece_at ps b = c.index-pieces-place.is ∙ get_or_default ps b c.index-pieces-place.result (record { kept = true; counts = [] }) inside in
    let own : IsFirstOpen (piece_at ps b).counts c.first-first.result = subst (λ (p : PieceState). IsFirstOpen p.counts c.first-first.result) piece c.first-first.ensures in
    span_in_piece ps w b c.first-first.result c.args.end inside (λ k l. c.loop-place.invariant k l (omega (arith, l, inside))) own c.if-first-lt-PIECE.true c.requires.within c.requires.rest

pub returns : goal.returns
returns c =
    let ps = c.args.pieces.now in
    let w = c.requires.whole in
    let none : (b : ℕ) → b < length ps → IsZeroPiece ps b =
    λ b l.
    ⊎_elim
    (λ (m : b < c.loop-place.place). c.loop-place.invariant b m l)
    (λ (m : c.loop-place.place ≤ b). zero_piece ps w b l (λ k n. c.requires.rest (1024 * b + k) (omega (arith, c.div_ceil-place-end.ensures, c.loop-place-test.false, m))))
    (cases_lt b c.loop-place.place) in
    rw (c.no_span.ensures.first, c.no_span.ensures.end) (subst (λ (n : ℕ). IsSpan (joined ps) n 0) (joined_length ps w) (span_none (joined ps) (none_in_pieces ps w none)))
