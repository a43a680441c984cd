-- Where it held none its counts are those of an empty buffer.
use Rattle.std.proofs.Common.{◌≡◌, ◌∙◌, ap, ap₂, sym, subst, inl, length, Bool, List, ℤ}
use Rattle.std.proofs.lemmas.Bool.{true≢false}
use Rattle.mp_stamps.specs.Rows.{IsSpan, PieceState, counts_held}
use Rattle.mp_stamps.proofs.piece.Piece.take_over.Goals as goal

pub returns-then-is_unfilled : goal.returns-then-is_unfilled
returns-then-is_unfilled c =
    let zeros = c.is_unfilled.ensures.zeros c.if-is_unfilled.true in
    ap₂ (λ (k : Bool) (xs : List ℤ). record { kept = k; counts = xs }) (ap (λ (p : PieceState). p.kept) c.self.view_is) (ap counts_held c.requires.empty ∙ sym zeros)

pub invariant_of-self : goal.invariant_of-self
invariant_of-self c =
    let same : counts_held c.self.inside.counts.items ≡ counts_held c.args.buffer.items =
    ap (λ (p : PieceState). p.counts) c.self.view_is ∙ sym (ap (λ (p : PieceState). p.counts) (returns-then-is_unfilled c)) in
    record {
      piece = inl (ap (λ (xs : List ℤ). length xs) c.requires.empty);
      room = λ _. c.requires.room;
      freed = λ e. absurd (true≢false (sym (ap (λ (p : PieceState). p.kept) c.self.view_is ∙ c.is_unfilled.ensures.kept c.if-is_unfilled.true) ∙ e));
      span = subst (λ (xs : List ℤ). IsSpan xs c.self.inside.span.first c.self.inside.span.end) same c.self.invariant.span;
    }
