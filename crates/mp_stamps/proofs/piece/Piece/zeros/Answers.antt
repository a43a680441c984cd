use Rattle.std.proofs.Common.{List, ℤ, length, ap, inl, sym, subst}
use Rattle.std.proofs.lemmas.Bool.{true≢false}
use Rattle.mp_stamps.specs.Rows.{IsSpan, counts_held}
use Rattle.mp_stamps.proofs.Firsts.{zeros_span}
use Rattle.mp_stamps.proofs.piece.Piece.zeros.Goals as goal

pub invariant_of-result : goal.invariant_of-result
invariant_of-result c =
    let none = c.in_ok-with_capacity.ensures.items in
    record {
      piece = inl (ap (λ (xs : List ℤ). length xs) none);
      room = λ _. c.in_ok-with_capacity.ensures.capacity;
      freed = λ e. absurd (true≢false e);
      span = rw (c.no_span.ensures.first, c.no_span.ensures.end) (subst (λ (xs : List ℤ). IsSpan (counts_held xs) 1024 0) (sym none) (zeros_span 1024));
    }
