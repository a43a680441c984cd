-- Zeros stay zeros.
use Rattle.std.proofs.Common.{[], ◌≡◌, ◌∙◌, ap, sym, subst, inl, length, false, List, ℤ}
use Rattle.std.proofs.lemmas.Bool.{false≢true}
use Rattle.mp_stamps.specs.Rows.{IsSpan, PieceState, counts_held}
use Rattle.mp_stamps.proofs.Joined.{all_zero, whole}
use Rattle.mp_stamps.proofs.piece.Piece.give_back.Goals as goal

given_back : List ℤ → PieceState
given_back ys = record { kept = false; counts = ys }

pub returns-clause-given_back : goal.returns-clause-given_back
unfolding given_back
returns-clause-given_back c =
    let same = ap (λ (p : PieceState). p.counts) c.self.view_is in
    let long : length c.args.self.now.counts ≡ 1024 = ap (λ (xs : List ℤ). length xs) (sym same) ∙ whole c.self.inside.counts.items c.self.invariant.piece in
    let none : c.replace-held.new.dest.items ≡ [] = rw c.replace-held.ensures.after c.new.ensures.items in
    let zeros = all_zero 1024 c.args.self.now.counts long c.requires in
    ap (λ (xs : List ℤ). given_back (counts_held xs)) none ∙ ap (λ (ys : List ℤ). given_back ys) (sym zeros)

pub invariant_of-self : goal.invariant_of-self
invariant_of-self c =
    let same = ap (λ (p : PieceState). p.counts) c.self.view_is in
    let stay : counts_held c.self.inside.counts.items ≡ counts_held c.replace-held.new.dest.items = same ∙ sym (ap (λ (p : PieceState). p.counts) (returns-clause-given_back c)) in
    record {
      piece = inl (rw c.replace-held.ensures.after (ap (λ (xs : List ℤ). length xs) c.new.ensures.items));
      room = λ e. absurd (false≢true e);
      freed = λ _. rw c.replace-held.ensures.after c.new.ensures.capacity;
      span = subst (λ (xs : List ℤ). IsSpan xs c.self.inside.span.first c.self.inside.span.end) stay c.self.invariant.span;
    }
