use Rattle.std.proofs.Common.{◌≡◌, ◌∙◌, ap, sym, length, rules}
use Rattle.mp_stamps.specs.Rows.{PieceState}
use Rattle.mp_stamps.proofs.Joined.{none_held}
use Rattle.mp_stamps.proofs.piece.Piece.is_unfilled.Goals as goal

pub returns-then-self-clause-zeros : goal.returns-then-self-clause-zeros
returns-then-self-clause-zeros c = λ e.
    let none : length c.self.inside.counts.items ≡ 0 = search rules in
    sym (none_held c.self.inside.counts.items none ∙ ap (λ (p : PieceState). p.counts) c.self.view_is)
