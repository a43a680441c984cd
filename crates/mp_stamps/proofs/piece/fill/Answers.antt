use Rattle.std.proofs.Common.{◌≡◌, ◌∙◌, ap, pos, replicate, rules, ℕ}
use Rattle.mp_stamps.proofs.piece.fill.Goals as goal

pub returns-clause-filled : goal.returns-clause-filled
returns-clause-filled c =
    let end : c.loop.counter ≡ 1024 = search rules in
    c.loop.invariant.items ∙ ap (λ (k : ℕ). replicate k (pos 0)) end
