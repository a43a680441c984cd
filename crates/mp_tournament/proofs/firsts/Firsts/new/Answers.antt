-- Behind as many places without a wake there are as many again.
use Rattle.std.proofs.Common.{◌≡◌, ℕ, ◌-◌, ◌*◌, List, Option, drop, replicate, None, ◌∙◌, ap, arith, rules}
use Rattle.std.proofs.lemmas.List.{drop-replicate}
use Rattle.mp_tournament.proofs.firsts.Firsts.new.Goals as goal

second_half : (n : ℕ) (tree : List (Option (ℕ × ℕ))) → tree ≡ replicate (2 * n) None → drop n tree ≡ replicate n None
second_half n tree e =
    let half : 2 * n - n ≡ n = omega arith in
    ap (drop n) e ∙ drop-replicate n (2 * n) None ∙ ap (λ k. replicate k None) half

pub returns : goal.returns
returns c = second_half c.args.count c.in_ok-tree.tree.items (c.in_ok-tree.ensures.items_if_clones_equal (λ y k. search rules))
