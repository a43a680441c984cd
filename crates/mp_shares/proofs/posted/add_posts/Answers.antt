use Rattle.std.proofs.Common.{◌≡◌, ◌++◌, ◌∙◌, List, ℕ, ap, sym, subst}
use Rattle.mp_shares.specs.Times.{AllStandIn, PostedTimes}
use Rattle.mp_shares.proofs.Same.{same_again, same_list, stands_last}
use Rattle.mp_shares.proofs.posted.add_posts.Goals as goal

pub returns-then-is_last-clause-times : goal.returns-then-is_last-clause-times
returns-then-is_last-clause-times c =
    let same = c.is_last.ensures.last.0 c.if-is_last.true in
    same_again c.args.times.now.items c.args.posts (subst (λ (ps : List ℕ). AllStandIn ps c.args.times.now.items) (sym same) c.requires)

pub returns-then-is_last-clause-posts : goal.returns-then-is_last-clause-posts
returns-then-is_last-clause-posts c =
    let same = c.is_last.ensures.last.0 c.if-is_last.true in
    same_again c.args.posted.now.times c.args.posts (subst (λ (ps : List ℕ). AllStandIn ps c.args.posted.now.times) (sym same) c.is_last.ensures.stand)

pub returns-clause-posts : goal.returns-clause-posts
returns-clause-posts c = same_list c.add.new.self.times (c.args.posted.now.times ++ c.args.posts) (ap (λ (p : PostedTimes). p.times) c.in_ok-add.ensures)

pub returns-clause-posted : goal.returns-clause-posted
returns-clause-posted c =
    let last : c.add.new.self.last ≡ c.args.posts = ap (λ (p : PostedTimes). p.last) c.in_ok-add.ensures in
    subst (λ (ps : List ℕ). AllStandIn ps c.extend_from_slice.new.self.items) (sym last)
    (stands_last
    c.args.posts
    c.args.times.now.items
    c.extend_from_slice.new.self.items
    (c.in_ok-extend_from_slice.ensures.items ∙ ap (λ (ps : List ℕ). c.args.times.now.items ++ ps) c.as_slice.ensures))
