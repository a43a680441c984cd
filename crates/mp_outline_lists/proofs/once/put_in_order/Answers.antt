-- Moments are sorted by themselves or by their numbers.
use Rattle.std.proofs.Common.{◌≡◌, ◌∙◌, IfSome, ap, map, subst}
use Rattle.std.proofs.lemmas.List.Filters.{dedup_is}
use Rattle.mp_outline_lists.specs.Moments.{group_at}
use Rattle.mp_outline_lists.specs.Packed.{moment_in}
use Rattle.mp_outline_lists.proofs.Grouping.{moments_kept}
use Rattle.mp_outline_lists.proofs.Packing.{groups_told}
use Rattle.mp_outline_lists.proofs.once.put_in_order.Goals as goal

pub returns-in_default : goal.returns-in_default
returns-in_default c j =
    moments_kept j c.args.moments.now.items c.sort_unstable.new.self.items c.dedup.new.self.items c.sort_unstable.ensures.permutation c.sort_unstable.ensures.sorted (dedup_is _ _ _ c.dedup.ensures.filtered)

pub returns : goal.returns
returns c j =
    let width = c.width_over-width.result in
    let moments = c.args.moments.now.items in
    let numbers = c.in-Some.numbers.items in
    let kept = c.dedup-2.new.self.items in
    let told = subst (λ found. IfSome found (λ v. map (moment_in width) v.items ≡ c.deref-2.result.now)) c.in-Some.is c.in_ok-numbers.ensures.moments ∙ c.deref-2.ensures.value in
    ap (map (group_at j)) (c.in_ok-put_back.ensures ∙ ap (map (moment_in width)) c.deref-3.ensures.value)
    ∙ groups_told j width c.width_over-width.ensures moments numbers c.sort_unstable-2.new.self.items kept told c.sort_unstable-2.ensures.permutation c.sort_unstable-2.ensures.sorted (dedup_is _ _ _ c.dedup-2.ensures.filtered)
