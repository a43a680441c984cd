use Rattle.std.proofs.Common.{◌≡◌, ◌∙◌, ◌++◌, List, ap, map}
use Rattle.std.specs.List.{flat_map}
use Rattle.mp_outline_lists.specs.declared.moments.Moment.{Moment}
use Rattle.mp_outline_lists.specs.Moments.{moment_of, moments_made}
use Rattle.mp_outline_lists.proofs.Grouping.{groups_kept}
use Rattle.mp_outline_lists.proofs.moments.moments_of.Goals as goal

pub returns : goal.returns
returns g c =
    let o = g.L.OutlineLists.outline c.args.lists.now in
    let j = c.args.stage in
    let opened : c.add_groups.new.moments.items ≡ c.new-moments.result.items ++ map moment_of c.opening.result.now = c.in_ok-add_groups.ensures in
    let made : c.add_made.new.moments.items ≡ c.add_groups.new.moments.items ++ flat_map (moments_made o) (o.records j) = c.in_ok-add_made.ensures in
    let first = opened ∙ ap (λ (l : List Moment). l ++ map moment_of c.opening.result.now) c.new-moments.ensures.items ∙ ap (map moment_of) c.opening.ensures in
    let are = made ∙ ap (λ (l : List Moment). l ++ flat_map (moments_made o) (o.records j)) first in
    groups_kept o c.are_sound.ensures.sound j c.add_made.new.moments.items c.put_in_order.new.moments.items are (c.in_ok-put_in_order.ensures j)
