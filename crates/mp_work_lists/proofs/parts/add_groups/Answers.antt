use Rattle.std.proofs.Common.{◌≡◌, ◌∙◌, ℕ, List, ap, map}
use Rattle.mp_outline_lists.specs.declared.moments.Moment.{Moment}
use Rattle.mp_outline_lists.specs.Moments.{group_at}
use Rattle.mp_names.specs.declared.locations.Loc.TheVariants.{Host}
use Rattle.mp_names.specs.Outlines.{groups_of}
use Rattle.mp_work_lists.specs.Parts.{names_at, times_at}
use Rattle.mp_work_lists.proofs.Joining.{groups_joined, listed_once}
use Rattle.mp_work_lists.proofs.parts.add_groups.Goals as goal

pub returns : goal.returns
returns g c =
    let o = g.L.OutlineLists.outline c.args.lists.now in
    let j = c.args.stage in
    let old = c.args.works.now.items in
    let are : (t : ℕ) → times_at t c.in_ok-times.times.items ≡ names_at t (groups_of o j) = λ t. c.in_ok-times.ensures j t ∙ ap (λ (ms : List Moment). names_at t (map (group_at j) ms)) c.moments_at.ensures ∙ ap (names_at t) (c.requires.moments j c.requires.stage) in
    groups_joined o old _ old old j
    (listed_once (Host j) _ _ (λ t. names_at t (groups_of o j)) _ _ c.deref.ensures.value are c.in_ok-add_times.ensures)
