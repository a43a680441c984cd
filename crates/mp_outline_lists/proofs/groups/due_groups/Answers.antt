-- The groups that are before the stop time are those that are due.
use Rattle.std.proofs.Common.{◌∙◌, ℕ, Option, ap, filter}
use Rattle.mp_names.specs.Outlines.{groups_of}
use Rattle.mp_outline_lists.specs.Groups.{is_due}
use Rattle.mp_outline_lists.proofs.Gathered.{due_are}
use Rattle.mp_outline_lists.proofs.groups.due_groups.Goals as goal

pub returns : goal.returns
returns g c =
    let o = g.L.OutlineLists.outline c.args.lists.now in
    c.keep_due.ensures
    ∙ ap (filter (is_due c.until.result)) (c.in_ok-names.ensures ∙ c.requires)
    ∙ ap (λ (until : Option ℕ). filter (is_due until) (groups_of o c.args.stage)) c.until.ensures
    ∙ due_are o c.are_sound.ensures.sound c.args.stage
