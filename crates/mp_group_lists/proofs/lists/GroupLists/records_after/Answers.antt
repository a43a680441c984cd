-- The list behind the stage; behind the last there is none.
use Rattle.std.proofs.Common.{◌∙◌, [], List, ap, get_or}
use Rattle.mp_chart.specs.declared.entry.Entry.{Entry}
use Rattle.mp_group_lists.proofs.Held.{Part, items_in, next_at}
use Rattle.mp_group_lists.proofs.lists.GroupLists.records_after.Goals as goal

pub returns : goal.returns
returns c = λ o sound are.
    let j = c.args.stage in
    c.part_of.ensures
    ∙ ap (λ (parts : List Part). get_or (items_in parts) j []) c.deref.ensures.value
    ∙ ap (λ (es : List (List Entry)). get_or es j []) are.records
    ∙ next_at o sound j
