-- The list at the worker.
use Rattle.std.proofs.Common.{◌∙◌, [], List, ap, get_or}
use Rattle.mp_chart.specs.declared.entry.Entry.{Entry}
use Rattle.mp_names.specs.Names.{ascending}
use Rattle.mp_parted.specs.declared.parting.By.TheVariants.{Sender}
use Rattle.mp_group_lists.proofs.Held.{Part, items_in, part_is}
use Rattle.mp_group_lists.proofs.lists.GroupLists.rows.Goals as goal

pub returns : goal.returns
returns c = λ o are worker.
    let w = c.args.worker in
    c.part_of.ensures
    ∙ ap (λ (parts : List Part). get_or (items_in parts) w []) c.deref.ensures.value
    ∙ ap (λ (es : List (List Entry)). get_or es w []) are.rows
    ∙ part_is o Sender (ascending o.rows) w worker
