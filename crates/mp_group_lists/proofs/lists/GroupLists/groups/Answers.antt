-- The list at the stage and the worker; past the last stage there are no groups.
use Rattle.std.proofs.Common.{◌∙◌, List, ap, arith, length, sym}
use Rattle.std.proofs.lemmas.Bool.{ltb-false, ltb-true}
use Rattle.mp_names.specs.declared.names.Name.{Name}
use Rattle.mp_chart.specs.Entries.{entries_of}
use Rattle.mp_group_lists.proofs.Held.{no_groups, stage_count, stage_part}
use Rattle.mp_group_lists.proofs.lists.GroupLists.groups.Goals as goal

pub returns-in-Some : goal.returns-in-Some
returns-in-Some c = λ o sound are worker.
    let stages = c.deref.result.now in
    let lookup = c.in-Some.ensures.lookup in
    c.part_of.ensures
    ∙ stage_part o sound c.args.self.now.groups.items stages are.groups c.deref.ensures.value c.args.stage c.args.worker c.in-Some.parts.now c.deref-in-Some.result.now worker (ltb-true c.args.stage (length stages) (sym lookup.0)) lookup.1 c.deref-in-Some.ensures.value

pub returns-in-None : goal.returns-in-None
returns-in-None c = λ o sound are worker.
    let stages = c.deref.result.now in
    let past = ltb-false c.args.stage (length stages) (sym c.in-None.ensures.lookup.0) in
    let count = stage_count o sound c.args.self.now.groups.items stages are.groups c.deref.ensures.value in
    ap (λ (xs : List Name). entries_of o xs) (sym (no_groups o sound c.args.worker c.args.stage (omega arith)))
