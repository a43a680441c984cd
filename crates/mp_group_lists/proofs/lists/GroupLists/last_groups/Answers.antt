-- The list at the last stage and the worker.
use Rattle.std.proofs.Common.{◌∙◌, ◌-◌, ◌<◌, ℕ, ap, arith, length, sym}
use Rattle.std.proofs.lemmas.Bool.{ltb-false, ltb-true}
use Rattle.mp_names.specs.Logs.{owned_groups}
use Rattle.mp_chart.specs.Entries.{entries_of}
use Rattle.mp_group_lists.proofs.Held.{stage_count, stage_part}
use Rattle.mp_group_lists.proofs.lists.GroupLists.last_groups.Goals as goal

pub returns-in-Some : goal.returns-in-Some
returns-in-Some c = λ o sound are worker.
    let stages = c.deref.result.now in
    let item = c.in-Some.ensures.item in
    let some = ltb-true 0 (length stages) (sym item.0) in
    let inside : length stages - 1 < length stages = omega arith in
    let count = stage_count o sound c.args.self.now.groups.items stages are.groups c.deref.ensures.value in
    c.part_of.ensures
    ∙ stage_part o sound c.args.self.now.groups.items stages are.groups c.deref.ensures.value (length stages - 1) c.args.worker c.in-Some.parts.now c.deref-in-Some.result.now worker inside item.1 c.deref-in-Some.ensures.value
    ∙ ap (λ (n : ℕ). entries_of o (owned_groups o c.args.worker (n - 1))) count

pub returns-in-None : goal.returns-in-None
returns-in-None c = λ o sound are worker.
    let stages = c.deref.result.now in
    let none = ltb-false 0 (length stages) (sym c.in-None.ensures.item.0) in
    let count = stage_count o sound c.args.self.now.groups.items stages are.groups c.deref.ensures.value in
    let some = sound.some_stage in
    absurd (omega arith)
