use Rattle.std.proofs.Common.{◌≡◌, ◌∙◌, List, ap, count_by, is_some, sym, take}
use Rattle.std.proofs.lemmas.List.{take_all}
use Rattle.mp_model.specs.declared.value.Value.{Value}
use Rattle.mp_model.specs.Tables.{table_of}
use Rattle.mp_worker_apply.proofs.OneByOne.{records_counted}
use Rattle.mp_worker_apply.proofs.onward.count_onward.Goals as goal

pub returns-clause-records : goal.returns-clause-records
returns-clause-records g c =
    let a = c.args in
    let q = table_of g.Q.Query.facts g.J.Naming.job in
    let over = c.loop-value-test.false in
    let all : take c.loop-value.value-index a.outputs.now ≡ a.outputs.now = take_all c.loop-value.value-index a.outputs.now over in
    c.loop-value.invariant
    ∙ ap (λ (vs : List Value). count_by (λ v. is_some (q.key a.stage a.time v)) vs) all
    ∙ sym (records_counted q a.stage a.time a.group 0 a.outputs.now)
