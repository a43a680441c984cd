use Rattle.std.proofs.Common.{◌∙◌, List, subst, sym, arith}
use Rattle.std.specs.Vec.Iter.{into_iter_items}
use Rattle.mp_model.specs.declared.value.Value.{Value}
use Rattle.mp_model.specs.Tables.{table_of}
use Rattle.mp_worker_apply.proofs.OneByOne.{RowsLeft, all_rows_left, next_row, next_rows_left, no_rows_left}
use Rattle.mp_worker_apply.proofs.onward.hold_rows.Goals as goal

pub loop-value-init : goal.loop-value-init
loop-value-init g c =
    let a = c.args in
    let job = g.J.Naming.job in
    let q = table_of g.Q.Query.facts job in
    let into = c.into_iter-value-iterator in
    record { count = omega arith; left = all_rows_left q job a.time a.group c.args.unsent.now a.outputs.items (into_iter_items into.result) into.ensures.into_iter_gives.0 c.requires.rows c.requires.room }

pub hold-requires-after_bounds : goal.hold-requires-after_bounds
hold-requires-after_bounds g c κs within =
    let a = c.args in
    let job = g.J.Naming.job in
    let q = table_of g.Q.Query.facts job in
    let all = into_iter_items c.into_iter-value-iterator.result in
    let l = c.loop-value in
    let left = subst (λ (vs : List Value). RowsLeft q job a.time a.group all c.args.unsent.now l.place vs l.unsent) c.in-Some.ensures.steps.0 l.invariant.left in
    next_row q job a.time a.group all c.args.unsent.now l.place c.in-Some.value (into_iter_items c.next.new.self) l.unsent left

pub loop-value-preserved : goal.loop-value-preserved
loop-value-preserved g c =
    let a = c.args in
    let job = g.J.Naming.job in
    let q = table_of g.Q.Query.facts job in
    let all = into_iter_items c.into_iter-value-iterator.result in
    let l = c.loop-value in
    let left = subst (λ (vs : List Value). RowsLeft q job a.time a.group all c.args.unsent.now l.place vs l.unsent) c.in-Some.ensures.steps.0 l.invariant.left in
    let held = c.in_ok-hold.ensures in
    let count = l.invariant.count in
    let fewer = c.in-Some.ensures.steps.1 in
    record {
      count = omega arith;
      left = next_rows_left q job a.time a.group all c.args.unsent.now l.place c.in-Some.value (into_iter_items c.next.new.self) l.unsent left c.hold.new.self held.put held.room;
    }

pub returns-clause-held : goal.returns-clause-held
returns-clause-held g c =
    let a = c.args in
    let job = g.J.Naming.job in
    let q = table_of g.Q.Query.facts job in
    let l = c.loop-value in
    let into = c.into_iter-value-iterator in
    let over = sym l.value-iterator.rest.ok.0 ∙ c.in-None.ensures.steps.0 in
    no_rows_left q job a.time a.group c.args.unsent.now a.outputs.items (into_iter_items into.result) (into_iter_items l.value-iterator) l.place l.unsent into.ensures.into_iter_gives.0 over l.invariant.left
