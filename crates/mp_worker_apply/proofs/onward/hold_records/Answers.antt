use Rattle.std.proofs.Common.{◌∙◌, List, subst, sym, arith}
use Rattle.std.specs.Vec.Iter.{into_iter_items}
use Rattle.mp_model.specs.declared.value.Value.{Value}
use Rattle.mp_model.specs.Tables.{table_of}
use Rattle.mp_worker_apply.proofs.OneByOne.{RecordsLeft, all_left, later_key, next_is, next_left, next_passed, none_left}
use Rattle.mp_worker_apply.proofs.onward.hold_records.Goals as goal

pub loop-value-init : goal.loop-value-init
loop-value-init g c =
    let a = c.args in
    let job = g.J.Naming.job in
    let q = table_of g.Q.Query.facts job in
    let r = c.requires in
    let into = c.into_iter-value-iterator in
    record { count = omega arith; left = all_left q job c.args.stage a.time a.group c.args.router.now a.outputs.items (into_iter_items into.result) into.ensures.into_iter_gives.0 r.records r.room r.stage }

pub hold-requires-after_bounds : goal.hold-requires-after_bounds
hold-requires-after_bounds g c κs within =
    let a = c.args in
    let job = g.J.Naming.job in
    let q = table_of g.Q.Query.facts job in
    let all = into_iter_items c.into_iter-value-iterator.result in
    let l = c.loop-value in
    let left = subst (λ (vs : List Value). RecordsLeft q job c.args.stage a.time a.group all c.args.router.now l.place vs l.router) c.in-Some.ensures.steps.0 l.invariant.left in
    let own = later_key g.Q.Query.facts job c.args.stage a.time c.in-Some.value c.requires.next in
    let keyed = own ∙ sym (rw c.requires.rules at c.key.ensures) ∙ c.in-Some-key.is in
    next_is q job c.args.stage a.time a.group all c.args.router.now l.place c.in-Some.value (into_iter_items c.next.new.self) l.router left c.in-Some-key.key keyed

pub loop-value-preserved : goal.loop-value-preserved
loop-value-preserved g c =
    let a = c.args in
    let job = g.J.Naming.job in
    let q = table_of g.Q.Query.facts job in
    let all = into_iter_items c.into_iter-value-iterator.result in
    let l = c.loop-value in
    let left = subst (λ (vs : List Value). RecordsLeft q job c.args.stage a.time a.group all c.args.router.now l.place vs l.router) c.in-Some.ensures.steps.0 l.invariant.left in
    let own = later_key g.Q.Query.facts job c.args.stage a.time c.in-Some.value c.requires.next in
    let keyed = own ∙ sym (rw c.requires.rules at c.key.ensures) ∙ c.in-Some-key.is in
    let held = c.in_ok-hold.ensures in
    let count = l.invariant.count in
    let fewer = c.in-Some.ensures.steps.1 in
    record {
      count = omega arith;
      left = next_left q job c.args.stage a.time a.group all c.args.router.now l.place c.in-Some.value (into_iter_items c.next.new.self) l.router left c.in-Some-key.key keyed c.hold.new.self held.stage held.room held.in_turn;
    }

pub loop-value-preserved-in_default : goal.loop-value-preserved-in_default
loop-value-preserved-in_default g c =
    let a = c.args in
    let job = g.J.Naming.job in
    let q = table_of g.Q.Query.facts job in
    let all = into_iter_items c.into_iter-value-iterator.result in
    let l = c.loop-value in
    let left = subst (λ (vs : List Value). RecordsLeft q job c.args.stage a.time a.group all c.args.router.now l.place vs l.router) c.in-Some.ensures.steps.0 l.invariant.left in
    let own = later_key g.Q.Query.facts job c.args.stage a.time c.in-Some.value c.requires.next in
    let none = own ∙ sym (rw c.requires.rules at c.key.ensures) ∙ c.in_default.is in
    let count = l.invariant.count in
    let fewer = c.in-Some.ensures.steps.1 in
    record {
      count = omega arith;
      left = next_passed q job c.args.stage a.time a.group all c.args.router.now l.place c.in-Some.value (into_iter_items c.next.new.self) l.router left none;
    }

pub returns-clause-held : goal.returns-clause-held
returns-clause-held g c =
    let a = c.args in
    let job = g.J.Naming.job in
    let q = table_of g.Q.Query.facts job in
    let l = c.loop-value in
    let into = c.into_iter-value-iterator in
    let over = sym l.value-iterator.rest.ok.0 ∙ c.in-None.ensures.steps.0 in
    none_left q job c.args.stage a.time a.group c.args.router.now a.outputs.items (into_iter_items into.result) (into_iter_items l.value-iterator) l.place l.router into.ensures.into_iter_gives.0 over l.invariant.left
