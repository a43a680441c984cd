-- The next line is the next of the answer, or the answer is another.
use Rattle.std.proofs.Common.{◌≡◌, ◌++◌, rules}
use Rattle.std.specs.List.{flat_map}
use Rattle.mp_model.specs.Answers.{in_order, line_of}
use Rattle.mp_job_lists.proofs.Lines.{differs, goes_on}
use Rattle.mp_job_lists.proofs.answer.is_answer.Goals as goal

pub returns-in-None-strip_prefix : goal.returns-in-None-strip_prefix
returns-in-None-strip_prefix c =
    let left : flat_map line_of c.loop-place.place-iterator ≡ c.as_slice.result.now ++ flat_map line_of c.next.new.self = search rules in
    differs c.args.answer.now (flat_map line_of (in_order c.args.rows.items)) c.loop-place.rest.now c.as_slice.result.now (flat_map line_of c.next.new.self) (flat_map line_of c.loop-place.place-iterator) c.loop-place.invariant left c.in-None-strip_prefix.ensures.cases

pub loop-place-preserved-in-Some-strip_prefix : goal.loop-place-preserved-in-Some-strip_prefix
loop-place-preserved-in-Some-strip_prefix c =
    let left : flat_map line_of c.loop-place.place-iterator ≡ c.as_slice.result.now ++ flat_map line_of c.next.new.self = search rules in
    goes_on c.args.answer.now (flat_map line_of (in_order c.args.rows.items)) c.loop-place.rest.now c.as_slice.result.now (flat_map line_of c.next.new.self) (flat_map line_of c.loop-place.place-iterator) c.loop-place.invariant left c.in-Some-strip_prefix.after.now c.in-Some-strip_prefix.ensures.cases.0 c.in-Some-strip_prefix.ensures.cases.1

pub loop-place-preserved-in-Some-strip_prefix-2 : goal.loop-place-preserved-in-Some-strip_prefix-2
loop-place-preserved-in-Some-strip_prefix-2 c =
    let left : flat_map line_of c.loop-place.place-iterator ≡ c.as_slice.result.now ++ flat_map line_of c.next.new.self = search rules in
    goes_on c.args.answer.now (flat_map line_of (in_order c.args.rows.items)) c.loop-place.rest.now c.as_slice.result.now (flat_map line_of c.next.new.self) (flat_map line_of c.loop-place.place-iterator) c.loop-place.invariant left c.in-Some-strip_prefix.after.now c.in-Some-strip_prefix.ensures.cases.0 c.in-Some-strip_prefix.ensures.cases.1

pub loop-place-preserved : goal.loop-place-preserved
loop-place-preserved c =
    let left : flat_map line_of c.loop-place.place-iterator ≡ c.as_slice.result.now ++ flat_map line_of c.next.new.self = search rules in
    goes_on c.args.answer.now (flat_map line_of (in_order c.args.rows.items)) c.loop-place.rest.now c.as_slice.result.now (flat_map line_of c.next.new.self) (flat_map line_of c.loop-place.place-iterator) c.loop-place.invariant left c.in-Some-strip_prefix.after.now c.in-Some-strip_prefix.ensures.cases.0 c.in-Some-strip_prefix.ensures.cases.1
