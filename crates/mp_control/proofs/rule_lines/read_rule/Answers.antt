use Rattle.std.proofs.Common.{◌≡◌, ◌∙◌, [], Some, ap, rules, subst, sym}
use Rattle.std.specs.List.{slice_get}
use Rattle.std.proofs.lemmas.Option.{get_or_from_slice_get}
use Rattle.mp_control.specs.Values.{failures_of_rule_fields, place_of}
use Rattle.mp_control.proofs.ValuesSaid.{passes_rule}
use Rattle.mp_lines.specs.Checks.{field_at}
use Rattle.mp_control.proofs.rule_lines.read_rule.Goals as goal

pub returns : goal.returns
returns c =
    let fields = c.args.fields.now in
    let first : slice_get fields 1 ≡ Some c.unwrap.result.now = search rules in
    let second : slice_get fields 2 ≡ Some c.unwrap-2.result.now = search rules in
    let name : field_at fields 1 ≡ c.unwrap.result.now = get_or_from_slice_get fields 1 c.unwrap.result.now [] first in
    let value : field_at fields 2 ≡ c.unwrap-2.result.now = get_or_from_slice_get fields 2 c.unwrap-2.result.now [] second in
    let place : place_of c.args.rules.now (field_at fields 1) ≡ Some c.in_ok-place.place = ap (place_of c.args.rules.now) name ∙ sym c.place_of.ensures ∙ c.in_ok-place.ensures.ok_part in
    let read = rw (← value) at c.in_ok-value.ensures in
    let there = ap (λ rules. place_of rules (field_at fields 1)) c.as_slice.ensures ∙ place in (
      subst (λ rules. failures_of_rule_fields rules fields ≡ []) c.as_slice.ensures
          (passes_rule c.as_slice.result.now fields c.in_ok-place.place _ (sym c.count.ensures ∙ c.if-count-ne3.false) there read.0),
      (place, read.1),
    )
