use Rattle.std.proofs.Common.{◌≡◌, ◌+◌, ◌∙◌, length, sym, ap}
use Rattle.std.proofs.lemmas.Result.{err_from_is_err_and}
use Rattle.mp_events.specs.Kinds.{limits_of}
use Rattle.mp_events.specs.Read.{IsRead}
use Rattle.mp_events.specs.declared.line.ReadLine.{ReadLine}
use Rattle.mp_events.proofs.LineSteps.{fails_a_field, fails_order, passes_all}
use Rattle.mp_events.proofs.line.read_line.Goals as goal

pub returns-in_err-numbers : goal.returns-in_err-numbers
returns-in_err-numbers c =
    let p = err_from_is_err_and c.from_residual-in_err-numbers.result c.from_residual-in_err-numbers.ensures.1 in
    let kind = c.in_ok-kind.kind in
    let same : length c.args.fields.now ≡ length (limits_of kind) + 1 = sym c.count.ensures ∙ c.if-count-limits.false ∙ ap (λ ls. length ls + 1) c.limits-limits.ensures.limits in
    let fails = rw c.limits-limits.ensures.limits at c.in_err-numbers.ensures in
    rw (p.1, p.2) (fails_a_field c.args.before c.args.fields.now kind _ c.if-before-ge-MAX_EVENTS.false (sym c.of.ensures ∙ c.in_ok-kind.ensures.ok_part) same fails)

pub returns-then-not-is_ordered : goal.returns-then-not-is_ordered
returns-then-not-is_ordered c =
    let line : ReadLine = record { kind = c.in_ok-kind.kind; numbers = c.in_ok-numbers.numbers } in
    let same : length c.args.fields.now ≡ length (limits_of line.kind) + 1 = sym c.count.ensures ∙ c.if-count-limits.false ∙ ap (λ ls. length ls + 1) c.limits-limits.ensures.limits in
    let read = rw c.limits-limits.ensures.limits at c.in_ok-numbers.ensures in
    let is : IsRead c.args.fields.now line = record { kind = sym c.of.ensures ∙ c.in_ok-kind.ensures.ok_part; passed = record { count = same; pass = read.0 }; numbers = read.1 } in
    fails_order c.args.before c.args.fields.now line c.if-before-ge-MAX_EVENTS.false is c.if-not-is_ordered.ensures

pub returns : goal.returns
returns c =
    let line : ReadLine = record { kind = c.in_ok-kind.kind; numbers = c.in_ok-numbers.numbers } in
    let same : length c.args.fields.now ≡ length (limits_of line.kind) + 1 = sym c.count.ensures ∙ c.if-count-limits.false ∙ ap (λ ls. length ls + 1) c.limits-limits.ensures.limits in
    let read = rw c.limits-limits.ensures.limits at c.in_ok-numbers.ensures in
    let is : IsRead c.args.fields.now line = record { kind = sym c.of.ensures ∙ c.in_ok-kind.ensures.ok_part; passed = record { count = same; pass = read.0 }; numbers = read.1 } in
    (passes_all c.args.before c.args.fields.now line c.if-before-ge-MAX_EVENTS.false is c.if-not-is_ordered.ensures, is)
