use Rattle.std.proofs.Common.{◌≡◌, ◌<◌, ◌≤◌, ◌∙◌, Some, sym, arith, subst}
use Rattle.mp_control.specs.Kinds.{kind_of, last_time_of, limits_of}
use Rattle.mp_control.specs.Read.{HasSize, IsPassed, StageFits}
use Rattle.mp_control.proofs.LineSteps.{fails_range, passes_all}
use Rattle.mp_control.proofs.Numbers.{fields_pass, has_size, line_of-read, small_numbers, stage_fits}
use Rattle.mp_lines.specs.Checks.{field_at}
use Rattle.mp_names.specs.Limits.{greatest_time}
use Rattle.mp_control.proofs.line.read_line.Goals as goal

pub line_of-line-requires : goal.line_of-line-requires
line_of-line-requires c =
    let read = c.in_ok-numbers.ensures.read in
    small_numbers c.args.shape c.in_ok-kind.kind c.args.fields.now c.in_ok-numbers.numbers (fields_pass (limits_of c.args.shape c.in_ok-kind.kind) c.args.fields.now read.0) read.1 c.in_ok-numbers.ensures.words

pub last_time-requires : goal.last_time-requires
last_time-requires c =
    let kind = c.in_ok-kind.kind in
    let fields = c.args.fields.now in
    let read = c.in_ok-numbers.ensures.read in
    let is = c.line_of-line.ensures ∙ line_of-read c.args.shape kind fields c.in_ok-numbers.numbers read.1 in
    subst HasSize (sym is) (has_size c.args.shape kind fields (fields_pass (limits_of c.args.shape kind) fields read.0))

pub returns-then-last_time-from : goal.returns-then-last_time-from
returns-then-last_time-from c =
    let kind = c.in_ok-kind.kind in
    let fields = c.args.fields.now in
    let read = c.in_ok-numbers.ensures.read in
    let says : kind_of (field_at fields 0) ≡ Some kind = sym c.of.ensures ∙ c.in_ok-kind.ensures.ok_part in
    let is = c.line_of-line.ensures ∙ line_of-read c.args.shape kind fields c.in_ok-numbers.numbers read.1 in
    let late : greatest_time < last_time_of c.args.shape.bins c.line_of-line.result = omega (arith, c.last_time.ensures, c.from.ensures, c.if-last_time-from.true) in
    rw says (fails_range c.args.shape kind fields c.line_of-line.result read.0 is c.requires late)

pub returns : goal.returns
returns c =
    let shape = c.args.shape in
    let kind = c.in_ok-kind.kind in
    let fields = c.args.fields.now in
    let line = c.line_of-line.result in
    let read = c.in_ok-numbers.ensures.read in
    let passed : IsPassed shape kind fields = fields_pass (limits_of shape kind) fields read.0 in
    let says : kind_of (field_at fields 0) ≡ Some kind = sym c.of.ensures ∙ c.in_ok-kind.ensures.ok_part in
    let is = c.line_of-line.ensures ∙ line_of-read shape kind fields c.in_ok-numbers.numbers read.1 in
    let size : HasSize line = subst HasSize (sym is) (has_size shape kind fields passed) in
    let last : last_time_of shape.bins line ≤ greatest_time = omega (arith, c.last_time.ensures, c.from.ensures, c.if-last_time-from.false) in (
      rw says (passes_all shape kind fields line read.0 is size last),
      record {
        kind = kind;
        says = says;
        is = is;
        fits = record { size = size; stage = subst (StageFits shape) (sym is) (stage_fits shape kind fields passed); last = last };
      },
    )
