-- The separators and the end of the line are where its fields end.
use Rattle.std.proofs.Common.{◌≡◌, ◌+◌, ◌++◌, [], ◌∷◌, arith, length, take, sym, ap, ◌∙◌}
use Rattle.std.proofs.lemmas.List.{length_push}
use Rattle.mp_text.proofs.FieldEnds.{ends_from-separators, length-ends_from, length-separators_before, separators_before, separators_before-no, separators_before-yes, separators_before-zero, take-held}
use Rattle.mp_text.proofs.FieldLemmas.{fields_of-nonempty}
use Rattle.mp_text.specs.Fields.{ends_from, fields_of}
use Rattle.mp_text.specs.declared.splitting.TheConstants.{FIELDS_HELD}
use Rattle.mp_text.proofs.splitting.fields.Goals.{then-byte-eq-SEPARATOR, else-byte-eq-SEPARATOR}
use Rattle.mp_text.proofs.splitting.fields.Goals as goal

pub loop-place-init : goal.loop-place-init
loop-place-init c =
    let none = separators_before-zero c.args.line.now in
    record {
      count = ap length (sym none);
      held = c.new-ends.ensures ∙ ap (take FIELDS_HELD) (sym none);
    }

pub overflow_add-separators : goal.overflow_add-separators
overflow_add-separators c = omega (arith, c.loop-place.invariant.count, length-separators_before c.args.line.now c.loop-place.place)

pub loop-place-preserved : goal.loop-place-preserved
loop-place-preserved c =
    let line = c.args.line.now in
    let place = c.loop-place.place in
    let was = c.loop-place.invariant in
    elim c.if-byte-eq-SEPARATOR.branch [
      | then-byte-eq-SEPARATOR w ↦
          let more = separators_before-yes line place w.if-byte-eq-SEPARATOR.true in
          record {
            count = omega (arith, w.separators-is, was.count, ap length more, length_push (separators_before line place) place);
            held =
                rw (w.ends-is, more, ← take-held FIELDS_HELD (separators_before line place) place, ← was.held)
                w.hold_end.ensures;
          }
      | else-byte-eq-SEPARATOR w ↦
          let same = separators_before-no line place w.if-byte-eq-SEPARATOR.false in
          record {
            count = w.separators-is ∙ was.count ∙ ap length (sym same);
            held = rw (w.ends-is, same) was.held;
          }
    ]

pub overflow_add-result : goal.overflow_add-result
overflow_add-result c = omega (arith, c.loop-place.invariant.count, length-separators_before c.args.line.now c.loop-place.place)

pub invariant_of-result : goal.invariant_of-result
invariant_of-result c =
    let line = c.args.line.now in
    let place = c.loop-place.place in
    let was = c.loop-place.invariant in
    let ends : ends_from 0 (fields_of line) ≡ separators_before line place ++ length line ∷ [] = ends_from-separators line place (omega arith) in
    let count : length (fields_of line) ≡ length (separators_before line place) + 1 =
    sym (length-ends_from (fields_of line) 0) ∙ ap length ends ∙ length_push _ _ in (
      omega (arith, was.count, count),
      c.hold_end-2.ensures
          ∙ ap (λ held. take FIELDS_HELD (held ++ length line ∷ [])) was.held
          ∙ take-held FIELDS_HELD (separators_before line place) (length line)
          ∙ ap (take FIELDS_HELD) (sym ends),
    )

pub returns-clause-some : goal.returns-clause-some
returns-clause-some c = fields_of-nonempty c.args.line.now
