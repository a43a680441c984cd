-- The first line of what is left, and the end where nothing is left.
use Rattle.std.proofs.Common.{◌≡◌, [], ◌∷◌, length, refl, ap, sym, ◌∙◌, arith}
use Rattle.std.proofs.lemmas.Bool.{eqb-true, eqb-false}
use Rattle.std.proofs.lemmas.List.{nil_from_length}
use Rattle.mp_text.specs.Lines.{LinesLeft, lines_of}
use Rattle.mp_text.proofs.LineLemmas.{lines_of-nil, lines_of-step}
use Rattle.mp_text.proofs.cutting.LinesIterator.next.Goals as goal

pub returns-then-is_empty-clause-steps : goal.returns-then-is_empty-clause-steps
returns-then-is_empty-clause-steps c =
    let none : c.self.inside.rest.now ≡ [] = nil_from_length _ (eqb-true _ _ (sym c.is_empty.ensures ∙ c.if-is_empty.true)) in
    (sym (ap (λ (left : LinesLeft). left.lines) c.self.view_is) ∙ ap lines_of none ∙ lines_of-nil, refl)

-- what was left begins with this line
lines-is : (c : goal.After-without_carriage_return) → c.args.self.now.lines ≡ c.without_carriage_return.result.now ∷ lines_of c.first_part.result.1.now
lines-is c =
    let some = eqb-false _ _ (sym c.is_empty.ensures ∙ c.if-is_empty.false) in
    let step = lines_of-step c.self.inside.rest.now (omega (arith, some)) in
    sym (ap (λ (left : LinesLeft). left.lines) c.self.view_is)
    ∙ step ∙ cc (c.first_part.ensures.part, c.first_part.ensures.rest, c.without_carriage_return.ensures)

pub returns-clause-steps : goal.returns-clause-steps
returns-clause-steps c =
    let number = ap (λ (left : LinesLeft). left.number) c.self.view_is in
    record {
      number = number;
      bytes = lines-is c;
      counted = omega (arith, number);
    }

pub returns-clause-goes : goal.returns-clause-goes
returns-clause-goes c =
    let shorter = ap length (lines-is c) in
    record {
      on = λ finite. (tt, finite, omega (arith, shorter));
      keeps = tt;
      rests = λ _. tt;
    }
