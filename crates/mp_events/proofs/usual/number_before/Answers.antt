use Rattle.std.proofs.Common.{◌+◌, ◌<◌, ◌∙◌, sym, arith, get_or, length, take}
use Rattle.std.proofs.lemmas.Grind.{common_steps}
use Rattle.std.specs.Int.{IsInRange}
use Rattle.mp_text.proofs.NumberLemmas.{DigitsBelow-next, digit_range, value_of-next, value_of-small}
use Rattle.mp_events.proofs.UsualNumbers.{first_digits, unwrapped}
use Rattle.mp_events.proofs.usual.number_before.Goals as goal

pub loop-place-preserved : goal.loop-place-preserved
loop-place-preserved c =
    let text = c.args.text.now in
    let i = c.loop-place.place in
    let inv = c.loop-place.invariant in
    let here : i < length text = omega (arith, inv.inside, c.if-place-text.false) in
    let digit : IsInRange 48 57 (get_or text i 0) = digit_range (get_or text i 0) (sym c.is_ascii_digit.ensures.value ∙ c.if-is_ascii_digit.true) in
    record {
      inside = omega (arith, here);
      digits = DigitsBelow-next text i inv.digits digit;
      worth = λ few.
          let worth = inv.worth (omega arith) in
          let small = value_of-small text i inv.digits (omega arith) in
          unwrapped c.loop-place.value c.from.result (omega (arith, worth, small)) (omega (arith, c.from.ensures, digit.1))
          ∙ omega (arith, worth, c.from.ensures, value_of-next text i here digit);
    }

pub returns-then-value-greatest : goal.returns-then-value-greatest
returns-then-value-greatest c =
    let text = c.args.text.now in
    let i = c.loop-place.place in
    let inv = c.loop-place.invariant in
    let here : i < length text = omega (arith, inv.inside, c.if-place-text.false) in
    record {
      digits = take i text;
      is = grind (arith, common_steps, here);
      number = first_digits text i inv.digits c.if-place-gt0.true (omega (arith, here));
      worth = sym (inv.worth (omega arith));
      within = c.if-value-greatest.true;
    }
