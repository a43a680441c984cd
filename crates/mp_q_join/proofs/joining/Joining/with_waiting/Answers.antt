use Rattle.std.proofs.Common.{◌∙◌, ap, sym}
use Rattle.std.specs.Option.{option_map}
use Rattle.mp_q_join.specs.Laws.Texts.{waiting_told}
use Rattle.mp_q_join.proofs.joining.Joining.with_waiting.Goals as goal

pub returns : goal.returns
returns c =
    waiting_told c.args.words.now c.in-Some.text.now c.in-Some-2.waiting.items c.in-Some.ensures (sym (ap (option_map (λ v. v.items)) c.in-Some-2.is) ∙ c.in_ok-waiting.ensures)
