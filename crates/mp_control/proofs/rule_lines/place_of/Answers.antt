use Rattle.std.proofs.Common.{◌∙◌, ap, sym}
use Rattle.mp_control.specs.Values.{place_of}
use Rattle.mp_control.proofs.ValuesSaid.{place_of-facts}
use Rattle.mp_control.proofs.rule_lines.place_of.Goals as goal

pub returns : goal.returns
returns c =
    c.place_among.ensures ∙ sym (place_of-facts c.as_slice.result.now c.args.name.now) ∙ ap (λ rules. place_of rules c.args.name.now) c.as_slice.ensures
