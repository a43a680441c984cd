-- Each key stands once.
use Rattle.std.proofs.Common.{◌∙◌, sym}
use Rattle.mp_msg.proofs.Sorted.{length-by_key}
use Rattle.mp_handoff.proofs.sent.count_of_keys.Goals as goal

pub returns : goal.returns
returns g c = rw (← c.state.view_is) (c.len.ensures.len ∙ sym (length-by_key c.state.inside.cells.entries c.len.ensures.unique))
