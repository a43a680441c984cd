use Rattle.std.proofs.Common.{ap, sym, ◌∙◌, length}
use Rattle.mp_thread_examples.proofs.Below.{all_popped}
use Rattle.mp_thread_examples.proofs.lines.relay.Goals as goal

pub returns : goal.returns
returns g c =
    let sent = c.join-sender.ensures.first in
    let got = c.join-sender.ensures.second in
    sym got.1 ∙ all_popped _ _ _ c.meets.ensures.prefix sent.1 (ap length got.1 ∙ got.2)
