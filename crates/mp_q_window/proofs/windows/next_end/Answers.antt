use Rattle.mp_q_window.proofs.Ends.{first_end_within}
use Rattle.mp_q_window.proofs.windows.next_end.Goals as goal

pub returns-clause-within : goal.returns-clause-within
returns-clause-within c = first_end_within c.args.width c.args.time c.requires.some_width
