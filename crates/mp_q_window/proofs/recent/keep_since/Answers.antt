use Rattle.std.proofs.Common.{rules}
use Rattle.std.proofs.lemmas.Fn.{filter_same}
use Rattle.mp_q_window.proofs.recent.keep_since.Goals as goal

pub returns-clause-times : goal.returns-clause-times
returns-clause-times c = filter_same _ _ _ (λ x b f' k. search rules) _ _ c.retain.ensures.filtered
