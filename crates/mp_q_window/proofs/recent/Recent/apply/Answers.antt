use Rattle.std.proofs.Common.{append_assoc, arith}
use Rattle.std.proofs.lemmas.Grind.{common_steps}
use Rattle.std.proofs.lemmas.List.Elements.{filter_map-append}
use Rattle.mp_q_window.proofs.recent.Recent.apply.Goals as goal

pub loop-rec-preserved : goal.loop-rec-preserved
loop-rec-preserved c = grind (arith, common_steps, filter_map-append, append_assoc)
