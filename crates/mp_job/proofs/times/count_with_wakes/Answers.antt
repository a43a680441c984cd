use Rattle.std.proofs.Common.{◌∙◌, ap, length}
use Rattle.mp_shares.proofs.Same.{ascending-same}
use Rattle.mp_job.proofs.times.count_with_wakes.Goals as goal

pub returns : goal.returns
returns g c = c.len.ensures ∙ c.put_in_order.new.times.ok.0 ∙ ap length (c.put_in_order.ensures ∙ ascending-same _ _ c.in_ok-add_wake_times.ensures)
