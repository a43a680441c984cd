use Rattle.mp_host.proofs.WakesOf.{by_first_then, by_second_alone}
use Rattle.mp_host.proofs.host.Host.waits_at_post.Goals as goal

pub returns-then-is_woken : goal.returns-then-is_woken
returns-then-is_woken g c = by_second_alone c.is_woken.result _ _ c.is_woken.ensures c.if-is_woken.true

pub returns-else-is_woken : goal.returns-else-is_woken
returns-else-is_woken g c = by_first_then c.is_woken.result c.has_record.result _ _ c.is_woken.ensures c.if-is_woken.false c.has_record.ensures.here
