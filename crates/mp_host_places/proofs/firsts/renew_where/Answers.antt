use Rattle.std.proofs.Common.{◌∙◌, sym}
use Rattle.mp_host_places.proofs.firsts.renew_where.Goals as goal

pub returns-then-changes : goal.returns-then-changes
returns-then-changes g c = λ bins was are others. c.renew.ensures bins was are (λ b ne. others b (λ e. absurd (ne e)))

pub returns-else-changes : goal.returns-else-changes
returns-else-changes g c = λ bins was are others. record { count = are.count; each = λ b l. are.each b l ∙ sym (others b (λ e. c.if-changes.false)) }
