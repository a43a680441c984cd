use Rattle.std.proofs.Common.{◌∙◌, sym}
use Rattle.std.proofs.lemmas.Bool.{false≢true}
use Rattle.mp_host_steps.proofs.Left.{none_taken}
use Rattle.mp_host_steps.proofs.wakes.take_wake.Goals as goal

pub returns-then-is_woken-clause-exact : goal.returns-then-is_woken-clause-exact
returns-then-is_woken-clause-exact c = rw (c.time.ensures, c.key.ensures) at c.take_due.ensures.exact

pub returns-else-is_woken-clause-exact : goal.returns-else-is_woken-clause-exact
returns-else-is_woken-clause-exact c = none_taken c.args.wakes.now.wakes c.args.group.now.time c.args.group.now.key (λ there. false≢true (sym c.if-is_woken.false ∙ (c.is_woken.ensures ∙ c.requires there)))
