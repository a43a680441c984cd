use Rattle.mp_host.proofs.Kept.{of_the_run}
use Rattle.mp_host.proofs.host.Host.first.Goals as goal

pub returns-clause-hosted : goal.returns-clause-hosted
returns-clause-hosted g c = of_the_run c.self.view_is c.self.invariant
