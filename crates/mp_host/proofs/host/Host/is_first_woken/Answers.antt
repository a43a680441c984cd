use Rattle.std.proofs.Common.{◌∙◌}
use Rattle.mp_host.proofs.FirstWakes.{first_woken}
use Rattle.mp_host.proofs.host.Host.is_first_woken.Goals as goal
use Rattle.mp_model.specs.Tables.{table_of}

pub returns : goal.returns
returns g c =
    let job = g.J.Naming.job in
    c.eq.ensures ∙ first_woken (table_of g.Q.Query.facts job) job c.args.self.now c.first_wake.ensures.denotes c.args.time c.args.key c.requires c.first_wake.result c.first_wake.ensures.first
