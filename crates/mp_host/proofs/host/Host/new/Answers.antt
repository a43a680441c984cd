use Rattle.std.proofs.Common.{◌<◌}
use Rattle.std.proofs.lemmas.List.Elements.{All-weaker}
use Rattle.mp_model.specs.Tables.{table_of}
use Rattle.mp_job.proofs.Runs.{run_is_legal}
use Rattle.mp_host_laws.proofs.Beginning.{new_hosts_hold_the_opening}
use Rattle.mp_host.specs.Hosts.{MayBeHeld}
use Rattle.mp_host.proofs.Kept.{first_fit, new_hosted, new_of_run}
use Rattle.mp_host.proofs.host.Host.new.Goals as goal

pub new-requires-clause-bins : goal.new-requires-clause-bins
new-requires-clause-bins g c = rw c.shape.ensures.shape c.in_ok-held.ensures.legal.shape.bins

pub new-requires-clause-inside : goal.new-requires-clause-inside
new-requires-clause-inside g c =
    let job = c.args.job.now in
    let q = table_of g.Q.Query.facts job in
    let fit = first_fit q job c.args.stage c.args.worker _ c.in_ok-held.ensures.first in
    rw c.shape.ensures.shape (All-weaker (MayBeHeld q job c.args.stage) (λ s. s.bin < job.shape.bins) (λ s f. f.denotes.bin) _ fit)

pub invariant_of-result : goal.invariant_of-result
invariant_of-result g c = (rw (← c.shape.ensures.shape) c.in_ok-states.ensures.bins, tt)

pub invariant_of-result-2 : goal.invariant_of-result-2
invariant_of-result-2 g c =
    let job = g.J.Naming.job in
    let legal = run_is_legal c.args.job.now job c.requires.job g.Q.Query.facts c.in_ok-held.ensures.legal in
    let new = new_of_run g.Q.Query.facts c.args.job.now job c.requires.job _ c.new-2.ensures (rw (← c.in_ok-states.ensures.held) at c.in_ok-held.ensures.first) in
    new_hosted _ job _ _ c.requires.job legal c.requires.stage c.requires.worker new

pub returns-clause-new : goal.returns-clause-new
returns-clause-new g c = new_of_run g.Q.Query.facts c.args.job.now g.J.Naming.job c.requires.job _ c.new-2.ensures (rw (← c.in_ok-states.ensures.held) at c.in_ok-held.ensures.first)

pub returns-clause-held : goal.returns-clause-held
returns-clause-held g c =
    let job = g.J.Naming.job in
    let legal = run_is_legal c.args.job.now job c.requires.job g.Q.Query.facts c.in_ok-held.ensures.legal in
    new_hosts_hold_the_opening (table_of g.Q.Query.facts job) job legal _
    (new_of_run g.Q.Query.facts c.args.job.now job c.requires.job _ c.new-2.ensures (rw (← c.in_ok-states.ensures.held) at c.in_ok-held.ensures.first))
