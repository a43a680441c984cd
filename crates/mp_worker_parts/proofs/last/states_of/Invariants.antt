-- The states that are gathered, and the hosts that are left.
use Rattle.std.proofs.Common.{◌≡◌, ◌++◌, All}
use Rattle.std.specs.List.{flat_map}
use Rattle.std.specs.Vec.Iter.{into_iter_items}
use Rattle.mp_model.specs.Tables.{table_of}
use Rattle.mp_host_laws.specs.Last.{EndsWithLastStates}
use Rattle.mp_worker_parts.specs.Last.{staged}
use Rattle.mp_worker_parts.proofs.last.states_of.Given as goal

abbrev pub invariant-loop-host : goal.invariant-loop-host
invariant-loop-host g l =
    let job = g.J.Naming.job in
    let ends = EndsWithLastStates (table_of g.Q.Query.facts job) job in
    let rest = into_iter_items l.host-iterator in
    record {
      next : (goal.iterator-loop-host g).can_next l.host-iterator × (goal.iterator-loop-host g).is_finite l.host-iterator;
      states : l.states.items ++ flat_map staged rest ≡ flat_map staged l.fn.hosts.items;
      last : All ends rest → All ends l.fn.hosts.items;
    }
