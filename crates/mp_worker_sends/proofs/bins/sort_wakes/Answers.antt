use Rattle.mp_worker_parts.specs.Below.{again_there}
use Rattle.mp_worker_sends.proofs.bins.sort_wakes.Goals as goal

pub invariant_of-parts : goal.invariant_of-parts
invariant_of-parts g c = rw (again_there c.parts.inside.hosts.items c.args.stage c.index_mut-host.result.now c.sort_wakes.new.self c.index_mut-host.ensures.value c.sort_wakes.ensures) c.parts.invariant
