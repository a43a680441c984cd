-- A worker's parts as a worker of the machine.
use Rattle.mp_stamps.specs.Seen.{seen_at}
use Rattle.mp_machine.specs.Worlds.{Worker}
use Rattle.mp_worker_invariant.specs.Parts.{Parts}

-- the worker of the machine that these are the parts of
abbrev pub machine_worker : {Cell : Type 0} → Parts Cell → Worker
machine_worker p = record { log = p.log; posted = p.posted; seen = seen_at p.seen; version = p.seen.version }
