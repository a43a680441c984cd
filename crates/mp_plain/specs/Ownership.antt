-- Who owns bins and groups among workers on one thread.
use Rattle.std.specs.Prelude.{◌≡◌, ◌⊎◌, ◌<◌, ℕ, Some, slice_get}
use Rattle.mp_names.specs.declared.names.Name.TheVariants.{Group}
use Rattle.mp_names.specs.Names.{Distinct, In}
use Rattle.mp_names.specs.Outlines.{Outline, group_owner}
use Rattle.mp_machine.specs.Holding.{HasOneHolder, HasOnePacket}
use Rattle.mp_machine.specs.Worlds.{World}
use Rattle.mp_worker_refinement.specs.State.{WorkerState}
use Rattle.mp_worker_refinement.specs.SystemState.{Refines, SystemState}

-- The workers are in a state of the machine in which each bin of each stage has one holder or one packet on the way, never both. A group is applied by its owner alone, so it is in no two logs, and twice in none
pub record KeepOwnership (o : Outline) (t : SystemState) : Type 0 where
  pub world : World
  pub state : Refines o t.post.depth t world
  pub bins : (j b : ℕ) → j < o.stages → b < o.bins → HasOneHolder o world j b ⊎ HasOnePacket o world j b
  pub owner : (w j u k : ℕ) (s : WorkerState) → slice_get t.workers w ≡ Some s → In (Group j u k) s.log.applied → group_owner o j u k ≡ w
  pub once : (w : ℕ) (s : WorkerState) → slice_get t.workers w ≡ Some s → Distinct s.log.applied
