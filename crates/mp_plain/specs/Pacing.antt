-- What moves at one time among workers on one thread, in a paced run.
use Rattle.std.specs.Prelude.{◌≡◌, ◌<◌, ℕ, Some, true, slice_get}
use Rattle.mp_names.specs.declared.names.Name.TheVariants.{Ctrl, Packet}
use Rattle.mp_names.specs.Names.{In}
use Rattle.mp_names.specs.Outlines.{IsMove, Outline, control_at, owner_at}
use Rattle.mp_machine.specs.Holding.{IsOnTheWay}
use Rattle.mp_machine.specs.Worlds.{World}
use Rattle.mp_worker_refinement.specs.State.{WorkerState}
use Rattle.mp_worker_refinement.specs.SystemState.{Refines, SystemState}

-- The workers are in a state of the machine in which all packets that are sent and not taken have one time, where the job is paced. And where a control record is sent, every packet of a time below its own is taken
pub record KeepPace (o : Outline) (t : SystemState) : Type 0 where
  pub world : World
  pub state : Refines o t.post.depth t world
  pub one_time : o.paced ≡ true → (j b m i c n : ℕ) → IsMove o j b m → IsMove o i c n → IsOnTheWay o world j b m → IsOnTheWay o world i c n → m ≡ n
  pub wait : o.paced ≡ true → (w i v j b m : ℕ) (sender owner : WorkerState) → slice_get t.workers w ≡ Some sender → In (Ctrl i v) sender.log.sent
      → IsMove o j b m → m < (control_at o i).time → slice_get t.workers (owner_at o j b m) ≡ Some owner → In (Packet j b m) owner.log.took
