-- The room of plain queues.
use Rattle.std.specs.Prelude.{◌≡◌, ℕ, ◌*◌, ◌≤◌, List, All, length}
use Rattle.std.specs.VecDeque.{deque_capacity}
use Rattle.std.specs.declared.collections.VecDeque.{VecDeque}

-- there is a queue for each ordered pair of workers, with room for `depth` messages, and no queue holds more
pub record HasRoom {M A : Type 0} (workers depth : ℕ) (queues : List (VecDeque M A)) : Type 0 where
  pub square : length queues ≡ workers * workers
  pub room : All (λ q. depth ≤ deque_capacity q) queues
  pub bounded : All (λ q. length q.items ≤ depth) queues
