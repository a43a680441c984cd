-- The messages of a worker to itself.
use Rattle.std.specs.Prelude.{◌≡◌, ℕ, List, ◌++◌}
use Rattle.mp_mailbox.specs.Names.{Distinct, names_of}

-- how many messages may wait, and those that do, the oldest first
pub record OwnState (M : Type 0) : Type 0 where
  pub depth : ℕ
  pub waiting : List M

-- what was pushed is what was popped and then what waits, each name once
pub record OwnStands {M N : Type 0} (names : M → List N) (waiting : List M) (pushed popped : List N) : Type 0 where
  pub whole : pushed ≡ popped ++ names_of names waiting
  pub once : Distinct pushed
