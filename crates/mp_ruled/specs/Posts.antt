-- The ends of one worker, as contracts see them, and what they stand for.
use Rattle.std.specs.Prelude.{◌≡◌, ◌≢◌, ℕ, ◌<◌, List, [], Some, length, slice_get, IsSomeAnd}
use Rattle.mp_mailbox.specs.Names.{names_of}
use Rattle.mp_ruled.specs.Ends.{EndState, HadRoom, WasFull, WasEmpty, IsNewEnd}
use Rattle.mp_ruled.specs.Own.{OwnState, OwnStands}

-- which worker's ends they are, for each worker the end that pushes to it and the end that pops from it, and the messages to itself, which don't go by its own two ends
pub record PostState (M : Type 0) : Type 0 where
  pub worker : ℕ
  pub senders : List (EndState M)
  pub receivers : List (EndState M)
  pub own : OwnState M

module _ {M : Type 0} where
  -- each end stands at the number of the worker at the other end of its queue
  pub record HasEnds (worker : ℕ) (senders receivers : List (EndState M)) : Type 0 where
    pub square : length receivers ≡ length senders
    pub pushes : (k : ℕ) (end : EndState M) → slice_get senders k ≡ Some end → (end.from ≡ worker) × (end.to ≡ k)
    pub pops : (k : ℕ) (end : EndState M) → slice_get receivers k ≡ Some end → (end.from ≡ k) × (end.to ≡ worker)

  -- where this worker sends to another, its end knows the names that were pushed; where it receives from another, its end knows the names that were popped; and what it sent to itself it received, but for what waits
  pub record RuledStands {N : Type 0} (names : M → List N) (p : PostState M) (from to : ℕ) (pushed popped : List N) : Type 0 where
    pub sent : (end : EndState M) → from ≡ p.worker → to ≢ p.worker → slice_get p.senders to ≡ Some end → pushed ≡ names_of names end.sent
    pub got : (end : EndState M) → to ≡ p.worker → from ≢ p.worker → slice_get p.receivers from ≡ Some end → popped ≡ names_of names end.got
    pub own : from ≡ p.worker → to ≡ p.worker → OwnStands names p.own.waiting pushed popped

  -- the one where the other worker is this one itself, else the other
  abbrev pub IfItself : PostState M → ℕ → Type 0 → Type 0 → Type 0
  IfItself p other Own Others = (other ≡ p.worker → Own) × (other ≢ p.worker → Others)

  abbrev pub SenderHadRoom : PostState M → ℕ → ℕ → Type 0
  SenderHadRoom p from to = IfItself p to (length p.own.waiting < p.own.depth) (IsSomeAnd (slice_get p.senders to) HadRoom)

  abbrev pub SenderWasFull : PostState M → ℕ → ℕ → Type 0
  SenderWasFull p from to = IfItself p to (length p.own.waiting ≡ p.own.depth) (IsSomeAnd (slice_get p.senders to) WasFull)

  abbrev pub ReceiverWasEmpty : PostState M → ℕ → ℕ → Type 0
  ReceiverWasEmpty p from to = IfItself p from (p.own.waiting ≡ []) (IsSomeAnd (slice_get p.receivers from) WasEmpty)

  -- the new ends of one worker out of so many
  pub record IsNewPost (workers depth worker : ℕ) (p : PostState M) : Type 0 where
    pub worker_is : p.worker ≡ worker
    pub to_all : length p.senders ≡ workers
    pub from_all : length p.receivers ≡ workers
    pub pushes : (k : ℕ) (end : EndState M) → slice_get p.senders k ≡ Some end → IsNewEnd worker k depth end
    pub pops : (k : ℕ) (end : EndState M) → slice_get p.receivers k ≡ Some end → IsNewEnd k worker depth end
    pub own_is : p.own ≡ record { depth = depth; waiting = [] }

  -- the end of one worker that pushes to another, and that one's end that pops from it, are of one queue
  abbrev pub AreLinked : List (PostState M) → Type 0
  AreLinked posts = (from to : ℕ) (p q : PostState M) (sender receiver : EndState M)
      → slice_get posts from ≡ Some p → slice_get posts to ≡ Some q
      → slice_get p.senders to ≡ Some sender → slice_get q.receivers from ≡ Some receiver
      → sender.queue ≡ receiver.queue

  -- each post has the new ends of the worker at its place
  abbrev pub AreNewPosts : ℕ → ℕ → List (PostState M) → Type 0
  AreNewPosts workers depth posts = (k : ℕ) (p : PostState M) → slice_get posts k ≡ Some p → IsNewPost workers depth k p

  -- each post stands for no names, on every edge
  abbrev pub StandForNone : {N : Type 0} → (M → List N) → List (PostState M) → Type 0
  StandForNone names posts = (k : ℕ) (p : PostState M) → slice_get posts k ≡ Some p → (from to : ℕ) → RuledStands names p from to [] []
