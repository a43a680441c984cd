-- Plain queues as data, and what they stand for.
use Rattle.std.specs.Prelude.{◌≡◌, ℕ, ◌+◌, ◌*◌, ◌<◌, List, [], ◌++◌, length, replicate, map, slice_index_or}
use Rattle.mp_mailbox.specs.Names.{Distinct, names_of, OnEdge}

-- how many workers there are, how many messages each queue takes, and what is queued, by sender and then by receiver
pub record Queues (M : Type 0) : Type 0 where
  pub workers : ℕ
  pub depth : ℕ
  pub queued : List (List M)

module _ {M : Type 0} where
  -- what is queued from a worker to a worker, the oldest first
  abbrev pub queue_between : Queues M → ℕ → ℕ → List M
  queue_between p from to = slice_index_or p.queued (from * p.workers + to) []

  -- queues in which nothing waits
  abbrev pub empty_queues : ℕ → ℕ → Queues M
  empty_queues workers depth = record { workers = workers; depth = depth; queued = replicate (workers * workers) [] }

  abbrev pub HadRoom : Queues M → ℕ → ℕ → Type 0
  HadRoom p from to = length (queue_between p from to) < p.depth

  abbrev pub WasFull : Queues M → ℕ → ℕ → Type 0
  WasFull p from to = length (queue_between p from to) ≡ p.depth

  abbrev pub WasEmpty : Queues M → ℕ → ℕ → Type 0
  WasEmpty p from to = queue_between p from to ≡ []

  -- what was pushed is what was popped and then what is queued, each name once, and each message that is queued goes along this edge
  pub record PlainDenotes {N : Type 0} (names : M → List N) (message_from message_to : M → ℕ) (p : Queues M) (from to : ℕ) (pushed popped : List N) : Type 0 where
    pub sender : from < p.workers
    pub receiver : to < p.workers
    pub whole : pushed ≡ popped ++ names_of names (queue_between p from to)
    pub once : Distinct pushed
    pub edge : OnEdge message_from message_to from to (queue_between p from to)

  -- these messages are queued on this edge, each with its names
  pub record PlainWaits {N : Type 0} (names : M → List N) (p : Queues M) (from to : ℕ) (messages : List (List N)) : Type 0 where
    pub sender : from < p.workers
    pub receiver : to < p.workers
    pub queued : map names (queue_between p from to) ≡ messages
