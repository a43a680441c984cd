-- Workers that take turns on one thread, and when they are in a state of the machine.
use Rattle.std.specs.Prelude.{◌≡◌, ℕ, ◌<◌, List, Some, length, slice_get, slice_set}
use Rattle.mp_names.specs.declared.locations.Loc.{Loc}
use Rattle.mp_names.specs.declared.names.Name.{Name}
use Rattle.mp_names.specs.declared.names.Name.TheVariants.{Row, Written}
use Rattle.mp_names.specs.declared.names.Tag.{Tag}
use Rattle.mp_names.specs.Frontiers.{HasEnded, log_at}
use Rattle.mp_names.specs.Names.{In}
use Rattle.mp_names.specs.Outlines.{Outline}
use Rattle.mp_names.specs.Locations.{IsLocation}
use Rattle.mp_stamps.specs.Seen.{seen_at}
use Rattle.mp_mailbox.specs.Queues.{PlainDenotes, PlainWaits, Queues, queue_between}
use Rattle.mp_msg.specs.Bundles.{receiver_of, sender_of}
use Rattle.mp_machine.specs.Worlds.{Worker, World}
use Rattle.mp_board.specs.Boards.{Posted}
use Rattle.mp_worker_refinement.specs.Ends.{Standing, Waiting, sent_to, took_from}
use Rattle.mp_worker_refinement.specs.State.{WorkerState}

-- what queues of messages stand for, a message being the names that travel in it
abbrev pub queues_denote : Outline → Queues (List Name) → Standing
queues_denote o post = PlainDenotes (λ xs. xs) (sender_of o) (receiver_of o) post

-- the messages that wait in them
abbrev pub queues_wait : Queues (List Name) → Waiting
queues_wait post = PlainWaits (λ xs. xs) post

-- workers by number, their board and their mailboxes
pub record SystemState : Type 0 where
  pub workers : List WorkerState
  pub board : Posted
  pub post : Queues (List Name)

-- the worker is the one of the machine that has this number: it has the same log, posted the same, and saw the same of the outline's locations. The steps that a worker keeps are no part of the machine
pub record IsWorkerOf (o : Outline) (w : ℕ) (s : WorkerState) (worker : Worker) : Type 0 where
  pub number : s.number ≡ w
  pub log : s.log ≡ worker.log
  pub posted : s.posted ≡ worker.posted
  pub seen : (at : Loc) → IsLocation o.stages at → seen_at s.seen at ≡ worker.seen at
  pub version : s.seen.version ≡ worker.version

-- The workers, the board and the mailboxes are those of this state of the machine; a queue holds what was sent and isn't taken, in the machine's messages
pub record Refines (o : Outline) (depth : ℕ) (t : SystemState) (world : World) : Type 0 where
  pub all_workers : length t.workers ≡ o.workers
  pub workers : (w : ℕ) (s : WorkerState) → slice_get t.workers w ≡ Some s → IsWorkerOf o w s (world.worker w)
  pub all_logs : length t.board.logs ≡ o.workers
  pub posted : (w : ℕ) → w < o.workers → log_at t.board.logs w ≡ (world.worker w).posted
  pub version : t.board.version ≡ world.version
  pub all_queues : t.post.workers ≡ o.workers
  pub each_depth : t.post.depth ≡ depth
  pub mail : (v w : ℕ) → v < o.workers → w < o.workers → queues_denote o t.post v w (sent_to o (world.worker v).log w) (took_from o (world.worker w).log v)
  pub messages : (v w : ℕ) → v < o.workers → w < o.workers → queue_between t.post v w ≡ world.mailbox v w

-- with another worker at a number, and other mailboxes
abbrev pub with_worker : SystemState → ℕ → WorkerState → Queues (List Name) → SystemState
with_worker t w s post = record t { workers = slice_set t.workers w s; post = post }

-- The worker knows that all is over: each frontier that it saw has come to the end, and worker 0 has written each row that it took
pub record KnowsTheEnd (o : Outline) (s : WorkerState) : Type 0 where
  pub done : (at : Loc) → IsLocation o.stages at → HasEnded o.until (seen_at s.seen at)
  pub written : s.number ≡ 0 → (t : ℕ) (g : Tag) → In (Row t g) s.log.took → In (Written t) s.log.settled
