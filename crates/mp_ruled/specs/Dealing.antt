-- How the ends of all queues are dealt: `rows` has the ends that push, by sender and then by receiver, and `columns` those that pop, by receiver and then by sender.
use Rattle.std.specs.Prelude.{◌≡◌, ℕ, ◌≤◌, List, [], ◌∷◌, ◌++◌, Some, map, length, slice_get}
use Rattle.std.specs.declared.vec.Vec.{Vec}
use Rattle.mp_ruled.specs.Ends.{EndState, IsNewEnd}
use Rattle.mp_ruled.specs.Posts.{PostState, HasEnds}

-- the lists in a list of vectors
abbrev pub lists_of : {X A : Type 0} → List (Vec X A) → List (List X)
lists_of vectors = map (λ v. v.items) vectors

module _ {M : Type 0} where
  -- the two ends of one new queue
  pub record AreEnds (from to depth : ℕ) (sender receiver : EndState M) : Type 0 where
    pub sender_is : IsNewEnd from to depth sender
    pub receiver_is : IsNewEnd from to depth receiver
    pub one_queue : sender.queue ≡ receiver.queue

  -- one more sender has so much of its row, and the columns have the other ends of these queues
  pub record DealsRow (from depth : ℕ) (row : List (EndState M)) (old new : List (List (EndState M))) : Type 0 where
    pub as_many : length new ≡ length old
    pub dealt : (to : ℕ) (sender : EndState M) → slice_get row to ≡ Some sender
        → (column : List (EndState M)) × (receiver : EndState M) × (slice_get old to ≡ Some column) × (slice_get new to ≡ Some (column ++ receiver ∷ [])) × AreEnds from to depth sender receiver
    pub others : (to : ℕ) → length row ≤ to → slice_get new to ≡ slice_get old to

  -- the first senders have their rows, and each column has the other ends
  pub record AreDealt (workers depth : ℕ) (rows columns : List (List (EndState M))) : Type 0 where
    pub all_columns : length columns ≡ workers
    pub wide : (from : ℕ) (row : List (EndState M)) → slice_get rows from ≡ Some row → length row ≡ workers
    pub high : (to : ℕ) (column : List (EndState M)) → slice_get columns to ≡ Some column → length column ≡ length rows
    pub joint : (from to : ℕ) (row : List (EndState M)) (sender : EndState M) → slice_get rows from ≡ Some row → slice_get row to ≡ Some sender
        → (column : List (EndState M)) × (receiver : EndState M) × (slice_get columns to ≡ Some column) × (slice_get column from ≡ Some receiver) × AreEnds from to depth sender receiver

  -- what each worker gets are its ends
  abbrev pub FitWorkers : List (List (EndState M)) → List (List (EndState M)) → Type 0
  FitWorkers rows columns = (k : ℕ) (row column : List (EndState M)) → slice_get rows k ≡ Some row → slice_get columns k ≡ Some column → HasEnds k row column

  -- the post of a worker has the worker's row and column, and no messages to itself, of which so many may wait
  pub record HasItsEnds (depth : ℕ) (rows columns : List (List (EndState M))) (k : ℕ) (p : PostState M) : Type 0 where
    pub worker_is : p.worker ≡ k
    pub row : slice_get rows k ≡ Some p.senders
    pub column : slice_get columns k ≡ Some p.receivers
    pub own_is : p.own ≡ record { depth = depth; waiting = [] }

  -- each post has those of the worker at its place
  abbrev pub HaveEnds : ℕ → List (List (EndState M)) → List (List (EndState M)) → List (PostState M) → Type 0
  HaveEnds depth rows columns posts = (k : ℕ) (p : PostState M) → slice_get posts k ≡ Some p → HasItsEnds depth rows columns k p
