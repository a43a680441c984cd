-- The ends of a queue, as contracts see them.
use Rattle.std.specs.Prelude.{◌≡◌, ℕ, ◌<◌, List, [], ◌∷◌, ◌++◌, length}
use mathlib.Core.List.{IsPrefix}
use Rattle.atomic_table.specs.Seated.{TableId}

-- its queue with the edge and how many messages that holds, and what the end knows: a beginning of what was pushed, which for a sender is all of it, and a beginning of what was popped, which for a receiver is all of it
pub record EndState (M : Type 0) : Type 0 where
  pub queue : TableId
  pub from : ℕ
  pub to : ℕ
  pub depth : ℕ
  pub sent : List M
  pub got : List M

module _ {M : Type 0} where
  -- of these messages that were sent, of which these are known to be popped, just these items waited at one moment
  abbrev pub Waits : List M → List M → List M → Type 0
  Waits sent known items = (got : List M) × IsPrefix known got × (sent ≡ got ++ items)

  -- at the push's step fewer messages waited than the queue holds
  abbrev pub HadRoom : EndState M → Type 0
  HadRoom end = (items : List M) × Waits end.sent end.got items × (length items < end.depth)

  -- at one moment of the call as many messages waited as the queue holds
  abbrev pub WasFull : EndState M → Type 0
  WasFull end = (items : List M) × Waits end.sent end.got items × (length items ≡ end.depth)

  -- at one moment of the call no message waited: all that was sent had been popped, and so all that the receiver knows to be sent
  abbrev pub WasEmpty : EndState M → Type 0
  WasEmpty end = (sent : List M) × IsPrefix end.sent sent × (sent ≡ end.got)

  abbrev pub with_sent : EndState M → M → EndState M
  with_sent end message = record end { sent = end.sent ++ message ∷ [] }

  abbrev pub with_got : EndState M → M → EndState M
  with_got end message = record end { got = end.got ++ message ∷ [] }

  -- a new end of a queue from a worker to a worker
  pub record IsNewEnd (from to depth : ℕ) (end : EndState M) : Type 0 where
    pub from_is : end.from ≡ from
    pub to_is : end.to ≡ to
    pub depth_is : end.depth ≡ depth
    pub sent_is : end.sent ≡ []
    pub got_is : end.got ≡ []
