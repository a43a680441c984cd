-- The rule of a queue: what it holds, and what the views of its two ends and of all notes have to do with it.
use Rattle.std.specs.Prelude.{◌≡◌, ℕ, ◌<◌, ◌≤◌, true, false, List, [], ◌∷◌, ◌++◌, length}
use mathlib.Core.Option.{some}
use mathlib.Core.List.{IsPrefix}
use lib.ListN.{get_elem?}
use Rattle.mp_mailbox.specs.Names.{Distinct, names_of, OnEdge}
use Rattle.mp_ruled.specs.declared.view.QueueView.{QueueView}
use Rattle.mp_ruled.specs.Ends.{Waits}

module _ {M : Type 0} where
  -- the view of the one end, at this place among the views, of a queue with this edge
  pub record IsEndAt (place from to depth port : ℕ) (v : QueueView M) : Type 0 where
    pub port_is : port ≡ place
    pub from_is : v.from ≡ from
    pub to_is : v.to ≡ to
    pub depth_is : v.depth ≡ depth

  -- what a view may know, by the places of the sender and the receiver, the edge, and what was sent and got
  pub record Knows (writer reader from to depth : ℕ) (sent got : List M) (port : ℕ) (v : QueueView M) : Type 0 where
    pub some_sent : IsPrefix v.sent sent
    pub some_got : IsPrefix v.got got
    pub sends : v.pushes ≡ true → IsEndAt writer from to depth port v × (v.sent ≡ sent)
    pub gets : v.pops ≡ true → IsEndAt reader from to depth port v × (v.got ≡ got)

  -- What was sent is what was got and then what the queue holds, which is no more than its depth; each name was sent once, and each message along the edge
  pub record KeepsOrder {N : Type 0} (names : M → List N) (message_from message_to : M → ℕ) (items : List M) (views : List (QueueView M)) : Type 0 where
    pub writer : ℕ
    pub reader : ℕ
    pub from : ℕ
    pub to : ℕ
    pub depth : ℕ
    pub sent : List M
    pub got : List M
    pub whole : sent ≡ got ++ items
    pub bounded : length items ≤ depth
    pub once : Distinct (names_of names sent)
    pub edge : OnEdge message_from message_to from to sent
    pub knows : (port : ℕ) (v : QueueView M) → get_elem? views port ≡ some v → Knows writer reader from to depth sent got port v

  -- the one view of a new queue
  abbrev pub opening_view : QueueView M
  opening_view = record { pushes = true; pops = true; from = 0; to = 0; depth = 0; sent = []; got = [] }

  abbrev pub sender_view : ℕ → ℕ → ℕ → List M → List M → QueueView M
  sender_view from to depth sent got = record { pushes = true; pops = false; from = from; to = to; depth = depth; sent = sent; got = got }

  abbrev pub receiver_view : ℕ → ℕ → ℕ → List M → List M → QueueView M
  receiver_view from to depth sent got = record { pushes = false; pops = true; from = from; to = to; depth = depth; sent = sent; got = got }

  -- what an end knows, written down
  abbrev pub note_view : QueueView M → QueueView M
  note_view v = record { pushes = false; pops = false; from = v.from; to = v.to; depth = v.depth; sent = v.sent; got = v.got }

  -- what is left of a view that was taken in by another
  abbrev pub blank : QueueView M
  blank = record { pushes = false; pops = false; from = 0; to = 0; depth = 0; sent = []; got = [] }

  -- a view with what another knows to be sent
  abbrev pub knowing_sent : QueueView M → QueueView M → QueueView M
  knowing_sent v w = record { pushes = v.pushes; pops = v.pops; from = v.from; to = v.to; depth = v.depth; sent = w.sent; got = v.got }

  -- a view with what another knows to be got
  abbrev pub knowing_got : QueueView M → QueueView M → QueueView M
  knowing_got v w = record { pushes = v.pushes; pops = v.pops; from = v.from; to = v.to; depth = v.depth; sent = v.sent; got = w.got }

  -- the view of a sender that takes in the receiver's
  abbrev pub both_view : QueueView M → QueueView M → QueueView M
  both_view v w = record { pushes = true; pops = true; from = v.from; to = v.to; depth = v.depth; sent = v.sent; got = w.got }

  abbrev pub sent_more : QueueView M → M → QueueView M
  sent_more v x = record { pushes = v.pushes; pops = v.pops; from = v.from; to = v.to; depth = v.depth; sent = v.sent ++ x ∷ []; got = v.got }

  abbrev pub got_more : QueueView M → M → QueueView M
  got_more v x = record { pushes = v.pushes; pops = v.pops; from = v.from; to = v.to; depth = v.depth; sent = v.sent; got = v.got ++ x ∷ [] }

  -- a message was pushed, where fewer waited than the queue holds
  abbrev pub Pushed : QueueView M → M → QueueView M → Type 0
  Pushed v x w = (w ≡ sent_more v x) × ((items : List M) × Waits v.sent v.got items × (length items < v.depth))

  -- a message was popped, which goes along the edge, and none of whose names was popped before
  abbrev pub Popped : {N : Type 0} → (M → List N) → (M → ℕ) → (M → ℕ) → QueueView M → M → QueueView M → Type 0
  Popped names message_from message_to v x w = (w ≡ got_more v x) × (message_from x ≡ v.from) × (message_to x ≡ v.to) × Distinct (names_of names (v.got ++ x ∷ []))

  -- what was sent, which begins with all that is known to be sent, is what was got and then these items
  abbrev pub Arrives : QueueView M → List M → Type 0
  Arrives v items = (sent : List M) × IsPrefix v.sent sent × (sent ≡ v.got ++ items)

  -- what was sent is what was got and then these items, no more than the queue holds, and each name was sent once
  abbrev pub Met : {N : Type 0} → (M → List N) → QueueView M → List M → Type 0
  Met names v items = (v.sent ≡ v.got ++ items) × (length items ≤ v.depth) × Distinct (names_of names v.sent)
