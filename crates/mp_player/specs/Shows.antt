-- What a player's state tells of a world.
use Rattle.std.specs.Prelude.{◌≡◌, ℕ, ◌-◌, ◌<◌, ◌^◌, ◌++◌, ◌∷◌, suc, cond, Bool, true, false, List, [], get_or, length, Some}
use Rattle.std.specs.List.{slice_get}
use Rattle.mp_names.specs.declared.names.Name.{Name}
use Rattle.mp_names.specs.declared.kinds.Kind.{Kind}
use Rattle.mp_names.specs.declared.kinds.Kind.TheVariants.{Receive}
use Rattle.mp_names.specs.declared.locations.Loc.{Loc}
use Rattle.mp_names.specs.Outlines.{Outline}
use Rattle.mp_machine.specs.Worlds.{World, posted_logs}
use Rattle.mp_machine.specs.Steps.{CanStep, names_of, stepped}
use Rattle.mp_player_laws.specs.WorkLeft.{work_left}
use Rattle.mp_player_laws.specs.Numbers.{StandsAt}
use Rattle.mp_chart.specs.Left.{left_in}
use Rattle.mp_chart.specs.declared.entry.Entry.{Entry}
use Rattle.mp_chart.specs.Entries.{entry_of}
use Rattle.mp_chart.specs.Lists.{to_do}
use Rattle.mp_standing.specs.declared.message.Message.{Message}
use Rattle.mp_standing.specs.Boxes.{box_of, with_box}
use Rattle.mp_standing.specs.Messages.{AreMessagesOf}
use Rattle.mp_standing.specs.declared.standing.Standing.{Standing}
use Rattle.mp_standing.specs.Numbers.{done_at}
use Rattle.mp_standing.specs.Standings.{Stands, sends}
use Rattle.mp_standing.specs.Advancing.{IsReached}
use Rattle.mp_player.specs.declared.state.State.{State}

-- there is mail from each worker to each
pub record IsMailOf (workers : ℕ) (mail : List (List (List Message))) : Type 0 where
  pub senders : length mail ≡ workers
  pub receivers : (v : ℕ) → v < workers → length (get_or mail v []) ≡ workers

-- A run reaches the world. There is a standing for each worker, which stands for it; the messages that wait are those of the mailboxes; the work left is that of the posted logs; and the version is the board's
pub record Shows (o : Outline) (depth : ℕ) (state : State) (world : World) : Type 0 where
  pub reached : IsReached o depth world
  pub workers : length state.standings.items ≡ o.workers
  pub each : (w : ℕ) (s : Standing) → slice_get state.standings.items w ≡ Some s → Stands o w s (world.worker w)
  pub mail_of : IsMailOf o.workers state.mail
  pub mail : (v w : ℕ) → AreMessagesOf o (box_of state.mail v w) (world.mailbox v w)
  pub stages : state.left.stages ≡ o.stages
  pub left : (a : Loc) (t : ℕ) → left_in state.left.counts a t ≡ work_left o (posted_logs world) a t
  pub version : state.version ≡ world.version

-- from each world that was shown the worker's step can be made, and the world after it is shown
abbrev pub Makes : Outline → ℕ → ℕ → Kind → State → State → Type 0
Makes o depth w kind old new = (world : World) → Shows o depth old world → (x : Name) × CanStep o depth world w kind x × Shows o depth new (stepped o world w kind x)

-- a worker's step of this kind can be noted: there is a standing, and no number gets too large
pub record CanBeNoted (o : Outline) (w : ℕ) (kind : Kind) (state : State) : Type 0 where
  pub worker : w < o.workers
  pub standing : w < length state.standings.items
  pub number : (s : Standing) → slice_get state.standings.items w ≡ Some s → done_at s.done kind < 2 ^ 64 - 1

-- the entry is that of the name with which the worker can make its step, and stands at the place to which it has come
pub record IsNextAlong (o : Outline) (depth w : ℕ) (kind : Kind) (state : State) (world : World) (e : Entry) : Type 0 where
  pub name : Name
  pub entry : e ≡ entry_of o name
  pub place : (s : Standing) → slice_get state.standings.items w ≡ Some s → StandsAt (to_do o w kind) (done_at s.done kind) name
  pub can : CanStep o depth world w kind name

-- the mail once a step along a list has sent its name, if it sends
abbrev pub mail_after : Kind → ℕ → Entry → List (List (List Message)) → List (List (List Message))
mail_after kind w e mail = cond (sends kind) (with_box mail w e.receiver (box_of mail w e.receiver ++ record { first = e; count = 1 } ∷ [])) mail

-- the message tells that which the worker can take next from the other: its first name, and how many there are
pub record IsNextMessage (o : Outline) (depth w from : ℕ) (world : World) (m : Message) : Type 0 where
  pub name : Name
  pub first : m.first ≡ entry_of o name
  pub count : m.count ≡ length (names_of o world w (Receive from) name)
  pub can : CanStep o depth world w (Receive from) name

-- an exchange may give this version: one more than the board's where the log has changed; else the board's, where another was seen
abbrev pub MayExchange : Bool → ℕ → ℕ → ℕ → Type 0
MayExchange true seen board version = version ≡ suc board
MayExchange false seen board version = (version ≡ board) × (seen ≡ board → ⊥)
