-- What decides the steps of a run: what the worker has still to do, in its order, and the frontiers that it saw. What waits at a worker and what it has in hand needn't be known.
use Rattle.std.specs.Prelude.{◌≡◌, ◌↔◌, ℕ, ◌<◌, ◌==◌, ◌&&◌, true, cond, nat_lt, List, [], ◌∷◌, ◌++◌, filter}
use Rattle.mp_names.specs.declared.names.Name.{Name}
use Rattle.mp_names.specs.declared.locations.Loc.TheVariants.{CtlMail, Mail, State, Host, OutMail}
use Rattle.mp_names.specs.declared.kinds.Kind.TheVariants.{SendControl, Extract, Settle, Apply, SendRow, Write}
use Rattle.mp_names.specs.Names.{IsPrefix, ascending, is_ctrl, is_packet, is_row, is_group, is_settled, is_written}
use Rattle.mp_names.specs.Outlines.{Outline, time_of, sender, ctrl_names, packets_of, control_times, answer_times}
use Rattle.mp_names.specs.Logs.{Log, is_given, owned_groups}
use Rattle.mp_names.specs.Frontiers.{HasPassed, HasReached}
use Rattle.mp_machine.specs.Worlds.{World}
use Rattle.mp_machine.specs.Steps.{MaySendControl, MaySettle, HasRoom, CanStep}
use Rattle.mp_machine.specs.Promises.{InEveryRun}

-- of a list the worker has done these, and x comes then
abbrev pub ComesNext : List Name → List Name → Name → Type 0
ComesNext done all x = IsPrefix (done ++ x ∷ []) all

-- the time by which control records go out: in a paced job their own, else one for all
abbrev pub turn_time : Outline → Name → ℕ
turn_time o x = cond o.paced (time_of o x) 0

-- the name in a list by that time, before those of the same time
abbrev pub placed_by_time : Outline → Name → List Name → List Name
placed_by_time o x [] = x ∷ []
placed_by_time o x (y ∷ ys) = cond (nat_lt (turn_time o y) (turn_time o x)) (y ∷ placed_by_time o x ys) (x ∷ y ∷ ys)

-- the list by that time, and else in its order
abbrev pub by_time : Outline → List Name → List Name
by_time o [] = []
by_time o (x ∷ xs) = placed_by_time o x (by_time o xs)

-- the control records that the worker sends, by index and receiver, and in a paced job by time before that
abbrev pub controls_to_send : Outline → ℕ → List Name
controls_to_send o w = by_time o (filter (λ x. sender o x == w) (ctrl_names o))

-- the packets of a stage that it sends, by time and bin
abbrev pub packets_to_send : Outline → ℕ → ℕ → List Name
packets_to_send o w j = filter (λ x. is_packet j x && sender o x == w) (packets_of o)

-- the answer rows that it sends, by time and tag
abbrev pub rows_to_send : Outline → ℕ → List Name
rows_to_send o w = filter (λ x. sender o x == w) (ascending o.rows)

-- What a worker has sent of these is a beginning of each list
pub record SendsInOrder (o : Outline) (w : ℕ) (log : Log) : Type 0 where
  pub controls : IsPrefix (filter is_ctrl log.sent) (controls_to_send o w)
  pub packets : (j : ℕ) → IsPrefix (filter (is_packet j) log.sent) (packets_to_send o w j)
  pub rows : IsPrefix (filter is_row log.sent) (rows_to_send o w)

module _ (o : Outline) (depth : ℕ) (world : World) (w : ℕ) (l : w < o.workers) where
  -- a group is applied where it comes next of those that the worker owns, and its records and packets are known to have come
  abbrev pub ApplyIsDecided : ℕ → Name → Type 0
  ApplyIsDecided j x =
      let worker = world.worker w in
      CanStep o depth world w (Apply j) x ↔ ((j < o.stages) × ComesNext (filter (is_group j) worker.log.applied) (owned_groups o w j) x × HasPassed (worker.seen (Mail j)) (time_of o x) × HasPassed (worker.seen (State j)) (time_of o x))

  -- a control record is sent where it comes next, in a paced job all hosts are known to have passed the control times below its own, and there is room
  abbrev pub SendControlIsDecided : Name → Type 0
  SendControlIsDecided x =
      let worker = world.worker w in
      CanStep o depth world w SendControl x ↔ (ComesNext (filter is_ctrl worker.log.sent) (controls_to_send o w) x × MaySendControl o worker x × HasRoom o depth world.mailbox w x)

  -- a packet leaves where it comes next of the stage's, its control records and the groups before it are known to be done, and there is room
  abbrev pub ExtractIsDecided : ℕ → Name → Type 0
  ExtractIsDecided j x =
      let worker = world.worker w in
      CanStep o depth world w (Extract j) x ↔ ((j < o.stages) × ComesNext (filter (is_packet j) worker.log.sent) (packets_to_send o w j) x × HasPassed (worker.seen CtlMail) (time_of o x) × HasReached (worker.seen (Host j)) (time_of o x) × HasRoom o depth world.mailbox w x)

  -- a time is settled where it comes next of the stage's, its control records are known to have come, and its packets are sent
  abbrev pub SettleIsDecided : ℕ → Name → Type 0
  SettleIsDecided j x =
      let worker = world.worker w in
      CanStep o depth world w (Settle j) x ↔ ((j < o.stages) × ComesNext (filter (is_settled j) worker.log.settled) (control_times o j) x × MaySettle o w worker j x)

  -- a row is sent where it comes next, the worker has it, and there is room
  abbrev pub SendRowIsDecided : Name → Type 0
  SendRowIsDecided x =
      let worker = world.worker w in
      CanStep o depth world w SendRow x ↔ (ComesNext (filter is_row worker.log.sent) (rows_to_send o w) x × (is_given o w worker.log x ≡ true) × HasRoom o depth world.mailbox w x)

  -- worker 0 writes a time where it comes next of the answer's, and its rows are known to have come
  abbrev pub WriteIsDecided : Name → Type 0
  WriteIsDecided x =
      let worker = world.worker w in
      CanStep o depth world w Write x ↔ ((w ≡ 0) × ComesNext (filter is_written worker.log.settled) (answer_times o) x × HasPassed (worker.seen OutMail) (time_of o x))

-- Of every worker of every world that a run reaches
pub record StepsAreDecided (o : Outline) (depth : ℕ) (world : World) (w : ℕ) (l : w < o.workers) : Type 0 where
  pub apply : (j : ℕ) (x : Name) → ApplyIsDecided o depth world w l j x
  pub send_control : (x : Name) → SendControlIsDecided o depth world w l x
  pub extract : (j : ℕ) (x : Name) → ExtractIsDecided o depth world w l j x
  pub settle : (j : ℕ) (x : Name) → SettleIsDecided o depth world w l j x
  pub send_row : (x : Name) → SendRowIsDecided o depth world w l x
  pub write : (x : Name) → WriteIsDecided o depth world w l x

abbrev pub WorkLeftDecides : Type 0
WorkLeftDecides = InEveryRun (λ o depth world. (w : ℕ) (l : w < o.workers) → StepsAreDecided o depth world w l)

abbrev pub AlwaysSendInOrder : Type 0
AlwaysSendInOrder = InEveryRun (λ o depth world. (w : ℕ) → w < o.workers → SendsInOrder o w (world.worker w).log)
