-- Runs to compute with, each a worked example: its steps with the turns that they have, and what is seen on the way.
use Rattle.std.specs.Prelude.{◌≡◌, ℕ, ◌%◌, true, false, List, [], ◌∷◌, ◌++◌, map, None, pos}
use Rattle.mp_names.specs.declared.names.Name.TheVariants.{Ctrl, Rec, Packet, Row, Group, Settled, Written}
use Rattle.mp_names.specs.declared.locations.Loc.{Loc}
use Rattle.mp_names.specs.declared.locations.Loc.TheVariants.{CtlMail, Source, Mail, State, Host, OutMail}
use Rattle.mp_names.specs.declared.locations.Frontier.{Frontier}
use Rattle.mp_names.specs.declared.locations.Frontier.TheVariants.{At, Done}
use Rattle.mp_names.specs.declared.kinds.Kind.{Kind}
use Rattle.mp_names.specs.declared.kinds.Kind.TheVariants.{Ingest, SendControl, Route, Receive, Extract, Settle, Apply, SendRow, Write, Exchange}
use Rattle.mp_names.specs.Outlines.{Outline}
use Rattle.mp_names.specs.Frontiers.{count_at}
use Rattle.mp_names.specs.Samples.{tag, control, no_posts, no_wakes, by_stage, three_bids, two_bids, first_bid, second_bid, wake_moves, stopped_moves, wake_goes_on}
use Rattle.mp_machine.specs.Worlds.{posted_logs, start_of_machine}
use Rattle.mp_machine.specs.Runs.{Turn, Did, Saw, NotNow, run_of_machine, turns_of}
use Rattle.mp_machine.specs.Places.{places}

-- a step and the turn that it has
pub record Played : Type 0 where
  pub worker : ℕ
  pub kind : Kind
  pub turn : Turn

abbrev pub plays : ℕ → Kind → Turn → Played
plays w kind turn = record { worker = w; kind = kind; turn = turn }

abbrev pub steps_of : List Played → List (ℕ × Kind)
steps_of = map (λ p. (p.worker, p.kind))

-- the run of these steps, with mailboxes of depth 2, has these turns
abbrev pub HasTurns : Outline → List Played → Type 0
HasTurns o played = turns_of o 2 (start_of_machine o) (steps_of played) ≡ map (λ p. p.turn) played

-- the frontier that the worker has seen after these steps
abbrev pub seen_after : Outline → List Played → ℕ → Loc → Frontier
seen_after o played w at = ((run_of_machine o 2 (steps_of played)).worker w).seen at

-- `counts_cancel`: worker 0 sends the first bid and posts; worker 1 sends the second; worker 2 takes that and posts
abbrev pub cancelling : List Played
cancelling =
    plays 0 Ingest (Did first_bid 1)
    ∷ plays 0 (Route 0) (Did first_bid 1)
    ∷ plays 0 Exchange (Saw 1)
    ∷ plays 1 Ingest (Did second_bid 1)
    ∷ plays 1 (Route 0) (Did second_bid 1)
    ∷ plays 2 (Receive 1) (Did second_bid 1)
    ∷ plays 2 Exchange (Saw 2)
    ∷ []

-- the group of the second bid can't be applied yet; worker 1 posts
abbrev pub counted_again : List Played
counted_again = cancelling ++ plays 2 (Apply 0) NotNow ∷ plays 1 Exchange (Saw 3) ∷ []

-- still it can't, until worker 1 has taken the first bid and posted that
abbrev pub all_arrived : List Played
all_arrived =
    counted_again
    ++ plays 2 Exchange (Saw 3)
    ∷ plays 2 (Apply 0) NotNow
    ∷ plays 1 (Receive 0) (Did first_bid 1)
    ∷ plays 1 Exchange (Saw 4)
    ∷ []

abbrev pub bids_applied : List Played
bids_applied = all_arrived ++ plays 2 Exchange (Saw 4) ∷ plays 2 (Apply 0) (Did (Group 0 5 1) 1) ∷ []

-- In this run a count is zero with a record on its way, and no group is applied too early for it
pub record CountsCancelInARun : Type 0 where
  pub turns : HasTurns two_bids bids_applied
  pub on_its_way : (run_of_machine two_bids 2 (steps_of cancelling)).mailbox 0 1 ≡ (first_bid ∷ []) ∷ []
  pub cancelled : count_at two_bids (posted_logs (run_of_machine two_bids 2 (steps_of cancelling))) (Mail 0) 5 ≡ pos 0
  pub source : count_at two_bids (posted_logs (run_of_machine two_bids 2 (steps_of cancelling))) Source 5 ≡ pos 1
  pub frontier : seen_after two_bids cancelling 2 (Mail 0) ≡ At 5
  pub later_mail : count_at two_bids (posted_logs (run_of_machine two_bids 2 (steps_of counted_again))) (Mail 0) 5 ≡ pos 1
  pub later_source : count_at two_bids (posted_logs (run_of_machine two_bids 2 (steps_of counted_again))) Source 5 ≡ pos 0
  pub done : seen_after two_bids all_arrived 1 (Mail 0) ≡ Done

-- `gated_handoff`: auction 1 at 0, which closes at 100, and a bid on it at 5; the bin moves from worker 0 to worker 1 at 50

-- the control record reaches both workers, and both events are ingested
abbrev pub told : List Played
told =
    plays 0 SendControl (Did (Ctrl 0 0) 1)
    ∷ plays 0 SendControl (Did (Ctrl 0 1) 1)
    ∷ plays 0 (Receive 0) (Did (Ctrl 0 0) 1)
    ∷ plays 1 (Receive 0) (Did (Ctrl 0 1) 1)
    ∷ plays 0 Ingest (Did (Rec 0 0 1 (tag 0 0)) 1)
    ∷ plays 1 Ingest (Did (Rec 0 5 1 (tag 0 1)) 1)
    ∷ plays 0 Exchange (Saw 1)
    ∷ plays 1 Exchange (Saw 2)
    ∷ plays 0 Exchange (Saw 2)
    ∷ []

-- the records reach worker 0, whose bin may not leave before the groups of 0 and 5 are applied
abbrev pub arrived : List Played
arrived =
    told
    ++ plays 0 (Route 0) (Did (Rec 0 0 1 (tag 0 0)) 1)
    ∷ plays 1 (Route 0) (Did (Rec 0 5 1 (tag 0 1)) 1)
    ∷ plays 0 (Receive 0) (Did (Rec 0 0 1 (tag 0 0)) 1)
    ∷ plays 0 (Receive 1) (Did (Rec 0 5 1 (tag 0 1)) 1)
    ∷ plays 0 (Extract 0) NotNow
    ∷ plays 0 Exchange (Saw 3)
    ∷ plays 1 Exchange (Saw 4)
    ∷ plays 0 Exchange (Saw 4)
    ∷ []

-- worker 0 applies them; the wake at 100 has to wait, since the bin moves before
abbrev pub applied : List Played
applied =
    arrived
    ++ plays 0 (Apply 0) (Did (Group 0 0 1) 1)
    ∷ plays 0 (Apply 0) (Did (Group 0 5 1) 1)
    ∷ plays 0 (Apply 0) NotNow
    ∷ plays 0 (Extract 0) NotNow
    ∷ plays 0 Exchange (Saw 5)
    ∷ []

-- the bin leaves, and both workers settle its time
abbrev pub handed_over : List Played
handed_over =
    applied
    ++ plays 0 (Extract 0) (Did (Packet 0 0 50) 1)
    ∷ plays 0 (Settle 0) (Did (Settled 0 50) 1)
    ∷ plays 1 (Settle 0) (Did (Settled 0 50) 1)
    ∷ plays 0 Exchange (Saw 6)
    ∷ plays 1 Exchange (Saw 7)
    ∷ []

-- worker 1 takes the packet, and has to see that nothing more comes before it may apply the wake
abbrev pub taken : List Played
taken = handed_over ++ plays 1 (Apply 0) NotNow ∷ plays 1 (Receive 0) (Did (Packet 0 0 50) 1) ∷ plays 1 (Apply 0) NotNow ∷ plays 1 Exchange (Saw 8) ∷ []

abbrev pub woken : List Played
woken = taken ++ plays 1 (Apply 0) (Did (Group 0 100 1) 1) ∷ []

-- In this run the bin's packet goes where every part of the gate lets it, and its wake goes along
pub record HandoffIsGated : Type 0 where
  pub turns : HasTurns wake_moves woken
  pub control_passed : seen_after wake_moves told 0 CtlMail ≡ Done
  pub host_waits : seen_after wake_moves told 0 (Host 0) ≡ At 0
  pub mail_passed : seen_after wake_moves arrived 0 (Mail 0) ≡ Done
  pub state_waits : seen_after wake_moves arrived 0 (State 0) ≡ At 50
  pub host_moved_on : seen_after wake_moves applied 0 (Host 0) ≡ At 50
  pub packet_waits : seen_after wake_moves handed_over 1 (State 0) ≡ At 50
  pub state_passed : seen_after wake_moves taken 1 (State 0) ≡ Done

-- `records_travel_together`: the outline of `three_bids` with another bid at 5, and two records at most in a message
abbrev pub four_bids : Outline
four_bids = record three_bids { records = by_stage (Rec 0 5 7 (tag 0 0) ∷ Rec 0 3 7 (tag 0 1) ∷ Rec 0 5 2 (tag 0 2) ∷ Rec 0 5 7 (tag 0 3) ∷ []) []; bundle = 2 }

-- the bid at 3 travels alone, then the first two of those at 5. The mailbox holds two messages, so the last has to wait until one is taken
abbrev pub bundled : List Played
bundled =
    plays 0 Ingest (Did (Rec 0 5 7 (tag 0 0)) 1)
    ∷ plays 0 Ingest (Did (Rec 0 3 7 (tag 0 1)) 1)
    ∷ plays 0 Ingest (Did (Rec 0 5 2 (tag 0 2)) 1)
    ∷ plays 0 Ingest (Did (Rec 0 5 7 (tag 0 3)) 1)
    ∷ plays 0 (Route 0) (Did (Rec 0 3 7 (tag 0 1)) 1)
    ∷ plays 0 (Route 0) (Did (Rec 0 5 7 (tag 0 0)) 2)
    ∷ plays 0 (Route 0) NotNow
    ∷ plays 0 (Receive 0) (Did (Rec 0 3 7 (tag 0 1)) 1)
    ∷ plays 0 (Route 0) (Did (Rec 0 5 7 (tag 0 3)) 1)
    ∷ plays 0 (Route 0) NotNow
    ∷ []

abbrev pub all_received : List Played
all_received = bundled ++ plays 0 (Receive 0) (Did (Rec 0 5 7 (tag 0 0)) 2) ∷ plays 0 (Receive 0) (Did (Rec 0 5 7 (tag 0 3)) 1) ∷ plays 0 (Receive 0) NotNow ∷ []

-- In this run several records travel in one message
pub record RecordsTravelTogether : Type 0 where
  pub turns : HasTurns four_bids all_received
  pub waiting : (run_of_machine four_bids 2 (steps_of bundled)).mailbox 0 0 ≡ (Rec 0 5 7 (tag 0 0) ∷ Rec 0 5 2 (tag 0 2) ∷ []) ∷ (Rec 0 5 7 (tag 0 3) ∷ []) ∷ []

-- `paced_moves`: a bid at 5, whose bin moves to worker 1 at 10 and back at 20
abbrev pub paced_moves : Outline
paced_moves =
    record {
      workers = 2;
      bins = 1;
      stages = 1;
      controls = control 10 0 0 1 ∷ control 20 0 0 0 ∷ [];
      first_owner = λ j b. b % 2;
      bin_of = λ k. 0;
      records = by_stage (Rec 0 5 1 (tag 0 0) ∷ []) [];
      posts = no_posts;
      rows = Row 5 (tag 1 0) ∷ [];
      opening = no_wakes;
      bundle = 1;
      paced = true;
      until = None;
    }

-- the control record of 10 goes to both workers; that of 20 has to wait
abbrev pub first_told : List Played
first_told = plays 0 SendControl (Did (Ctrl 0 0) 1) ∷ plays 0 SendControl (Did (Ctrl 0 1) 1) ∷ plays 0 SendControl NotNow ∷ []

-- in a job that isn't paced it needn't
abbrev pub both_told : List Played
both_told = plays 0 SendControl (Did (Ctrl 0 0) 1) ∷ plays 0 SendControl (Did (Ctrl 0 1) 1) ∷ plays 0 SendControl (Did (Ctrl 1 0) 1) ∷ []

-- the records of 10 and 20 in the other order
abbrev pub swapped_moves : Outline
swapped_moves = record paced_moves { controls = control 20 0 0 0 ∷ control 10 0 0 1 ∷ [] }

-- the bin leaves at 10, after the group of 5
abbrev pub first_left : List Played
first_left =
    first_told
    ++ plays 0 (Receive 0) (Did (Ctrl 0 0) 1)
    ∷ plays 1 (Receive 0) (Did (Ctrl 0 1) 1)
    ∷ plays 0 Ingest (Did (Rec 0 5 1 (tag 0 0)) 1)
    ∷ plays 0 Exchange (Saw 1)
    ∷ plays 1 Exchange (Saw 2)
    ∷ plays 0 Exchange (Saw 2)
    ∷ plays 0 (Route 0) (Did (Rec 0 5 1 (tag 0 0)) 1)
    ∷ plays 0 (Receive 0) (Did (Rec 0 5 1 (tag 0 0)) 1)
    ∷ plays 0 Exchange (Saw 3)
    ∷ plays 0 (Apply 0) (Did (Group 0 5 1) 1)
    ∷ plays 0 Exchange (Saw 4)
    ∷ plays 0 (Extract 0) (Did (Packet 0 0 10) 1)
    ∷ plays 0 (Settle 0) (Did (Settled 0 10) 1)
    ∷ plays 1 (Settle 0) (Did (Settled 0 10) 1)
    ∷ plays 0 Exchange (Saw 5)
    ∷ plays 1 Exchange (Saw 6)
    ∷ plays 0 Exchange (Saw 6)
    ∷ plays 0 SendControl NotNow
    ∷ []

-- once worker 0 sees that it arrived, the control record of 20 goes out
abbrev pub second_told : List Played
second_told = first_left ++ plays 1 (Receive 0) (Did (Packet 0 0 10) 1) ∷ plays 1 Exchange (Saw 7) ∷ plays 0 SendControl NotNow ∷ plays 0 Exchange (Saw 7) ∷ plays 0 SendControl (Did (Ctrl 1 0) 1) ∷ []

-- In this run a control record waits until the bin that moves before has arrived
pub record PacedMovesWait : Type 0 where
  pub turns : HasTurns paced_moves second_told
  pub unpaced : HasTurns (record paced_moves { paced = false }) both_told
  pub by_time : HasTurns swapped_moves (plays 0 SendControl (Did (Ctrl 1 0) 1) ∷ [])
  pub host_waits : seen_after paced_moves first_left 0 (Host 0) ≡ At 10
  pub host_passed : seen_after paced_moves second_told 0 (Host 0) ≡ At 20

-- `stopped_handoff`: the same moves and steps as in `gated_handoff`, with a stop at 60. The wake goes along with the bin and isn't applied
abbrev pub stopped : List Played
stopped = taken ++ plays 1 (Apply 0) NotNow ∷ plays 0 Exchange (Saw 8) ∷ []

-- In this run all is over with a group that waits
pub record StopsAreKept : Type 0 where
  pub turns : HasTurns stopped_moves stopped
  pub host_waits : seen_after stopped_moves stopped 0 (Host 0) ≡ At 100
  pub answer_waits : seen_after stopped_moves stopped 0 OutMail ≡ At 100
  pub nothing_left : turns_of stopped_moves 2 (run_of_machine stopped_moves 2 (steps_of stopped)) (places stopped_moves) ≡ map (λ p. NotNow) (places stopped_moves)

-- `opening_wake`: the job of `wake_moves`, taken up at 50. No event is left, but auction 1 is to be closed at 100, and its bin moves at 50

-- the opening wake has to wait for the move, which is told, and the bin leaves
abbrev pub opening_sent : List Played
opening_sent =
    plays 0 (Apply 0) NotNow
    ∷ plays 1 (Apply 0) NotNow
    ∷ plays 0 SendControl (Did (Ctrl 0 0) 1)
    ∷ plays 0 SendControl (Did (Ctrl 0 1) 1)
    ∷ plays 0 (Receive 0) (Did (Ctrl 0 0) 1)
    ∷ plays 1 (Receive 0) (Did (Ctrl 0 1) 1)
    ∷ plays 0 Exchange (Saw 1)
    ∷ plays 1 Exchange (Saw 2)
    ∷ plays 0 Exchange (Saw 2)
    ∷ plays 0 (Extract 0) (Did (Packet 0 0 50) 1)
    ∷ plays 0 (Settle 0) (Did (Settled 0 50) 1)
    ∷ plays 1 (Settle 0) (Did (Settled 0 50) 1)
    ∷ plays 0 Exchange (Saw 3)
    ∷ plays 1 Exchange (Saw 4)
    ∷ []

-- worker 1 takes the packet, and applies the wake
abbrev pub opening_applied : List Played
opening_applied =
    opening_sent
    ++ plays 1 (Apply 0) NotNow
    ∷ plays 1 (Receive 0) (Did (Packet 0 0 50) 1)
    ∷ plays 1 Exchange (Saw 5)
    ∷ plays 1 (Apply 0) (Did (Group 0 100 1) 1)
    ∷ []

-- the sale goes to worker 0, which applies it and writes its row
abbrev pub opening_written : List Played
opening_written =
    opening_applied
    ++ plays 1 (Route 1) (Did (Rec 1 100 10 (tag 1 0)) 1)
    ∷ plays 1 Exchange (Saw 6)
    ∷ plays 0 (Receive 1) (Did (Rec 1 100 10 (tag 1 0)) 1)
    ∷ plays 0 Exchange (Saw 7)
    ∷ plays 0 (Apply 1) (Did (Group 1 100 10) 1)
    ∷ plays 0 SendRow (Did (Row 100 (tag 10 0)) 1)
    ∷ plays 0 (Receive 0) (Did (Row 100 (tag 10 0)) 1)
    ∷ plays 0 Exchange (Saw 8)
    ∷ plays 0 Write (Did (Written 100) 1)
    ∷ []

-- In this run of a job without events a wake that it has from the start moves with its bin, and its row is written
pub record OpeningWakeIsApplied : Type 0 where
  pub turns : HasTurns wake_goes_on opening_written
  pub host_at_first : seen_after wake_goes_on [] 0 (Host 0) ≡ At 50
  pub counted : count_at wake_goes_on (posted_logs (start_of_machine wake_goes_on)) (Host 0) 100 ≡ pos 1
  pub packet_waits : seen_after wake_goes_on opening_sent 1 (State 0) ≡ At 50
  pub sale_waits : seen_after wake_goes_on opening_applied 1 (Mail 1) ≡ At 100
  pub all_done : seen_after wake_goes_on opening_written 0 OutMail ≡ Done
