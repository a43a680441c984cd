-- Small jobs to compute with: each is the outline of a worked example.
use Rattle.std.specs.Prelude.{◌≡◌, ℕ, zero, suc, ◌%◌, ◌==◌, cond, true, false, List, [], ◌∷◌, None, Some, pos}
use Rattle.mp_names.specs.declared.names.Name.{Name}
use Rattle.mp_names.specs.declared.names.Name.TheVariants.{Ctrl, Rec, Packet, Row, Group, Settled}
use Rattle.mp_names.specs.declared.names.Tag.{Tag}
use Rattle.mp_names.specs.declared.controls.Control.{Control}
use Rattle.mp_names.specs.declared.locations.Loc.TheVariants.{Source, Mail, State, Host}
use Rattle.mp_names.specs.declared.locations.Frontier.TheVariants.{At, Done}
use Rattle.mp_names.specs.Names.{has, In}
use Rattle.mp_names.specs.Outlines.{Outline, OutlineIsSound, IsMove, groups_of, due_groups, is_woken, IsOwedTo}
use Rattle.mp_names.specs.Logs.{Log, LogsAreLegal, empty_log, is_pending}
use Rattle.mp_names.specs.Frontiers.{count_at, log_at, frontier_of}

abbrev pub tag : ℕ → ℕ → Tag
tag a n = record { 0 = a; 1 = n }

abbrev pub control : ℕ → ℕ → ℕ → ℕ → Control
control t j b w = record { time = t; stage = j; bin = b; worker = w }

abbrev pub no_posts : Name → List ℕ
no_posts x = []

abbrev pub no_wakes : ℕ → List Name
no_wakes j = []

-- one list for stage 0, one for stage 1
abbrev pub by_stage : List Name → List Name → ℕ → List Name
by_stage xs ys zero = xs
by_stage xs ys (suc zero) = ys
by_stage xs ys (suc (suc j)) = []

-- `three_bids`: bids at 5, 3 and 5 on auctions 7, 7 and 2; each gives a row. One worker, one bin, no control record
abbrev pub three_bids : Outline
three_bids =
    record {
      workers = 1;
      bins = 1;
      stages = 1;
      controls = [];
      first_owner = λ j b. b % 1;
      bin_of = λ k. 0;
      records = by_stage (Rec 0 5 7 (tag 0 0) ∷ Rec 0 3 7 (tag 0 1) ∷ Rec 0 5 2 (tag 0 2) ∷ []) [];
      posts = no_posts;
      rows = Row 5 (tag 7 0) ∷ Row 3 (tag 7 0) ∷ Row 5 (tag 2 0) ∷ [];
      opening = no_wakes;
      bundle = 1;
      paced = false;
      until = None;
    }

-- the records that post: an auction at 0, which closes at 100, and its sale, where that posts too
abbrev pub closing : ℕ → Name → List ℕ
closing u (Rec zero t k g) = cond (t == 0) (100 ∷ []) []
closing u (Rec (suc j) t k g) = cond (u == 0) [] (u ∷ [])
closing u _ = []

-- `wake_moves_with_its_bin`: auction 1 at 0, to be closed at 100, and a bid on it at 5; the bin moves from worker 0 to worker 1 at 50. The sale is of category 10
abbrev pub wake_moves : Outline
wake_moves =
    record {
      workers = 2;
      bins = 1;
      stages = 2;
      controls = control 50 0 0 1 ∷ [];
      first_owner = λ j b. b % 2;
      bin_of = λ k. 0;
      records = by_stage (Rec 0 0 1 (tag 0 0) ∷ Rec 0 5 1 (tag 0 1) ∷ []) (Rec 1 100 10 (tag 1 0) ∷ []);
      posts = closing 0;
      rows = Row 100 (tag 10 0) ∷ [];
      opening = no_wakes;
      bundle = 1;
      paced = false;
      until = None;
    }

-- the same with a wake in each stage, the second at 120, and a move of each stage's bin before its wake
abbrev pub two_moves : Outline
two_moves =
    record wake_moves {
      controls = control 50 0 0 1 ∷ control 110 1 0 1 ∷ [];
      posts = closing 120;
      rows = Row 120 (tag 10 0) ∷ [];
    }

-- it is sound, both bins move, and both wakes are later than the moves that they meet
pub record TwoMovesAreSound : Type 0 where
  pub sound : OutlineIsSound two_moves
  pub first_move : IsMove two_moves 0 0 50
  pub first_wake : is_woken two_moves 0 100 1 ≡ true
  pub second_move : IsMove two_moves 1 0 110
  pub second_wake : is_woken two_moves 1 120 10 ≡ true

-- `wake_moves` with a stop at 60, after the move and before the wake: the auction is never closed, so nothing is sold
abbrev pub stopped_moves : Outline
stopped_moves =
    record wake_moves {
      records = by_stage (Rec 0 0 1 (tag 0 0) ∷ Rec 0 5 1 (tag 0 1) ∷ []) [];
      rows = [];
      until = Some 60;
    }

-- it is sound, and has a group that is woken and not due
pub record StoppedMovesAreSound : Type 0 where
  pub sound : OutlineIsSound stopped_moves
  pub wake : is_woken stopped_moves 0 100 1 ≡ true
  pub listed : In (Group 0 100 1) (groups_of stopped_moves 0)
  pub not_due : has (due_groups stopped_moves 0) (Group 0 100 1) ≡ false

-- `counts_cancel`: bids at 5 on auctions 4 and 1, whose bins are 1 and 2, and three workers. So the first record goes from worker 0 to worker 1, the second from worker 1 to worker 2
abbrev pub two_bids : Outline
two_bids =
    record {
      workers = 3;
      bins = 4;
      stages = 1;
      controls = [];
      first_owner = λ j b. b % 3;
      bin_of = λ k. cond (k == 4) 1 2;
      records = by_stage (Rec 0 5 4 (tag 0 0) ∷ Rec 0 5 1 (tag 0 1) ∷ []) [];
      posts = no_posts;
      rows = Row 5 (tag 4 0) ∷ Row 5 (tag 1 0) ∷ [];
      opening = no_wakes;
      bundle = 1;
      paced = false;
      until = None;
    }

abbrev pub first_bid : Name
first_bid = Rec 0 5 4 (tag 0 0)

abbrev pub second_bid : Name
second_bid = Rec 0 5 1 (tag 0 1)

-- worker 0 sent the first record and posted it; worker 1 sent the second and hasn't posted it; worker 2 took that and posted so
abbrev pub posted_early : List Log
posted_early =
    record empty_log { ingested = first_bid ∷ []; sent = first_bid ∷ [] } ∷ empty_log ∷ record empty_log { took = second_bid ∷ [] } ∷ []

-- then worker 1 posts its log too
abbrev pub posted_later : List Log
posted_later =
    record empty_log { ingested = first_bid ∷ []; sent = first_bid ∷ [] } ∷ record empty_log { ingested = second_bid ∷ []; sent = second_bid ∷ [] } ∷ record empty_log { took = second_bid ∷ [] } ∷ []

-- legal logs from different moments: the count of the records on their way is zero with one on its way, and the frontier hasn't passed, since the event that is not yet ingested counts
pub record CountsCancel : Type 0 where
  pub sound : OutlineIsSound two_bids
  pub legal : LogsAreLegal two_bids (log_at posted_early)
  pub sent : In first_bid (log_at posted_early 0).sent
  pub owed : IsOwedTo two_bids 1 first_bid
  pub not_taken : has (log_at posted_early 1).took first_bid ≡ false
  pub cancelled : count_at two_bids (log_at posted_early) (Mail 0) 5 ≡ pos 0
  pub source : count_at two_bids (log_at posted_early) Source 5 ≡ pos 1
  pub frontier : frontier_of two_bids (log_at posted_early) (Mail 0) ≡ At 5
  pub later_mail : count_at two_bids (log_at posted_later) (Mail 0) 5 ≡ pos 1
  pub later_source : count_at two_bids (log_at posted_later) Source 5 ≡ pos 0
  pub later_frontier : frontier_of two_bids (log_at posted_later) (Mail 0) ≡ At 5

-- The move of `wake_moves` at 50, seen from the packets of stage 0

-- the control record is sent and taken, and the time isn't settled
abbrev pub control_taken : List Log
control_taken =
    record empty_log { sent = Ctrl 0 0 ∷ Ctrl 0 1 ∷ []; took = Ctrl 0 0 ∷ [] } ∷ record empty_log { took = Ctrl 0 1 ∷ [] } ∷ []

-- the packet is sent, and both workers settled the time
abbrev pub packet_sent : List Log
packet_sent =
    record empty_log { sent = Ctrl 0 0 ∷ Ctrl 0 1 ∷ Packet 0 0 50 ∷ []; took = Ctrl 0 0 ∷ []; settled = Settled 0 50 ∷ [] } ∷ record empty_log { took = Ctrl 0 1 ∷ []; settled = Settled 0 50 ∷ [] } ∷ []

-- the packet is taken too
abbrev pub packet_taken : List Log
packet_taken =
    record empty_log { sent = Ctrl 0 0 ∷ Ctrl 0 1 ∷ Packet 0 0 50 ∷ []; took = Ctrl 0 0 ∷ []; settled = Settled 0 50 ∷ [] }
    ∷ record empty_log { took = Ctrl 0 1 ∷ Packet 0 0 50 ∷ []; settled = Settled 0 50 ∷ [] }
    ∷ []

-- what holds the frontier back: first the control record, then the time that isn't settled, then the packet
pub record MovesHoldFrontiersBack : Type 0 where
  pub at_first : frontier_of wake_moves (log_at []) (State 0) ≡ At 50
  pub once_told : frontier_of wake_moves (log_at control_taken) (State 0) ≡ At 50
  pub once_sent : frontier_of wake_moves (log_at packet_sent) (State 0) ≡ At 50
  pub once_taken : frontier_of wake_moves (log_at packet_taken) (State 0) ≡ Done

-- `wake_goes_on`: the job of `wake_moves`, taken up at 50 from what a run until then left. No event is left, but auction 1 is to be closed at 100, and its bin moves at 50
abbrev pub wake_goes_on : Outline
wake_goes_on = record wake_moves { records = by_stage [] (Rec 1 100 10 (tag 1 0) ∷ []); posts = no_posts; opening = by_stage (Group 0 100 1 ∷ []) [] }

-- The opening wake is in hand of the bin's first owner from the start, and is counted there. While the packet of its bin is on its way no worker has it in hand, and the packet alone is counted; then it is in hand of the new owner
pub record OpeningWakeGoesOn : Type 0 where
  pub sound : OutlineIsSound wake_goes_on
  pub move : IsMove wake_goes_on 0 0 50
  pub woken : is_woken wake_goes_on 0 100 1 ≡ true
  pub with_first_owner : is_pending wake_goes_on 0 empty_log (Group 0 100 1) ≡ true
  pub with_no_other : is_pending wake_goes_on 1 empty_log (Group 0 100 1) ≡ false
  pub at_first : count_at wake_goes_on (log_at []) (Host 0) 100 ≡ pos 1
  pub once_sent : count_at wake_goes_on (log_at packet_sent) (Host 0) 100 ≡ pos 0
  pub packet : count_at wake_goes_on (log_at packet_sent) (State 0) 50 ≡ pos 1
  pub once_taken : count_at wake_goes_on (log_at packet_taken) (Host 0) 100 ≡ pos 1
  pub with_new_owner : is_pending wake_goes_on 1 (log_at packet_taken 1) (Group 0 100 1) ≡ true
  pub frontier_at_first : frontier_of wake_goes_on (log_at []) (Host 0) ≡ At 50
  pub frontier_once_sent : frontier_of wake_goes_on (log_at packet_sent) (Host 0) ≡ At 50
  pub frontier_once_taken : frontier_of wake_goes_on (log_at packet_taken) (Host 0) ≡ At 100
