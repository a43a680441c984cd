-- The workers of a job, before they begin and once they are finished.
use Rattle.std.specs.Prelude.{◌≡◌, ℕ, All, Bool, List, Some, is_some, length, map, replicate, slice_get}
use Rattle.mp_names.specs.declared.names.Name.{Name}
use Rattle.mp_names.specs.Logs.{Log, empty_log}
use Rattle.mp_names.specs.Outlines.{Outline}
use Rattle.mp_ruled.specs.Posts.{AreLinked, AreNewPosts, PostState, StandForNone}
use Rattle.mp_seat.specs.Seats.{SeatState}
use Rattle.mp_threads_hub.specs.Hubs.{AreNewHubs, AreOfOneLock}
use Rattle.mp_worker_refinement.specs.Laws.{IsNewWorker}
use Rattle.mp_worker_refinement.specs.State.{WorkerState}
use Rattle.mp_threads_member.specs.Below.{no_steps}
use Rattle.mp_threads_member.specs.Driving.{IsFinished}
use Rattle.mp_threads_member.specs.Members.{HasDoneNothing, MemberState}

-- the ends that the workers have, by their order
abbrev pub posts_of : List MemberState → List (PostState (List Name))
posts_of members = map (λ m. m.post) members

-- their seats
abbrev pub seats_of : List MemberState → List (SeatState Log)
seats_of members = map (λ m. m.hub) members

-- There are so many, each at its number
pub record AreByNumber (workers : ℕ) (members : List MemberState) : Type 0 where
  pub all : length members ≡ workers
  pub numbers : (k : ℕ) (m : MemberState) → slice_get members k ≡ Some m → m.worker.number ≡ k

-- A crew of so many workers that have done nothing, and keep their steps or don't. Their ends are new ones of this depth, each two of one mailbox, and their seats are of one lock
pub record IsNewCrew (workers depth : ℕ) (keeps : Bool) (crew : List MemberState) : Type 0 where
  pub start : All HasDoneNothing crew
  pub keep : All (λ m. m.worker.steps ≡ no_steps keeps) crew
  pub ends : AreNewPosts workers depth (posts_of crew)
  pub linked : AreLinked (posts_of crew)
  pub one_lock : AreOfOneLock (seats_of crew)

-- What a crew is made of, each by its number: workers that have done nothing, new ends that stand for no messages, and seats at a board on which each posted the empty log
pub record ArePartsOf (o : Outline) (workers : List WorkerState) (posts : List (PostState (List Name))) (hubs : List (SeatState Log)) : Type 0 where
  pub all_workers : length workers ≡ o.workers
  pub new_workers : (w : ℕ) (s : WorkerState) → slice_get workers w ≡ Some s → IsNewWorker o w s
  pub all_posts : length posts ≡ o.workers
  pub new_posts : (depth : ℕ) × AreNewPosts o.workers depth posts
  pub no_mail : StandForNone (λ xs. xs) posts
  pub all_hubs : length hubs ≡ o.workers
  pub new_hubs : (version : ℕ) × AreNewHubs (replicate o.workers empty_log) version hubs

-- The crew has these workers, ends and seats, in their order
pub record IsMadeOf (workers : List WorkerState) (posts : List (PostState (List Name))) (hubs : List (SeatState Log)) (crew : List MemberState) : Type 0 where
  pub same_workers : map (λ m. m.worker) crew ≡ workers
  pub same_posts : posts_of crew ≡ posts
  pub same_seats : seats_of crew ≡ hubs

-- All workers of the outline, each at its number and finished
pub record AreFinished (o : Outline) (workers : List WorkerState) : Type 0 where
  pub all : length workers ≡ o.workers
  pub numbers : (k : ℕ) (s : WorkerState) → slice_get workers k ≡ Some s → s.number ≡ k
  pub each : (k : ℕ) (s : WorkerState) → slice_get workers k ≡ Some s → IsFinished o s

-- All workers of the outline are finished, and each keeps its steps, or none does
pub record AreFinishedKeeping (o : Outline) (keeps : Bool) (workers : List WorkerState) : Type 0 where
  pub finished : AreFinished o workers
  pub keep : All (λ s. is_some s.steps ≡ keeps) workers
