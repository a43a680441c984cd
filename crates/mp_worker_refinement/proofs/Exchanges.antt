-- An exchange is that of the machine, where it sees a version that is new to the worker; else nothing is exchanged.
use Rattle.std.proofs.Common.{◌≡◌, ℕ, zero, suc, ◌<◌, Bool, true, false, cond, List, Some, set, ℤ, ◌+ℤ◌, refl, sym, ap, ◌∙◌, subst, inl, inr, ⊎_elim, arith}
use Rattle.std.specs.Prelude.{slice_get}
use Rattle.std.proofs.lemmas.Bool.{cases_Bool, cond-true, cond-false, both_ways}
use Rattle.std.proofs.lemmas.List.{get_or-set_other, get_or-set_same, length-set, set-get_or}
use Rattle.mp_names.specs.declared.kinds.Kind.TheVariants.{Exchange}
use Rattle.mp_names.specs.declared.locations.Frontier.{Frontier}
use Rattle.mp_names.specs.declared.locations.Loc.{Loc}
use Rattle.mp_names.specs.declared.names.Name.{Name}
use Rattle.mp_names.specs.Frontiers.{IsFrontier, contribution, count_at, frontier_of, log_at, sum_below}
use Rattle.mp_names.specs.Outlines.{Outline, OutlineIsSound}
use Rattle.mp_names.specs.Logs.{Log, LogIsLegal, LogsAreLegal, empty_log}
use Rattle.mp_names.specs.Locations.{IsLocation}
use Rattle.mp_names.proofs.Exact.{frontier_unique}
use Rattle.mp_names.proofs.Exists.{frontier_is}
use Rattle.mp_stamps.specs.Seen.{seen_at}
use Rattle.mp_mailbox.specs.Queues.{Queues}
use Rattle.mp_machine.specs.Worlds.{Worker, World, posted_logs, put}
use Rattle.mp_machine.specs.Steps.{CanExchange, exchanged as world_exchanged, having_seen, posted_with, same_log, version_after}
use Rattle.mp_machine.specs.Runs.{NotNow, Saw, after_turn, step_of_machine, turn_of_machine}
use Rattle.mp_machine.proofs.Puts.{put_all}
use Rattle.mp_machine.proofs.Turns.{not_now_from, own_log, same_log_is, saw_from}
use Rattle.mp_machine.proofs.Worlds.{WorldIsRight}
use Rattle.mp_board.specs.Boards.{ShowsFrontiers, exchanged, version_with}
use Rattle.mp_board.proofs.Recounted.{frontier_of_equal}
use Rattle.mp_worker_refinement.specs.Ends.{FollowsLog}
use Rattle.mp_worker_refinement.specs.Laws.{MailFollows}
use Rattle.mp_worker_refinement.specs.State.{WorkerState}
use Rattle.mp_worker_refinement.specs.Steps.{Sees}
use Rattle.mp_worker_refinement.specs.SystemState.{Refines, IsWorkerOf, SystemState, queues_denote, with_worker}
use Rattle.mp_worker_refinement.proofs.Logs.{listed, next_world, still_hold}

-- A frontier looks at the logs of the outline's workers alone

sum_is : (n : ℕ) (f g : ℕ → ℤ) → ((v : ℕ) → v < n → f v ≡ g v) → sum_below n f ≡ sum_below n g
sum_is zero f g e = refl
sum_is (suc n) f g e = ap (λ (s : ℤ). s +ℤ f n) (sum_is n f g (λ v l. e v (omega arith))) ∙ ap (λ (s : ℤ). sum_below n g +ℤ s) (e n (omega arith))

pub frontier_of_logs : (o : Outline) (a b : ℕ → Log) → ((v : ℕ) → v < o.workers → a v ≡ b v) → (at : Loc) (f : Frontier) → IsFrontier o a at f → IsFrontier o b at f
frontier_of_logs o a b e at f h =
    frontier_of_equal (count_at o a) (count_at o b) (λ loc t. sum_is o.workers (λ v. contribution o v (a v) loc t) (λ v. contribution o v (b v) loc t) (λ v l. ap (λ (log : Log). contribution o v log loc t) (e v l))) at f h

module _ (o : Outline) (ok : OutlineIsSound o) (depth : ℕ) (t : SystemState) (world : World) (right : WorldIsRight o depth world) (are : Refines o depth t world) (w : ℕ) (s : WorkerState) (was : slice_get t.workers w ≡ Some s) where
  is : IsWorkerOf o w s (world.worker w)
  is = are.workers w s was

  lw : w < o.workers
  lw = listed o depth t world are w s was

  -- the board

  abbrev logs_after : List Log
  logs_after = set t.board.logs w s.log

  posted_here : log_at logs_after w ≡ s.log
  posted_here = let l = lw in let e = are.all_logs in get_or-set_same t.board.logs w s.log empty_log (omega arith)

  posted_elsewhere : (v : ℕ) → (v ≡ w → ⊥) → log_at logs_after v ≡ log_at t.board.logs v
  posted_elsewhere v n = get_or-set_other t.board.logs w v s.log empty_log n

  posted_is : (v : ℕ) → v < o.workers → log_at logs_after v ≡ posted_with world w v
  posted_is =
      put_all (λ v (l : Log). v < o.workers → log_at logs_after v ≡ l) w (world.worker w).log (posted_logs world)
      (λ l. posted_here ∙ is.log)
      (λ v n l. posted_elsewhere v n ∙ are.posted v l)

  same_is : same_log s.log (log_at t.board.logs w) ≡ same_log (world.worker w).log (world.worker w).posted
  same_is = ap (λ (l : Log). same_log l (log_at t.board.logs w)) is.log ∙ ap (λ (l : Log). same_log (world.worker w).log l) (are.posted w lw)

  version_is : version_with t.board w s.log ≡ version_after world w
  version_is =
      ap (λ (b : Bool). cond b t.board.version (suc t.board.version)) same_is
      ∙ ap (λ (n : ℕ). cond (same_log (world.worker w).log (world.worker w).posted) n (suc n)) are.version

  -- a version that is new to the worker

  module _ (new : WorkerState) (sees : Sees s (version_with t.board w s.log) new) (shows : ShowsFrontiers o logs_after new.seen) where
    version : new.seen.version ≡ version_with t.board w s.log
    version = sees.version_is

    legal : LogsAreLegal o (posted_with world w)
    legal = put_all (λ v (l : Log). v < o.workers → LogIsLegal o v l) w (world.worker w).log (posted_logs world) (right.logs w) (λ v n. right.posted v)

    seen_is : (at : Loc) → IsLocation o.stages at → seen_at new.seen at ≡ frontier_of o (posted_with world w) at
    seen_is at has =
        frontier_unique (count_at o (posted_with world w)) at (seen_at new.seen at) (frontier_of o (posted_with world w) at)
        (frontier_of_logs o (log_at logs_after) (posted_with world w) posted_is at (seen_at new.seen at) (shows at has))
        (frontier_is o (posted_with world w) ok legal at)

    looked : IsWorkerOf o w new (having_seen o world w)
    looked = record {
      number = ap (λ (n : WorkerState). n.number) sees.after ∙ is.number;
      log = ap (λ (n : WorkerState). n.log) sees.after ∙ is.log;
      posted = ap (λ (n : WorkerState). n.posted) sees.after ∙ is.log;
      seen = seen_is;
      version = version ∙ version_is;
    }

    board_is : (v : ℕ) → v < o.workers → log_at logs_after v ≡ (put w (having_seen o world w) world.worker v).posted
    board_is =
        put_all (λ v (k : Worker). v < o.workers → log_at logs_after v ≡ k.posted) w (having_seen o world w) world.worker
        (λ l. posted_here ∙ is.log)
        (λ v n l. posted_elsewhere v n ∙ are.posted v l)

    seen_world : (post : Queues (List Name)) → MailFollows o w t.post s s post → Refines o depth (record (with_worker t w new post) { board = exchanged t.board w s.log }) (world_exchanged o world w)
    seen_world post mail =
        let follows = subst (λ (l : Log). FollowsLog (queues_denote o t.post) (queues_denote o post) o w s.log l) (sym (ap (λ (n : WorkerState). n.log) sees.after)) mail.follows in
        next_world o depth t world are w s was new (having_seen o world w) looked post (exchanged t.board w s.log) (version_after world w) world.mailbox mail.workers mail.depth follows
        (length-set t.board.logs w s.log ∙ are.all_logs) board_is version_is (still_hold o depth t world are w s post mail.messages)

    can_exchange : CanExchange o world w Exchange
    can_exchange = (
      lw,
      ⊎_elim
          (λ (e : same_log (world.worker w).log (world.worker w).posted ≡ true).
          inr (λ level.
          let same : version_with t.board w s.log ≡ s.seen.version = version_is ∙ cond-true (same_log (world.worker w).log (world.worker w).posted) world.version (suc world.version) e ∙ sym level ∙ sym is.version in
          let later = sees.later in
          absurd (omega arith)))
          (λ (e : same_log (world.worker w).log (world.worker w).posted ≡ false).
          inl (λ same. both_ways (same_log (world.worker w).log (world.worker w).posted) e (subst (λ (l : Log). same_log (world.worker w).log l ≡ true) same (own_log (world.worker w).log))))
          (cases_Bool (same_log (world.worker w).log (world.worker w).posted)),
    )

    pub saw : (post : Queues (List Name)) → MailFollows o w t.post s s post
        → (turn_of_machine o depth world w Exchange ≡ Saw (version_with t.board w s.log)) × Refines o depth (record (with_worker t w new post) { board = exchanged t.board w s.log }) (step_of_machine o depth world w Exchange)
    unfolding turn_of_machine step_of_machine
    saw post mail =
        let turn = saw_from o depth world w Exchange can_exchange in
        (turn ∙ ap Saw (sym version_is), subst (Refines o depth (record (with_worker t w new post) { board = exchanged t.board w s.log })) (sym (ap (after_turn o world w Exchange) turn)) (seen_world post mail))

  -- the version that the worker had seen

  module _ (level : version_with t.board w s.log ≡ s.seen.version) where
    nothing_new : same_log (world.worker w).log (world.worker w).posted ≡ true
    nothing_new =
        ⊎_elim
        (λ (e : same_log (world.worker w).log (world.worker w).posted ≡ true). e)
        (λ (e : same_log (world.worker w).log (world.worker w).posted ≡ false).
        let later : suc world.version ≡ s.seen.version = sym (cond-false (same_log (world.worker w).log (world.worker w).posted) world.version (suc world.version) e) ∙ sym version_is ∙ level in
        let v = is.version in
        let b = right.behind w lw in
        absurd (omega arith))
        (cases_Bool (same_log (world.worker w).log (world.worker w).posted))

    posted_all : (world.worker w).log ≡ (world.worker w).posted
    posted_all = same_log_is (world.worker w).log (world.worker w).posted nothing_new

    no_exchange : CanExchange o world w Exchange → ⊥
    no_exchange can =
        ⊎_elim
        (λ (n : (world.worker w).log ≡ (world.worker w).posted → ⊥). n posted_all)
        (λ (n : (world.worker w).version ≡ world.version → ⊥).
        n (sym is.version ∙ sym level ∙ version_is ∙ cond-true (same_log (world.worker w).log (world.worker w).posted) world.version (suc world.version) nothing_new))
        can.1

    pub saw_nothing : turn_of_machine o depth world w Exchange ≡ NotNow
    unfolding turn_of_machine
    saw_nothing = not_now_from o depth world w ok Exchange (λ x can. can.1) no_exchange

    same_logs : set t.board.logs w s.log ≡ t.board.logs
    same_logs = ap (λ (l : Log). set t.board.logs w l) (is.log ∙ posted_all ∙ sym (are.posted w lw)) ∙ set-get_or t.board.logs w empty_log

    same_version : version_with t.board w s.log ≡ t.board.version
    same_version = cond-true (same_log s.log (log_at t.board.logs w)) t.board.version (suc t.board.version) (same_is ∙ nothing_new)

    pub same_board : exchanged t.board w s.log ≡ t.board
    same_board = λ i. record t.board { logs = same_logs i; version = same_version i }
