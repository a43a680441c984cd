-- What a worker says of its step leads the workers on by one turn of the machine, or leaves them where they are.
use Rattle.std.proofs.Common.{◌≡◌, ℕ, ◌<◌, ◌≤◌, ◌==◌, cond, List, [], ◌∷◌, ◌++◌, Some, Ok, Err, get_or, length, refl, sym, ap, ◌∙◌, subst, ⊎_elim, append-nil, arith}
use Rattle.std.specs.Prelude.{IfOk, OnErr, slice_get, slice_set}
use Rattle.std.specs.declared.result.Result.{Result}
use Rattle.std.proofs.lemmas.Option.{slice_get_read}
use Rattle.mp_names.specs.declared.kinds.Kind.{Kind}
use Rattle.mp_names.specs.declared.kinds.Kind.TheVariants.{Exchange}
use Rattle.mp_names.specs.declared.names.Name.{Name}
use Rattle.mp_names.specs.Outlines.{Outline, OutlineIsSound}
use Rattle.mp_names.specs.Frontiers.{log_at}
use Rattle.mp_names.specs.Logs.{Log}
use Rattle.mp_mailbox.specs.Queues.{Queues}
use Rattle.mp_machine.specs.Worlds.{World, start_of_machine}
use Rattle.mp_machine.specs.Runs.{Did, NotNow, Saw, Turn, after_turn, run_of_machine, step_of_machine, turn_of_machine}
use Rattle.mp_machine.proofs.Turns.{not_now_from}
use Rattle.mp_machine.proofs.Worlds.{after_more, exchange_place, run_right}
use Rattle.mp_board.specs.Boards.{Posted, ShowsFrontiers, exchanged, version_with}
use Rattle.mp_journal_laws.specs.Kept.{kept_at}
use Rattle.mp_worker_refinement.specs.Ends.{PostMatchesLog, FollowsLog, MessagesFollowLog}
use Rattle.mp_worker_refinement.specs.Served.{IsAtHub, IsAtPost}
use Rattle.mp_worker_refinement.specs.Laws.{MailFollows, StepsMayBeAsked}
use Rattle.mp_worker_refinement.specs.State.{CanMake, WorkerState}
use Rattle.mp_worker_refinement.specs.Steps.{Sees}
use Rattle.mp_worker_refinement.specs.SystemState.{Refines, SystemState, queues_denote, queues_wait}
use Rattle.mp_worker_refinement.proofs.Asked.{may_be_asked}
use Rattle.mp_worker_refinement.proofs.Exchanges as exchanges
use Rattle.mp_worker_refinement.proofs.Steps as steps
use Rattle.mp_worker.specs.Below.{Stop}
use Rattle.mp_worker.specs.Below.{Turn as Answered}
use Rattle.mp_worker.specs.Below.turn as worker
use Rattle.mp_board.specs.declared.causes.Cause.{Cause}
use Rattle.mp_plain.specs.Driven.{AreAfter, AreReached, LeadsOn, turn_in}
use Rattle.mp_plain.specs.Journals.{journal_at, with_more}
use Rattle.mp_plain.proofs.Journaled.{more_by, more_none, one_keeps}
use Rattle.mp_plain.proofs.Unmade.{kept_one, none_of}
use Rattle.mp_plain.proofs.Told.{Says, is_exchange}

-- What a worker may be asked for where a run leads to the workers' state

pub placed : (t : SystemState) (w : ℕ) (s : WorkerState) → w < length t.workers → s ≡ get_or t.workers w s → slice_get t.workers w ≡ Some s
placed t w s l e = slice_get_read t.workers (length t.workers) w s refl l e

module _ (o : Outline) (ok : OutlineIsSound o) (t : SystemState) (reached : AreReached o t) (w : ℕ) (s : WorkerState) (was : slice_get t.workers w ≡ Some s) where
  asked : StepsMayBeAsked o t
  asked = let depth = t.post.depth in may_be_asked o depth t (run_of_machine o depth reached.0) (run_right o ok depth reached.0) reached.1

  pub number_is : s.number ≡ w
  number_is = (asked.fits w s was).1

  number_fits : s.number < o.workers
  number_fits = let fits = asked.fits w s was in omega arith

  ends_are : PostMatchesLog (queues_denote o t.post) o s.number s.log
  ends_are = subst (λ (n : ℕ). PostMatchesLog (queues_denote o t.post) o n s.log) (sym number_is) (asked.ends w s was)

  pub at_post : IsAtPost (λ q. q.workers) (λ q. q.depth) (λ _ w. Unit {0}) (queues_denote o) o s.number s.log t.post
  at_post = record { all_workers = reached.1.all_queues; served = tt; ends = ends_are }

  pub at_hub : IsAtHub (λ _ v. v < o.workers) (λ b v. log_at b.logs v) (λ b. b.version) s t.board
  at_hub = record {
    served = number_fits;
    has_posted = subst (λ (n : ℕ). log_at t.board.logs n ≡ s.posted) (sym number_is) (asked.posted w s was);
    grows = asked.grows w s was;
    later = asked.version w s was;
  }

-- the turn is handed on, and so is why there is none, under another name
abbrev pub Passes : Result Answered Stop → Result Answered Cause → Type 0
Passes (Ok turn) r = r ≡ Ok turn
Passes (Err stop) r = (reason : Cause) × (r ≡ Err reason)

-- an exchange puts no name into the log
names_none : (o : Outline) (kind : Kind) (s : WorkerState) (x : Name) → CanMake o kind s x → kind ≡ Exchange → ⊥
names_none o kind s x can e = (subst (λ (k : Kind). CanMake o k s x) e can).next

-- the workers with another one at a number, another board and other mailboxes
abbrev pub left_with : SystemState → ℕ → WorkerState → Posted → Queues (List Name) → SystemState
left_with t w s board post = record { workers = slice_set t.workers w s; board = board; post = post }

module _ (o : Outline) (t : SystemState) where
  -- no step
  stays : (new : SystemState) → new.post.depth ≡ t.post.depth → ((before : List (ℕ × Kind)) → AreAfter o before t → Refines o t.post.depth new (run_of_machine o t.post.depth before)) → ((v : ℕ) → journal_at new v ≡ with_more (journal_at t v) []) → LeadsOn o [] [] t new
  stays new deep h kept =
      record {
        turns_are = λ before are. refl;
        state_is = λ before are.
            subst (λ (steps : List (ℕ × Kind)). AreAfter o steps new) (sym (append-nil before))
            (subst (λ (d : ℕ). Refines o d new (run_of_machine o d before)) (sym deep) (h before are));
        depth = deep;
        journals = λ before are v. kept v;
      }

  -- one step
  goes_on : (w : ℕ) (kind : Kind) (turn : Turn) (new : SystemState) → new.post.depth ≡ t.post.depth
      → ((before : List (ℕ × Kind)) → AreAfter o before t → let world = run_of_machine o t.post.depth before in
      (turn_of_machine o t.post.depth world w kind ≡ turn) × Refines o t.post.depth new (step_of_machine o t.post.depth world w kind))
      → ((v : ℕ) → journal_at new v ≡ with_more (journal_at t v) (cond (w == v) (kept_at kind turn) []))
      → LeadsOn o ((w, kind) ∷ []) (turn ∷ []) t new
  goes_on w kind turn new deep h kept =
      record {
        turns_are = λ before are. ap (λ (u : Turn). u ∷ []) (sym (h before are).0);
        state_is = λ before are.
            subst (λ (d : ℕ). Refines o d new (run_of_machine o d (before ++ (w, kind) ∷ []))) (sym deep)
            (subst (Refines o t.post.depth new) (sym (after_more o t.post.depth before ((w, kind) ∷ []) (start_of_machine o))) (h before are).1);
        depth = deep;
        journals = λ before are v. kept v ∙ ap (with_more (journal_at t v)) (sym (kept_one o t.post.depth (run_of_machine o t.post.depth before) w kind turn (h before are).0 v));
      }

-- where the condition is false nothing changes
still : (o : Outline) (depth : ℕ) (world : World) (w : ℕ) (kind : Kind) → turn_of_machine o depth world w kind ≡ NotNow → world ≡ step_of_machine o depth world w kind
unfolding step_of_machine
still o depth world w kind e = sym (ap (after_turn o world w kind) e)

outside_not_now : (o : Outline) (depth : ℕ) (world : World) (w : ℕ) (kind : Kind) → OutlineIsSound o → o.workers ≤ w → turn_of_machine o depth world w kind ≡ NotNow
unfolding turn_of_machine
outside_not_now o depth world w kind ok past =
    not_now_from o depth world w ok kind (λ x can. let l = can.0.0 in absurd (omega arith)) (λ can. let l = exchange_place o world w kind can in absurd (omega arith))

-- where a step can't be made, whatever led here, trying it changes nothing
pub idle_leads_on : (o : Outline) (t : SystemState) (w : ℕ) (kind : Kind) → ((before : List (ℕ × Kind)) → AreAfter o before t → turn_of_machine o t.post.depth (run_of_machine o t.post.depth before) w kind ≡ NotNow) → LeadsOn o ((w, kind) ∷ []) (NotNow ∷ []) t t
idle_leads_on o t w kind idle =
    goes_on o t w kind NotNow t refl
    (λ before are.
    (idle before are, subst (Refines o t.post.depth t) (still o t.post.depth (run_of_machine o t.post.depth before) w kind (idle before are)) are))
    (λ v. more_none (journal_at t v) ∙ ap (with_more (journal_at t v)) (sym (none_of (w == v))))

-- of a worker that the outline hasn't, no step is made
pub leads_on_outside : (o : Outline) (ok : OutlineIsSound o) (t : SystemState) (w : ℕ) (kind : Kind) → AreReached o t → length t.workers ≤ w → LeadsOn o ((w, kind) ∷ []) (NotNow ∷ []) t t
leads_on_outside o ok t w kind reached l =
    let all = reached.1.all_workers in
    let past : o.workers ≤ w = omega arith in
    idle_leads_on o t w kind (λ before are. outside_not_now o t.post.depth (run_of_machine o t.post.depth before) w kind ok past)

module _ (o : Outline) (ok : OutlineIsSound o) (t : SystemState) (w : ℕ) (kind : Kind) (s new : WorkerState) (after : Posted) (left : Queues (List Name)) (was : slice_get t.workers w ≡ Some s) where
  abbrev Told : Result Answered Stop → ℕ → Type 0
  Told r n = Says o kind t.board after t.post left s new r n

  abbrev next : SystemState
  next = left_with t w new after left

  -- the mailboxes, where nothing was put into the log
  same_mail : (r : Result Answered Stop) → Told r w → new.log ≡ s.log → MailFollows o w t.post s s left
  same_mail r says e =
      record {
        workers = says.workers;
        depth = says.depth;
        follows = subst (λ (log : Log). FollowsLog (queues_denote o t.post) (queues_denote o left) o w s.log log) e says.follows;
        messages = subst (λ (log : Log). MessagesFollowLog (queues_wait t.post) (queues_wait left) o w s.log log) e says.messages;
      }

  -- nothing changed but what the mailboxes hold
  unmoved : (r : Result Answered Stop) → Told r w → new ≡ s → after ≡ t.board → (depth : ℕ) (before : List (ℕ × Kind)) → Refines o depth t (run_of_machine o depth before) → Refines o depth next (run_of_machine o depth before)
  unmoved r says same board depth before are =
      let world = run_of_machine o depth before in
      let h = steps.same_world o ok depth t world (run_right o ok depth before) are w s was left (same_mail r says (ap (λ (x : WorkerState). x.log) same)) in
      subst (λ (x : WorkerState). Refines o depth (left_with t w x after left) world) (sym same) (subst (λ (b : Posted). Refines o depth (left_with t w s b left) world) (sym board) h)

  module _ (depth : ℕ) (before : List (ℕ × Kind)) (are : Refines o depth t (run_of_machine o depth before)) where
    abbrev IsTurn : Turn → Type 0
    IsTurn turn = (turn_of_machine o depth (run_of_machine o depth before) w kind ≡ turn) × Refines o depth next (step_of_machine o depth (run_of_machine o depth before) w kind)

    did_turn : (x : Name) (n : ℕ) → Told (Ok (worker.Did x n)) w → IsTurn (Did x n)
    did_turn x n says =
        let made = says.did in
        let h = steps.did o ok depth t (run_of_machine o depth before) (run_right o ok depth before) are w s was kind made.0 new left made.2 made.3 (record { workers = says.workers; depth = says.depth; follows = says.follows; messages = says.messages }) (record { first = x; count = n }) made.1 in
        let board = says.others (names_none o kind s made.2.first made.2.can) in
        (h.0, subst (λ (b : Posted). Refines o depth (left_with t w new b left) (step_of_machine o depth (run_of_machine o depth before) w kind)) (sym board) h.1)

    saw_turn : (version : ℕ) → Told (Ok (worker.Seen version)) w → IsTurn (Saw version)
    saw_turn version says =
        let what = says.saw in
        let board = says.shown.0 in
        let shows : ShowsFrontiers o (exchanged t.board w s.log).logs new.seen = subst (λ (b : Posted). ShowsFrontiers o b.logs new.seen) board says.shown.1.1 in
        let level : version ≡ version_with t.board w s.log = sym what.1.version_is ∙ says.shown.1.0 ∙ ap (λ (b : Posted). b.version) board in
        let sees : Sees s (version_with t.board w s.log) new = subst (λ (v : ℕ). Sees s v new) level what.1 in
        let mail = same_mail (Ok (worker.Seen version)) says (ap (λ (x : WorkerState). x.log) what.1.after) in
        let h = exchanges.saw o ok depth t (run_of_machine o depth before) (run_right o ok depth before) are w s was new sees shows left mail in
        let here = subst (λ (b : Posted). Refines o depth (left_with t w new b left) (step_of_machine o depth (run_of_machine o depth before) w Exchange)) (sym board) h.1 in
        subst (λ (k : Kind). (turn_of_machine o depth (run_of_machine o depth before) w k ≡ Saw version) × Refines o depth next (step_of_machine o depth (run_of_machine o depth before) w k)) (sym what.0) (h.0 ∙ ap Saw (sym level), here)

    -- the machine's turn is NotNow
    idle : Told (Ok worker.NotNow) w → (turn_of_machine o depth (run_of_machine o depth before) w kind ≡ NotNow) × (after ≡ t.board) → IsTurn NotNow
    idle says h =
        let there = unmoved (Ok worker.NotNow) says says.unchanged h.1 depth before are in
        (h.0, subst (Refines o depth next) (still o depth (run_of_machine o depth before) w kind h.0) there)

    not_now_turn : Told (Ok worker.NotNow) w → IsTurn NotNow
    not_now_turn says =
        idle says
        (⊎_elim
        (λ (e : kind ≡ Exchange).
        let what = says.same e in
        let level : (exchanged t.board w s.log).version ≡ s.seen.version = ap (λ (b : Posted). b.version) (sym what.0) ∙ sym what.1.1.0 ∙ what.1.2 in
        let turn = exchanges.saw_nothing o ok depth t (run_of_machine o depth before) (run_right o ok depth before) are w s was level in
        let board = exchanges.same_board o ok depth t (run_of_machine o depth before) (run_right o ok depth before) are w s was level in
        (subst (λ (k : Kind). turn_of_machine o depth (run_of_machine o depth before) w k ≡ NotNow) (sym e) turn, what.0 ∙ board))
        (λ (n : kind ≡ Exchange → ⊥). (steps.not_now o ok depth t (run_of_machine o depth before) (run_right o ok depth before) are w s was kind n says.not_now, says.others n))
        (is_exchange kind))

    turn : (turn : Answered) → Told (Ok turn) w → IsTurn (turn_in turn)
    turn (worker.Did x n) says = did_turn x n says
    turn (worker.Seen version) says = saw_turn version says
    turn worker.NotNow says = not_now_turn says
    turn worker.Busy says = absurd says.busy

  -- its number is that of its place
  of_place : (r : Result Answered Stop) → Told r s.number → (depth : ℕ) (world : World) → Refines o depth t world → Told r w
  of_place r says depth world are = subst (Told r) (are.workers w s was).number says

  leads_on : (turn : Answered) → Told (Ok turn) s.number → LeadsOn o ((w, kind) ∷ []) (turn_in turn ∷ []) t next
  leads_on answered says =
      goes_on o t w kind (turn_in answered) next says.depth
      (λ before are. turn t.post.depth before are answered (of_place (Ok answered) says t.post.depth (run_of_machine o t.post.depth before) are))
      (one_keeps t w s new after left (kept_at kind (turn_in answered)) was (says.keeps ∙ more_by s.steps kind answered))

  leads_nowhere : (stop : Stop) → Told (Err stop) s.number → LeadsOn o [] [] t next
  leads_nowhere stop says =
      stays o t next says.depth
      (λ before are.
      unmoved (Err stop) (of_place (Err stop) says t.post.depth (run_of_machine o t.post.depth before) are) says.unchanged says.kept t.post.depth before are)
      (λ v. one_keeps t w s new after left [] was (says.keeps ∙ more_none s.steps) v ∙ ap (with_more (journal_at t v)) (none_of (w == v)))

  -- no worker is told to stop
  pub same_cause : (r : Result Answered Stop) → Told r s.number → after.stopped ≡ t.board.stopped
  same_cause (Ok (worker.Did x n)) says = let made = says.did in ap (λ (b : Posted). b.stopped) (says.others (names_none o kind s made.2.first made.2.can))
  same_cause (Ok (worker.Seen version)) says = ap (λ (b : Posted). b.stopped) says.shown.0
  same_cause (Ok worker.NotNow) says =
      ⊎_elim
      (λ (e : kind ≡ Exchange). ap (λ (b : Posted). b.stopped) (says.same e).0)
      (λ (n : kind ≡ Exchange → ⊥). ap (λ (b : Posted). b.stopped) (says.others n))
      (is_exchange kind)
  same_cause (Ok worker.Busy) says = absurd says.busy
  same_cause (Err stop) says = ap (λ (b : Posted). b.stopped) says.kept

  -- the same of what is handed on

  pub leads_on_if_ok : (r : Result Answered Stop) (given : Result Answered Cause) → Passes r given → Told r s.number → IfOk given (λ turn. LeadsOn o ((w, kind) ∷ []) (turn_in turn ∷ []) t next)
  leads_on_if_ok (Ok turn) given is says = subst (λ (g : Result Answered Cause). IfOk g (λ turn. LeadsOn o ((w, kind) ∷ []) (turn_in turn ∷ []) t next)) (sym is) (leads_on turn says)
  leads_on_if_ok (Err stop) given is says = subst (λ (g : Result Answered Cause). IfOk g (λ turn. LeadsOn o ((w, kind) ∷ []) (turn_in turn ∷ []) t next)) (sym is.1) tt

  pub leads_nowhere_on_err : (r : Result Answered Stop) (given : Result Answered Cause) → Passes r given → Told r s.number → OnErr given (LeadsOn o [] [] t next)
  leads_nowhere_on_err (Ok turn) given is says = subst (λ (g : Result Answered Cause). OnErr g (LeadsOn o [] [] t next)) (sym is) tt
  leads_nowhere_on_err (Err stop) given is says = subst (λ (g : Result Answered Cause). OnErr g (LeadsOn o [] [] t next)) (sym is.1) (leads_nowhere stop says)

  pub not_busy_if_ok : (r : Result Answered Stop) (given : Result Answered Cause) → Passes r given → Told r s.number → IfOk given (λ turn. turn ≡ worker.Busy → ⊥)
  not_busy_if_ok (Ok turn) given is says = subst (λ (g : Result Answered Cause). IfOk g (λ turn. turn ≡ worker.Busy → ⊥)) (sym is) (not_busy turn says)
    where
      not_busy : (turn : Answered) → Told (Ok turn) s.number → turn ≡ worker.Busy → ⊥
      not_busy worker.Busy says e = absurd says.busy
      not_busy (worker.Did x n) says e = cc
      not_busy (worker.Seen version) says e = cc
      not_busy worker.NotNow says e = cc
  not_busy_if_ok (Err stop) given is says = subst (λ (g : Result Answered Cause). IfOk g (λ turn. turn ≡ worker.Busy → ⊥)) (sym is.1) tt

  -- a run leads to where the workers are then
  pub still_reached : (r : Result Answered Stop) → Told r s.number → AreReached o t → AreReached o next
  still_reached (Ok turn) says from = (from.0 ++ (w, kind) ∷ [], (leads_on turn says).state_is from.0 from.1)
  still_reached (Err stop) says from = (from.0 ++ [], (leads_nowhere stop says).state_is from.0 from.1)
