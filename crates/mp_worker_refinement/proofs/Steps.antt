-- Steps that put names into a log, and steps that can't be made.
use Rattle.std.proofs.Common.{◌≡◌, ℕ, suc, ◌<◌, List, ◌∷◌, Some, length, refl, sym, ap, ◌∙◌, subst, arith}
use Rattle.std.specs.Prelude.{slice_get}
use Rattle.mp_names.specs.declared.kinds.Kind.{Kind}
use Rattle.mp_names.specs.declared.kinds.Kind.TheVariants.{Receive, Exchange}
use Rattle.mp_names.specs.declared.names.Name.{Name}
use Rattle.mp_names.specs.Frontiers.{log_at}
use Rattle.mp_names.specs.Outlines.{Outline, OutlineIsSound}
use Rattle.mp_names.specs.Logs.{Log}
use Rattle.mp_stamps.specs.Seen.{seen_at}
use Rattle.mp_mailbox.specs.Queues.{HadRoom, Queues, WasEmpty, WasFull, queue_between}
use Rattle.mp_machine.specs.Messages.{first_message}
use Rattle.mp_machine.specs.Worlds.{Worker, World, put}
use Rattle.mp_machine.specs.Steps.{AreNamesOf, CanExchange, CanStep, IsNext, IsReady, KindFits, logged, mailed, names_of, stepped_with}
use Rattle.mp_machine.specs.Runs.{Did, NotNow, after_turn, step_of_machine, turn_of_machine}
use Rattle.mp_machine.proofs.Puts.{put_all}
use Rattle.mp_machine.proofs.Turns.{did_from, not_now_from}
use Rattle.mp_machine.proofs.Worlds.{WorldIsRight}
use Rattle.mp_msg.specs.Bundles.{receiver_of}
use Rattle.mp_msg.specs.declared.names.Names.{Names}
use Rattle.mp_worker_refinement.specs.Ends.{sent_since, took_since}
use Rattle.mp_worker_refinement.specs.Laws.{MailFollows}
use Rattle.mp_worker_refinement.specs.Mail.{MailboxBlocks, MailboxAllows}
use Rattle.mp_worker_refinement.specs.State.{CanMake, Makes, WorkerState, as_machine}
use Rattle.mp_worker_refinement.specs.Steps.{Tells}
use Rattle.mp_worker_refinement.specs.SystemState.{Refines, IsWorkerOf, SystemState, with_worker}
use Rattle.mp_worker_refinement.proofs.Agreeing.{conditions_agree}
use Rattle.mp_worker_refinement.proofs.Lists.{some_is}
use Rattle.mp_worker_refinement.proofs.Logs.{listed, next_world, still_hold}
use Rattle.mp_worker_refinement.proofs.Mailboxes.{Moves, MovesAt, allowed, hindered, queue_moves, taken_was_first}
use Rattle.mp_worker_refinement.proofs.Named.{first_begins, names_put, queue_is_mailed}

module _ (o : Outline) (ok : OutlineIsSound o) (depth : ℕ) (t : SystemState) (world : World) (right : WorldIsRight o depth world) (are : Refines o depth t world) (w : ℕ) (s : WorkerState) (was : slice_get t.workers w ≡ Some s) where
  is : IsWorkerOf o w s (world.worker w)
  is = are.workers w s was

  lw : w < o.workers
  lw = listed o depth t world are w s was

  -- the conditions are those of the machine

  can_there : (kind : Kind) (x : Name) → CanMake o kind s x → IsNext o w (world.worker w) kind x × IsReady o w (world.worker w) kind x
  can_there kind x can =
      conditions_agree o w (as_machine s) (world.worker w) is.log is.seen kind x can.fits
      (subst (λ (n : ℕ). IsNext o n (as_machine s) kind x × IsReady o n (as_machine s) kind x) is.number (can.next, can.ready))

  can_here : (kind : Kind) (x : Name) → KindFits o kind → IsNext o w (world.worker w) kind x → IsReady o w (world.worker w) kind x → CanMake o kind s x
  can_here kind x fits next ready =
      let h = conditions_agree o w (world.worker w) (as_machine s) (sym is.log) (λ at l. sym (is.seen at l)) kind x fits (next, ready) in
      let c = subst (λ (n : ℕ). IsNext o n (as_machine s) kind x × IsReady o n (as_machine s) kind x) (sym is.number) h in
      record { fits = fits; next = c.0; ready = c.1 }

  -- a step with names

  module _ (kind : Kind) (xs : List Name) (new : WorkerState) (post : Queues (List Name)) (makes : Makes o kind s xs new) (lets : MailboxAllows (HadRoom t.post) o w kind xs) (mail : MailFollows o w t.post s new post) where
    abbrev log : Log
    log = (world.worker w).log

    abbrev me : Worker
    me = record (world.worker w) { log = logged kind log xs }

    new_log : new.log ≡ logged kind log xs
    new_log = ap (λ (n : WorkerState). n.log) makes.after ∙ ap (λ (l : Log). logged kind l xs) is.log

    still : IsWorkerOf o w new me
    still =
        record {
          number = ap (λ (n : WorkerState). n.number) makes.after ∙ is.number;
          log = new_log;
          posted = ap (λ (n : WorkerState). n.posted) makes.after ∙ is.posted;
          seen = λ at l. subst (λ (n : WorkerState). seen_at n.seen at ≡ (world.worker w).seen at) (sym makes.after) (is.seen at l);
          version = ap (λ (n : WorkerState). n.seen.version) makes.after ∙ is.version;
        }

    conditions : IsNext o w (world.worker w) kind makes.first × IsReady o w (world.worker w) kind makes.first
    conditions = can_there kind makes.first makes.can

    -- the names, as the machine has them
    names_there : AreNamesOf o w log kind makes.first xs
    names_there = subst (λ (n : ℕ). AreNamesOf o n log kind makes.first xs) is.number (subst (λ (l : Log). AreNamesOf o s.number l kind makes.first xs) is.log makes.names)

    begins : (rest : List Name) × (xs ≡ makes.first ∷ rest)
    begins = first_begins o ok w (world.worker w) kind makes.first xs conditions.0 names_there

    some : 0 < length xs
    some = let e : length xs ≡ suc (length begins.0) = ap length begins.1 in omega arith

    -- each queue has moved as the log went on
    moves : (a b : ℕ) → a < o.workers → b < o.workers → MovesAt o w world.mailbox (queue_between post) log (logged kind log xs) a b
    moves a b la lb =
        let before = subst (λ (l : Log). Moves (queue_between t.post a b) (sent_since o w s.log l a b) (took_since o w s.log l a b) (queue_between post a b)) new_log
        (queue_moves o w t.post post s.log new.log are.all_queues mail.messages a b la lb) in
        let there = subst (λ (l : Log). Moves (queue_between t.post a b) (sent_since o w l (logged kind log xs) a b) (took_since o w l (logged kind log xs) a b) (queue_between post a b)) is.log before in
        subst (λ (q : List (List Name)). Moves q (sent_since o w log (logged kind log xs) a b) (took_since o w log (logged kind log xs) a b) (queue_between post a b)) (are.messages a b la lb) there

    taken : (v : ℕ) → kind ≡ Receive v → world.mailbox v w ≡ xs ∷ queue_between post v w
    taken v e =
        let fits = subst (KindFits o) e makes.can.fits in
        let comes = subst (λ (k : Kind). MailboxAllows (HadRoom t.post) o w k xs) e lets in
        taken_was_first o w world.mailbox (queue_between post) log (logged (Receive v) log xs) xs v some comes refl refl v w (refl, refl)
        (subst (λ (k : Kind). MovesAt o w world.mailbox (queue_between post) log (logged k log xs) v w) e (moves v w fits lw))

    can : CanStep o depth world w kind makes.first
    can = (
      (lw, makes.can.fits),
      conditions.0,
      conditions.1,
      allowed o ok depth world t.post are.messages are.each_depth w lw kind makes.first xs conditions.0 (ap (receiver_of o) begins.1) lets
          (λ v e. (begins.0, queue_between post v w, taken v e ∙ ap (λ (l : List Name). l ∷ queue_between post v w) begins.1)),
    )

    -- the machine puts these names
    puts : names_of o world w kind makes.first ≡ xs
    puts = names_put o world w kind makes.first xs names_there (λ v e. ap first_message (taken v e))

    holds : (a b : ℕ) → a < o.workers → b < o.workers → queue_between post a b ≡ mailed o w kind makes.first xs world.mailbox a b
    holds a b la lb =
        queue_is_mailed o ok w (world.worker w) world.mailbox (queue_between post) kind makes.first xs conditions.0 names_there some
        (λ v e. subst (λ (k : Kind). MailboxAllows (HadRoom t.post) o w k xs) e lets) a b (moves a b la lb)

    stepped_world : Refines o depth (with_worker t w new post) (stepped_with o world w kind makes.first xs)
    stepped_world =
        next_world o depth t world are w s was new me still post t.board world.version (mailed o w kind makes.first xs world.mailbox) mail.workers mail.depth mail.follows are.all_logs
        (put_all (λ v (k : Worker). v < o.workers → log_at t.board.logs v ≡ k.posted) w me world.worker (are.posted w) (λ v n. are.posted v))
        are.version holds

    module _ (told : Names) (tells : Tells told xs) where
      told_first : makes.first ≡ told.first
      told_first = some_is makes.first told.first (subst (λ (l : List Name). slice_get l 0 ≡ Some told.first) begins.1 tells.first)

      told_turn : Did makes.first (length (names_of o world w kind makes.first)) ≡ Did told.first told.count
      told_turn = ap (λ (l : List Name). Did makes.first (length l)) puts ∙ ap (λ (x : Name). Did x (length xs)) told_first ∙ ap (λ (n : ℕ). Did told.first n) (sym tells.count)

      pub did : (turn_of_machine o depth world w kind ≡ Did told.first told.count) × Refines o depth (with_worker t w new post) (step_of_machine o depth world w kind)
      unfolding turn_of_machine step_of_machine
      did =
          let turn = did_from o depth world w ok kind makes.first can in
          let here = subst (λ (l : List Name). Refines o depth (with_worker t w new post) (stepped_with o world w kind makes.first l)) (sym puts) stepped_world in
          (turn ∙ told_turn, subst (Refines o depth (with_worker t w new post)) (sym (ap (after_turn o world w kind) turn)) here)

  -- nothing is done

  put_back : put w (world.worker w) world.worker ≡ world.worker
  put_back = λ i v. put_all (λ v (k : Worker). k ≡ world.worker v) w (world.worker w) world.worker refl (λ u n. refl) v i

  -- the mailboxes are others, and stand for the same
  pub same_world : (post : Queues (List Name)) → MailFollows o w t.post s s post → Refines o depth (with_worker t w s post) world
  same_world post mail =
      subst (λ (f : ℕ → Worker). Refines o depth (with_worker t w s post) (record { worker = f; version = world.version; mailbox = world.mailbox })) put_back
      (next_world o depth t world are w s was s (world.worker w) is post t.board world.version world.mailbox mail.workers mail.depth mail.follows are.all_logs
      (put_all (λ v (k : Worker). v < o.workers → log_at t.board.logs v ≡ k.posted) w (world.worker w) world.worker (are.posted w) (λ v n. are.posted v))
      are.version (still_hold o depth t world are w s post mail.messages))

  no_exchange : (kind : Kind) → (kind ≡ Exchange → ⊥) → CanExchange o world w kind → ⊥
  no_exchange Exchange n h = n refl
  no_exchange _ n h = h

  pub not_now : (kind : Kind) → (kind ≡ Exchange → ⊥) → ((x : Name) → CanMake o kind s x → MailboxBlocks (WasFull t.post) (WasEmpty t.post) o w kind x) → turn_of_machine o depth world w kind ≡ NotNow
  unfolding turn_of_machine
  not_now kind other hinders =
      not_now_from o depth world w ok kind
      (λ x can. hindered o ok depth world t.post are.messages are.each_depth w lw kind x can.0.1 can.1 (hinders x (can_here kind x can.0.1 can.1 can.2)) can.3)
      (no_exchange kind other)
