-- Every world that a run reaches is right, and nothing goes back.
use Rattle.std.proofs.Common.{◌≡◌, ℕ, suc, ◌<◌, ◌≤◌, ◌⊎◌, true, false, List, [], ◌∷◌, ◌++◌, length, refl, sym, ap, ◌∙◌, subst, inl, inr, ⊎_elim, arith}
use Rattle.std.proofs.lemmas.Bool.{false≢true, both_ways, false_from_ne_true, cond-true, cond-false, cases_Bool, cases_eq}
use Rattle.std.proofs.lemmas.List.Elements.{All-nil}
use Rattle.mp_names.specs.declared.names.Name.{Name}
use Rattle.mp_names.specs.declared.locations.Loc.{Loc}
use Rattle.mp_names.specs.declared.kinds.Kind.{Kind}
use Rattle.mp_names.specs.declared.kinds.Kind.TheVariants.{Ingest, SendControl, Route, Receive, Extract, Settle, Apply, SendRow, Write, Exchange}
use Rattle.mp_names.specs.Names.{has, In, Distinct}
use Rattle.mp_names.specs.Outlines.{Outline, OutlineIsSound, receiver}
use Rattle.mp_names.specs.Logs.{Log, LogIsLegal, LogGrows, LogsAreLegal, LogsGrow, empty_log, with_sent}
use Rattle.mp_names.specs.Frontiers.{IsFrontier, HasPassed, frontier_of, IsClosed, IsClosedForOne}
use Rattle.mp_names.proofs.Lists.{In_left, In_cases}
use Rattle.mp_names.proofs.Exact.{closed_from_passed, passed_from_closed}
use Rattle.mp_names.proofs.Exists.{frontier_is}
use Rattle.mp_names.proofs.Grows.{grows_refl, grows_trans, grown_closed}
use Rattle.mp_names.proofs.Keeps.{empty_is_legal}
use Rattle.mp_machine.specs.Worlds.{Worker, World, posted_logs, start_of_machine, put}
use Rattle.mp_machine.specs.Messages.{joined, first_message, IsMessage}
use Rattle.mp_machine.specs.Steps.{HasRoom, CanStep, CanExchange, AreNamesOf, names_of, logged, pushed, mailed, stepped, same_log, version_after, posted_with, having_seen, exchanged}
use Rattle.mp_machine.specs.Runs.{Turn, Did, Saw, NotNow, turn_of, turn_of_machine, after_turn, step_of_machine, world_after, run_of_machine, turns_of}
use Rattle.mp_machine.specs.Promises.{ComesRightly}
use Rattle.mp_machine.proofs.Puts.{put_here, put_other, put_all}
use Rattle.mp_machine.proofs.Turns.{did_to, saw_to, same_log_is}
use Rattle.mp_machine.proofs.Keeps.{logged_grows, step_keeps}
use Rattle.mp_machine.proofs.Messages.{single_message, bundle_receiver, bundle_is_message}
use Rattle.mp_machine.proofs.Mailboxes.{MailIsInOrder, from, to, waiting_is_right, waiting_once, mail_kept, mail_sent, mail_taken}

-- a step that can be made puts some name into the log, and one only, where records travel singly

pub names_some : (o : Outline) → OutlineIsSound o → (depth : ℕ) (world : World) (w : ℕ) (kind : Kind) (x : Name) → CanStep o depth world w kind x → 0 < length (names_of o world w kind x)
names_some o ok depth world w (Route j) x can = (bundle_is_message o ok w (world.worker w) j x can.1).some
names_some o ok depth world w (Receive v) x can = let e : length (first_message (world.mailbox v w)) ≡ suc (length can.3.0) = ap (λ (l : List (List Name)). length (first_message l)) can.3.2 in omega arith
names_some o ok depth world w _ x can = omega arith

-- What holds of every world that a run reaches: logs and posted logs are legal; what a worker saw to be passed is closed in the posted logs; no worker is ahead of the board, and one that is level with it saw its frontiers; mail is in order
pub record WorldIsRight (o : Outline) (depth : ℕ) (world : World) : Type 0 where
  pub logs : (w : ℕ) → w < o.workers → LogIsLegal o w (world.worker w).log
  pub posted : (w : ℕ) → w < o.workers → LogIsLegal o w (world.worker w).posted
  pub grows : (w : ℕ) → w < o.workers → LogGrows (world.worker w).posted (world.worker w).log
  pub seen : (w : ℕ) → w < o.workers → (at : Loc) (t : ℕ) → HasPassed ((world.worker w).seen at) t → IsClosed o (posted_logs world) at t
  pub behind : (w : ℕ) → w < o.workers → (world.worker w).version ≤ world.version
  pub level : (w : ℕ) → w < o.workers → (world.worker w).version ≡ world.version → (at : Loc) → (world.worker w).seen at ≡ frontier_of o (posted_logs world) at
  pub mail : MailIsInOrder o depth world

-- from one world to a later one nothing goes back
pub record GoesOn (o : Outline) (old new : World) : Type 0 where
  pub logs : (w : ℕ) → w < o.workers → LogGrows (old.worker w).log (new.worker w).log
  pub posted : (w : ℕ) → w < o.workers → LogGrows (old.worker w).posted (new.worker w).posted
  pub seen : (w : ℕ) → w < o.workers → (at : Loc) (t : ℕ) → HasPassed ((old.worker w).seen at) t → HasPassed ((new.worker w).seen at) t

abbrev pub Moved : Outline → ℕ → World → World → Type 0
Moved o depth world next = WorldIsRight o depth next × GoesOn o world next

pub goes_on_refl : (o : Outline) (world : World) → GoesOn o world world
goes_on_refl o world = record { logs = λ w l. grows_refl (world.worker w).log; posted = λ w l. grows_refl (world.worker w).posted; seen = λ w l at t p. p }

pub goes_on_trans : (o : Outline) (a b c : World) → GoesOn o a b → GoesOn o b c → GoesOn o a c
goes_on_trans o a b c p q =
    record {
      logs = λ w l. grows_trans (a.worker w).log (b.worker w).log (c.worker w).log (p.logs w l) (q.logs w l);
      posted = λ w l. grows_trans (a.worker w).posted (b.worker w).posted (c.worker w).posted (p.posted w l) (q.posted w l);
      seen = λ w l at t h. q.seen w l at t (p.seen w l at t h);
    }

pub closed_grows : (o : Outline) (old new : ℕ → Log) → LogsGrow o old new → (at : Loc) (t : ℕ) → IsClosed o old at t → IsClosed o new at t
closed_grows o old new g at t c w l = grown_closed o w (old w) (new w) (g w l) at t (c w l)

left_once : (xs ys : List Name) → Distinct (xs ++ ys) → Distinct xs
left_once [] ys d = tt
left_once (x ∷ xs) ys d = (false_from_ne_true (has xs x) (λ i. both_ways (has (xs ++ ys) x) d.0 (In_left x xs ys i)), left_once xs ys d.1)

module _ (o : Outline) (ok : OutlineIsSound o) (depth : ℕ) (world : World) (right : WorldIsRight o depth world) (w : ℕ) (l : w < o.workers) where
  -- what the worker saw to be passed is done in its own log
  pub known : (at : Loc) (t : ℕ) → HasPassed ((world.worker w).seen at) t → IsClosedForOne o w (world.worker w).log at t
  known at t p = grown_closed o w (world.worker w).posted (world.worker w).log (right.grows w l) at t (right.seen w l at t p w l)

  -- a step that puts names into the log
  acted : (new : Log) (box : ℕ → ℕ → List (List Name)) → LogGrows (world.worker w).log new → LogIsLegal o w new → MailIsInOrder o depth (record world { worker = put w (record (world.worker w) { log = new }) world.worker; mailbox = box }) → Moved o depth world (record world { worker = put w (record (world.worker w) { log = new }) world.worker; mailbox = box })
  acted new box g keeps mail =
      let me : Worker = record (world.worker w) { log = new } in
      let posted : (v : ℕ) → (world.worker v).posted ≡ (put w me world.worker v).posted = put_all (λ v (k : Worker). (world.worker v).posted ≡ k.posted) w me world.worker refl (λ v e. refl) in
      let board : posted_logs world ≡ (λ v. (put w me world.worker v).posted) = λ i v. posted v i in (
        record {
          logs = put_all (λ v (k : Worker). v < o.workers → LogIsLegal o v k.log) w me world.worker (λ h. keeps) (λ v e. right.logs v);
          posted = put_all (λ v (k : Worker). v < o.workers → LogIsLegal o v k.posted) w me world.worker (right.posted w) (λ v e. right.posted v);
          grows = put_all (λ v (k : Worker). v < o.workers → LogGrows k.posted k.log) w me world.worker (λ h. grows_trans (world.worker w).posted (world.worker w).log new (right.grows w l) g) (λ v e. right.grows v);
          seen = λ v h at t p. subst (λ (logs : ℕ → Log). IsClosed o logs at t) board (put_all (λ v (k : Worker). v < o.workers → HasPassed (k.seen at) t → IsClosed o (posted_logs world) at t) w me world.worker (λ h. right.seen w h at t) (λ v e h. right.seen v h at t) v h p);
          behind = put_all (λ v (k : Worker). v < o.workers → k.version ≤ world.version) w me world.worker (right.behind w) (λ v e. right.behind v);
          level = λ v h e at. subst (λ (logs : ℕ → Log). (put w me world.worker v).seen at ≡ frontier_of o logs at) board (put_all (λ v (k : Worker). v < o.workers → k.version ≡ world.version → k.seen at ≡ frontier_of o (posted_logs world) at) w me world.worker (λ h e. right.level w h e at) (λ v f h e. right.level v h e at) v h e);
          mail = mail;
        },
        record {
          logs = λ v h. put_all (λ v (k : Worker). LogGrows (world.worker v).log k.log) w me world.worker g (λ v e. grows_refl (world.worker v).log) v;
          posted = λ v h. put_all (λ v (k : Worker). LogGrows (world.worker v).posted k.posted) w me world.worker (grows_refl (world.worker w).posted) (λ v e. grows_refl (world.worker v).posted) v;
          seen = λ v h at t. put_all (λ v (k : Worker). HasPassed ((world.worker v).seen at) t → HasPassed (k.seen at) t) w me world.worker (λ p. p) (λ v e p. p) v;
        },
      )

  -- the names of a step that can be made
  pub names_are : (kind : Kind) (x : Name) → CanStep o depth world w kind x → AreNamesOf o w (world.worker w).log kind x (names_of o world w kind x)
  names_are Ingest x can = refl
  names_are SendControl x can = refl
  names_are (Route j) x can = refl
  names_are (Receive v) x can = (can.3.0, ap first_message can.3.2)
  names_are (Extract j) x can = refl
  names_are (Settle j) x can = refl
  names_are (Apply j) x can = refl
  names_are SendRow x can = refl
  names_are Write x can = refl
  names_are Exchange x can = refl

  pub keeps : (kind : Kind) (x : Name) → CanStep o depth world w kind x → ComesRightly o w (world.worker w).log kind (names_of o world w kind x) → LogIsLegal o w (logged kind (world.worker w).log (names_of o world w kind x))
  keeps kind x can c = step_keeps o ok w l (world.worker w) (right.logs w l) known kind x (names_of o world w kind x) can.1 can.2 (names_are kind x can) c

  grown : (kind : Kind) (x : Name) → LogGrows (world.worker w).log (logged kind (world.worker w).log (names_of o world w kind x))
  grown kind x = logged_grows kind (world.worker w).log (names_of o world w kind x)

  -- a message of one name goes to the receiver of that name
  to_receiver : (x y : Name) → In y (x ∷ []) → receiver o y ≡ receiver o x
  to_receiver x y i = ⊎_elim (λ (e : x ≡ y). ap (receiver o) (sym e)) (λ (k : In y []). absurd (false≢true k)) (In_cases y x [] i)

  abbrev now : Kind → Name → Log
  now kind x = logged kind (world.worker w).log (names_of o world w kind x)

  abbrev boxes : Kind → Name → ℕ → ℕ → List (List Name)
  boxes kind x = mailed o w kind x (names_of o world w kind x) world.mailbox

  send_one : (x : Name) → HasRoom o depth world.mailbox w x → MailIsInOrder o depth (record world { worker = put w (record (world.worker w) { log = with_sent (world.worker w).log x }) world.worker; mailbox = pushed w (receiver o x) (x ∷ []) world.mailbox })
  send_one x room = mail_sent o ok depth world right.mail w (receiver o x) (x ∷ []) (single_message o ok x) (to_receiver x) room

  pub act : (kind : Kind) (x : Name) → CanStep o depth world w kind x → Moved o depth world (stepped o world w kind x)
  act Ingest x can = acted (now Ingest x) world.mailbox (grown Ingest x) (keeps Ingest x can tt) (mail_kept o ok depth world right.mail w (now Ingest x) refl refl)
  act SendControl x can = acted (now SendControl x) (boxes SendControl x) (grown SendControl x) (keeps SendControl x can tt) (send_one x can.3)
  act (Route j) x can =
      acted (now (Route j) x) (boxes (Route j) x) (grown (Route j) x) (keeps (Route j) x can tt)
      (mail_sent o ok depth world right.mail w (receiver o x) (names_of o world w (Route j) x) (bundle_is_message o ok w (world.worker w) j x can.1) (bundle_receiver o ok w (world.worker w) j x) can.3)
  act (Receive v) x can =
      let xs = first_message (world.mailbox v w) in
      let first : world.mailbox v w ≡ xs ∷ can.3.1 = can.3.2 ∙ ap (λ (l : List Name). l ∷ can.3.1) (sym (ap first_message can.3.2)) in
      let waits : (y : Name) → In y xs → In y (joined (world.mailbox v w)) = λ y i. subst (λ (l : List (List Name)). In y (joined l)) (sym first) (In_left y xs (joined can.3.1) i) in
      let right_one = λ (y : Name) (i : In y xs). waiting_is_right o ok depth world right.mail right.logs v w can.0.1 l y (waits y i) in
      let once : Distinct xs = left_once xs (joined can.3.1) (subst (λ (l : List (List Name)). Distinct (joined l)) first (waiting_once o ok depth world right.mail right.logs v w can.0.1 l)) in
      acted (now (Receive v) x) (boxes (Receive v) x) (grown (Receive v) x) (keeps (Receive v) x can (once, (λ y i. let r = right_one y i in (r.0, r.2))))
      (mail_taken o ok depth world right.mail w v xs can.3.1 first (λ y i. (right_one y i).1))
  act (Extract j) x can = acted (now (Extract j) x) (boxes (Extract j) x) (grown (Extract j) x) (keeps (Extract j) x can tt) (send_one x can.3)
  act (Settle j) x can = acted (now (Settle j) x) world.mailbox (grown (Settle j) x) (keeps (Settle j) x can tt) (mail_kept o ok depth world right.mail w (now (Settle j) x) refl refl)
  act (Apply j) x can = acted (now (Apply j) x) world.mailbox (grown (Apply j) x) (keeps (Apply j) x can tt) (mail_kept o ok depth world right.mail w (now (Apply j) x) refl refl)
  act SendRow x can = acted (now SendRow x) (boxes SendRow x) (grown SendRow x) (keeps SendRow x can tt) (send_one x can.3)
  act Write x can = acted (now Write x) world.mailbox (grown Write x) (keeps Write x can tt) (mail_kept o ok depth world right.mail w (now Write x) refl refl)
  act Exchange x can = absurd can.1

  -- an exchange

  abbrev saw : Worker
  saw = having_seen o world w

  board_legal : LogsAreLegal o (posted_with world w)
  board_legal = put_all (λ v (x : Log). v < o.workers → LogIsLegal o v x) w (world.worker w).log (posted_logs world) (right.logs w) (λ v e. right.posted v)

  pub board_grows : LogsGrow o (posted_logs world) (posted_with world w)
  board_grows = put_all (λ v (x : Log). v < o.workers → LogGrows (world.worker v).posted x) w (world.worker w).log (posted_logs world) (right.grows w) (λ v e h. grows_refl (world.worker v).posted)

  pub board_is : posted_with world w ≡ posted_logs (exchanged o world w)
  board_is = λ i v. same v i
    where
      same : (v : ℕ) → posted_with world w v ≡ (put w saw world.worker v).posted
      same v =
          ⊎_elim
          (λ (e : v ≡ w). put_here w v (world.worker w).log (posted_logs world) e ∙ sym (ap (λ (k : Worker). k.posted) (put_here w v saw world.worker e)))
          (λ (e : v ≡ w → ⊥). put_other w v (world.worker w).log (posted_logs world) e ∙ sym (ap (λ (k : Worker). k.posted) (put_other w v saw world.worker e)))
          (cases_eq v w)

  pub logs_are : (v : ℕ) → (world.worker v).log ≡ ((exchanged o world w).worker v).log
  logs_are = put_all (λ v (k : Worker). (world.worker v).log ≡ k.log) w saw world.worker refl (λ v e. refl)

  frontier_here : (at : Loc) → IsFrontier o (posted_with world w) at (frontier_of o (posted_with world w) at)
  frontier_here at = frontier_is o (posted_with world w) ok board_legal at

  -- the version, where the log was posted before, and where it wasn't
  pub version_cases : ((version_after world w ≡ world.version) × ((world.worker w).log ≡ (world.worker w).posted)) ⊎ (version_after world w ≡ suc world.version)
  version_cases =
      ⊎_elim
      (λ (e : same_log (world.worker w).log (world.worker w).posted ≡ true). inl (cond-true (same_log (world.worker w).log (world.worker w).posted) world.version (suc world.version) e, same_log_is (world.worker w).log (world.worker w).posted e))
      (λ (e : same_log (world.worker w).log (world.worker w).posted ≡ false). inr (cond-false (same_log (world.worker w).log (world.worker w).posted) world.version (suc world.version) e))
      (cases_Bool (same_log (world.worker w).log (world.worker w).posted))

  pub not_before : world.version ≤ version_after world w
  not_before = ⊎_elim (λ (e : (version_after world w ≡ world.version) × ((world.worker w).log ≡ (world.worker w).posted)). let f = e.0 in omega arith) (λ (e : version_after world w ≡ suc world.version). omega arith) version_cases

  pub same_board : (world.worker w).log ≡ (world.worker w).posted → posted_logs world ≡ posted_with world w
  same_board e = λ i v. put_all (λ v (x : Log). (world.worker v).posted ≡ x) w (world.worker w).log (posted_logs world) (sym e) (λ v e. refl) v i

  still_level : (v : ℕ) → v < o.workers → (world.worker v).version ≡ version_after world w → (at : Loc) → (world.worker v).seen at ≡ frontier_of o (posted_with world w) at
  still_level v h e at =
      ⊎_elim
      (λ (f : (version_after world w ≡ world.version) × ((world.worker w).log ≡ (world.worker w).posted)).
      subst (λ (logs : ℕ → Log). (world.worker v).seen at ≡ frontier_of o logs at) (same_board f.1) (right.level v h (e ∙ f.0) at))
      (λ (f : version_after world w ≡ suc world.version). let b = right.behind v h in absurd (omega arith))
      version_cases

  still_passed : (at : Loc) (t : ℕ) → HasPassed ((world.worker w).seen at) t → HasPassed (frontier_of o (posted_with world w) at) t
  still_passed at t p =
      passed_from_closed o (posted_with world w) ok board_legal at (frontier_of o (posted_with world w) at) t (frontier_here at)
      (closed_grows o (posted_logs world) (posted_with world w) board_grows at t (right.seen w l at t p))

  pub exchange : Moved o depth world (exchanged o world w)
  exchange = (
    record {
      logs = λ v h. subst (LogIsLegal o v) (logs_are v) (right.logs v h);
      posted = put_all (λ v (k : Worker). v < o.workers → LogIsLegal o v k.posted) w saw world.worker (right.logs w) (λ v e. right.posted v);
      grows = put_all (λ v (k : Worker). v < o.workers → LogGrows k.posted k.log) w saw world.worker (λ h. grows_refl (world.worker w).log) (λ v e. right.grows v);
      seen = λ v h at t p.
          subst (λ (logs : ℕ → Log). IsClosed o logs at t) board_is
          (put_all (λ v (k : Worker). v < o.workers → HasPassed (k.seen at) t → IsClosed o (posted_with world w) at t) w saw world.worker
          (λ h p. closed_from_passed o (posted_with world w) ok board_legal at (frontier_of o (posted_with world w) at) t (frontier_here at) p)
          (λ v e h p. closed_grows o (posted_logs world) (posted_with world w) board_grows at t (right.seen v h at t p))
          v h p);
      behind = put_all (λ v (k : Worker). v < o.workers → k.version ≤ version_after world w) w saw world.worker (λ h. omega arith) (λ v e h. let b = right.behind v h in let n = not_before in omega arith);
      level = λ v h e at.
          subst (λ (logs : ℕ → Log). (put w saw world.worker v).seen at ≡ frontier_of o logs at) board_is
          (put_all (λ v (k : Worker). v < o.workers → k.version ≡ version_after world w → k.seen at ≡ frontier_of o (posted_with world w) at) w saw world.worker (λ h e. refl) (λ v f h e. still_level v h e at) v h e);
      mail =
          record {
            order = λ a b la lb. ap (λ (log : Log). from o a log.took ++ joined (world.mailbox a b)) (sym (logs_are b)) ∙ right.mail.order a b la lb ∙ ap (λ (log : Log). to o b log.sent) (logs_are a);
            room = right.mail.room;
            messages = right.mail.messages;
          };
    },
    record {
      logs = λ v h. subst (LogGrows (world.worker v).log) (logs_are v) (grows_refl (world.worker v).log);
      posted = put_all (λ v (k : Worker). v < o.workers → LogGrows (world.worker v).posted k.posted) w saw world.worker (right.grows w) (λ v e h. grows_refl (world.worker v).posted);
      seen = λ v h at t. put_all (λ v (k : Worker). HasPassed ((world.worker v).seen at) t → HasPassed (k.seen at) t) w saw world.worker (still_passed at t) (λ v e p. p) v;
    },
  )

pub exchange_place : (o : Outline) (world : World) (w : ℕ) (kind : Kind) → CanExchange o world w kind → w < o.workers
exchange_place o world w Exchange h = h.0
exchange_place o world w _ h = absurd h

module _ (o : Outline) (depth : ℕ) where
  pub after_more : (steps more : List (ℕ × Kind)) (world : World) → world_after o depth world (steps ++ more) ≡ world_after o depth (world_after o depth world steps) more
  after_more [] more world = refl
  after_more (s ∷ steps) more world = after_more steps more (step_of_machine o depth world s.0 s.1)

  pub turns_more : (steps more : List (ℕ × Kind)) (world : World) → turns_of o depth world (steps ++ more) ≡ turns_of o depth world steps ++ turns_of o depth (world_after o depth world steps) more
  turns_more [] more world = refl
  turns_more (s ∷ steps) more world = ap (λ (turns : List Turn). turn_of_machine o depth world s.0 s.1 ∷ turns) (turns_more steps more (step_of_machine o depth world s.0 s.1))

module _ (o : Outline) (ok : OutlineIsSound o) (depth : ℕ) where
  -- what holds of the world after each turn holds after the step
  pub by_turn : (P : World → Type 0) (world : World) (w : ℕ) (kind : Kind) → ((x : Name) → CanStep o depth world w kind x → P (stepped o world w kind x)) → (CanExchange o world w kind → P (exchanged o world w)) → P world → P (step_of_machine o depth world w kind)
  unfolding step_of_machine turn_of_machine
  by_turn P world w kind did saw not_now = go (turn_of o depth world w kind) refl
    where
      go : (t : Turn) → turn_of o depth world w kind ≡ t → P (after_turn o world w kind t)
      go (Did x n) e = did x (did_to o depth world w ok kind x n e)
      go (Saw v) e = saw (saw_to o depth world w kind v e).0
      go NotNow e = not_now

  pub step_right : (world : World) (w : ℕ) (kind : Kind) → WorldIsRight o depth world → Moved o depth world (step_of_machine o depth world w kind)
  step_right world w kind right =
      by_turn (Moved o depth world) world w kind
      (λ x can. act o ok depth world right w can.0.0 kind x can)
      (λ can. exchange o ok depth world right w (exchange_place o world w kind can))
      (right, goes_on_refl o world)

  pub after_right : (steps : List (ℕ × Kind)) (world : World) → WorldIsRight o depth world → Moved o depth world (world_after o depth world steps)
  after_right [] world right = (right, goes_on_refl o world)
  after_right (s ∷ steps) world right =
      let next = step_of_machine o depth world s.0 s.1 in
      let a = step_right world s.0 s.1 right in
      let b = after_right steps next a.0 in
      (b.0, goes_on_trans o world next (world_after o depth next steps) a.1 b.1)

  pub start_right : WorldIsRight o depth (start_of_machine o)
  start_right =
      let legal : LogsAreLegal o (λ v. empty_log) = λ v h. empty_is_legal o v in
      record {
        logs = λ w l. empty_is_legal o w;
        posted = λ w l. empty_is_legal o w;
        grows = λ w l. grows_refl empty_log;
        seen = λ w l at t p. closed_from_passed o (λ v. empty_log) ok legal at (frontier_of o (λ v. empty_log) at) t (frontier_is o (λ v. empty_log) ok legal at) p;
        behind = λ w l. omega arith;
        level = λ w l e at. refl;
        mail = record { order = λ v w lv lw. refl; room = λ v w lv lw. omega arith; messages = λ v w lv lw. All-nil (IsMessage o) };
      }

  pub run_right : (steps : List (ℕ × Kind)) → WorldIsRight o depth (run_of_machine o depth steps)
  run_right steps = (after_right steps (start_of_machine o) start_right).0

  pub run_goes_on : (steps more : List (ℕ × Kind)) → GoesOn o (run_of_machine o depth steps) (run_of_machine o depth (steps ++ more))
  run_goes_on steps more = subst (GoesOn o (run_of_machine o depth steps)) (sym (after_more o depth steps more (start_of_machine o))) (after_right more (run_of_machine o depth steps) (run_right steps)).1

  -- what holds at the start and after each step with a name and each exchange holds in every run
  pub run_keeps : (P : World → Type 0) → P (start_of_machine o) → ((world : World) (w : ℕ) (kind : Kind) (x : Name) → WorldIsRight o depth world → P world → CanStep o depth world w kind x → P (stepped o world w kind x)) → ((world : World) (w : ℕ) → WorldIsRight o depth world → P world → w < o.workers → P (exchanged o world w)) → (steps : List (ℕ × Kind)) → P (run_of_machine o depth steps)
  run_keeps P start did saw steps = go steps (start_of_machine o) start_right start
    where
      go : (steps : List (ℕ × Kind)) (world : World) → WorldIsRight o depth world → P world → P (world_after o depth world steps)
      go [] world right h = h
      go (s ∷ steps) world right h =
          go steps (step_of_machine o depth world s.0 s.1) (step_right world s.0 s.1 right).0
          (by_turn P world s.0 s.1 (λ x can. did world s.0 s.1 x right h can) (λ can. saw world s.0 right h (exchange_place o world s.0 s.1 can)) h)
