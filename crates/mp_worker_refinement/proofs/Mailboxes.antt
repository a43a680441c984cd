-- The queues of a post are the mailboxes of the machine.
use Rattle.std.proofs.Common.{◌≡◌, ◌≢◌, ◌⊎◌, ℕ, ◌<◌, ◌==◌, List, [], ◌∷◌, ◌++◌, length, refl, sym, ap, ◌∙◌, subst, ⊎_elim, append-nil, arith}
use Rattle.std.proofs.lemmas.List.{map-id}
use Rattle.mp_names.specs.declared.kinds.Kind.{Kind}
use Rattle.mp_names.specs.declared.kinds.Kind.TheVariants.{SendControl, Route, Receive, Extract, SendRow}
use Rattle.mp_names.specs.declared.names.Name.{Name}
use Rattle.mp_names.specs.declared.names.Name.TheVariants.{Packet}
use Rattle.mp_names.specs.Names.{In}
use Rattle.mp_names.specs.Outlines.{Outline, OutlineIsSound, IsMove, IsOwed, receiver, sender}
use Rattle.mp_names.specs.Logs.{Log}
use Rattle.mp_names.proofs.Listed.{edges}
use Rattle.mp_mailbox.specs.Queues.{HadRoom, Queues, WasEmpty, WasFull, queue_between}
use Rattle.mp_machine.specs.Worlds.{World, Worker, put}
use Rattle.mp_machine.specs.Steps.{HasRoom, IsDue, IsNext, KindFits, MailAllows, popped, pushed, rest_of}
use Rattle.mp_machine.proofs.Puts.{popped_at, popped_elsewhere, pushed_at, pushed_elsewhere, put_all}
use Rattle.mp_msg.specs.Bundles.{receiver_of}
use Rattle.mp_worker_refinement.specs.Ends.{FollowsLog, MessagesFollowLog, in_one_message, popped_by, pushed_by, sent_since, sent_to, took_from, took_since}
use Rattle.mp_worker_refinement.specs.Mail.{MailboxBlocks, MailboxAllows}
use Rattle.mp_worker_refinement.specs.SystemState.{queues_denote, queues_wait}
use Rattle.mp_worker_refinement.proofs.Lists.{at_edge, of_chosen, one_message, same_edge}
use Rattle.mp_worker_refinement.proofs.Messages.{sent_elsewhere, sent_nothing, sent_there, took_elsewhere, took_nothing, took_there}

-- each mailbox stands for what these logs have as sent and taken
abbrev pub StandFor : Outline → Queues (List Name) → (ℕ → Log) → Type 0
StandFor o post logs = (v w : ℕ) → v < o.workers → w < o.workers → queues_denote o post v w (sent_to o (logs v) w) (took_from o (logs w) v)

-- The mailboxes as a log grows

module _ (o : Outline) (w : ℕ) (logs : ℕ → Log) where
  pushed_is : (log : Log) (a b : ℕ) → pushed_by o w log a b (sent_to o (logs a) b) ≡ sent_to o (put w log logs a) b
  pushed_is log a b = of_chosen (λ (l : Log). sent_to o l b) (a == w) log (logs a)

  popped_is : (log : Log) (a b : ℕ) → popped_by o w log a b (took_from o (logs b) a) ≡ took_from o (put w log logs b) a
  popped_is log a b = of_chosen (λ (l : Log). took_from o l a) (b == w) log (logs b)

  stays : (log : Log) → log ≡ logs w → (v : ℕ) → put w log logs v ≡ logs v
  stays log e = put_all (λ v (l : Log). l ≡ logs v) w log logs e (λ v n. refl)

  -- what a post stands for at an edge, by the log of one worker at its ends
  pub at_ends : (post : Queues (List Name)) (log : Log) → log ≡ logs w → StandFor o post logs → (a b : ℕ) → a < o.workers → b < o.workers
      → queues_denote o post a b (pushed_by o w log a b (sent_to o (logs a) b)) (popped_by o w log a b (took_from o (logs b) a))
  at_ends post log e stand a b la lb =
      let pushed : sent_to o (logs a) b ≡ pushed_by o w log a b (sent_to o (logs a) b) = ap (λ (l : Log). sent_to o l b) (sym (stays log e a)) ∙ sym (pushed_is log a b) in
      let popped : took_from o (logs b) a ≡ popped_by o w log a b (took_from o (logs b) a) = ap (λ (l : Log). took_from o l a) (sym (stays log e b)) ∙ sym (popped_is log a b) in
      subst (λ (p : List Name). queues_denote o post a b p (popped_by o w log a b (took_from o (logs b) a))) pushed (subst (λ (q : List Name). queues_denote o post a b (sent_to o (logs a) b) q) popped (stand a b la lb))

  pub follow : (old new : Queues (List Name)) (log after : Log) → log ≡ logs w → FollowsLog (queues_denote o old) (queues_denote o new) o w log after → StandFor o old logs → StandFor o new (put w after logs)
  follow old new log after e follows stand a b la lb =
      let then = follows a b (sent_to o (logs a) b) (took_from o (logs b) a) la lb (at_ends old log e stand a b la lb) in
      subst (λ (p : List Name). queues_denote o new a b p (took_from o (put w after logs b) a)) (pushed_is after a b)
      (subst (λ (q : List Name). queues_denote o new a b (pushed_by o w after a b (sent_to o (logs a) b)) q) (popped_is after a b) then)

-- What waits

-- between two queues, what the log of a worker at their ends says
pub queue_moves : (o : Outline) (w : ℕ) (old new : Queues (List Name)) (log after : Log) → old.workers ≡ o.workers → MessagesFollowLog (queues_wait old) (queues_wait new) o w log after → (a b : ℕ) → a < o.workers → b < o.workers
    → queue_between old a b ++ in_one_message (sent_since o w log after a b) ≡ in_one_message (took_since o w log after a b) ++ queue_between new a b
queue_moves o w old new log after each follows a b la lb =
    let queue = queue_between old a b in
    let left = follows a b queue la lb (record { sender = rw each la; receiver = rw each lb; queued = map-id queue }) in
    left.2 ∙ ap (λ (l : List (List Name)). in_one_message (took_since o w log after a b) ++ l) (sym left.1.queued ∙ map-id (queue_between new a b))

-- the mailbox after a step, where the queue moves so

abbrev pub Moves : List (List Name) → List Name → List Name → List (List Name) → Type 0
Moves mailbox sent took queue = mailbox ++ in_one_message sent ≡ in_one_message took ++ queue

still : (mailbox : List (List Name)) (sent took : List Name) (queue : List (List Name)) → sent ≡ [] → took ≡ [] → Moves mailbox sent took queue → queue ≡ mailbox
still mailbox sent took queue s t moves =
    ap (λ (l : List Name). in_one_message l ++ queue) (sym t) ∙ sym moves ∙ ap (λ (l : List Name). mailbox ++ in_one_message l) s ∙ append-nil mailbox

one_more : (mailbox : List (List Name)) (sent took : List Name) (queue : List (List Name)) (xs : List Name) → 0 < length xs → sent ≡ xs → took ≡ [] → Moves mailbox sent took queue → queue ≡ mailbox ++ xs ∷ []
one_more mailbox sent took queue xs some s t moves =
    ap (λ (l : List Name). in_one_message l ++ queue) (sym t) ∙ sym moves ∙ ap (λ (l : List Name). mailbox ++ in_one_message l) s ∙ ap (λ (l : List (List Name)). mailbox ++ l) (one_message xs some)

pub one_less : (mailbox : List (List Name)) (sent took : List Name) (queue : List (List Name)) (xs : List Name) → 0 < length xs → sent ≡ [] → took ≡ xs → Moves mailbox sent took queue → mailbox ≡ xs ∷ queue
one_less mailbox sent took queue xs some s t moves =
    sym (append-nil mailbox)
    ∙ ap (λ (l : List Name). mailbox ++ in_one_message l) (sym s)
    ∙ moves
    ∙ ap (λ (l : List Name). in_one_message l ++ queue) t
    ∙ ap (λ (l : List (List Name)). l ++ queue) (one_message xs some)

module _ (o : Outline) (w : ℕ) (mailbox queue : ℕ → ℕ → List (List Name)) (log after : Log) where
  -- the queue has moved as the log went on
  abbrev pub MovesAt : ℕ → ℕ → Type 0
  MovesAt a b = Moves (mailbox a b) (sent_since o w log after a b) (took_since o w log after a b) (queue a b)

  pub kept_at : after.sent ≡ log.sent → after.took ≡ log.took → (a b : ℕ) → MovesAt a b → queue a b ≡ mailbox a b
  kept_at sent took a b moves = still (mailbox a b) (sent_since o w log after a b) (took_since o w log after a b) (queue a b) (sent_nothing o w log after sent a b) (took_nothing o w log after took a b) moves

  pub pushed_is_queued : (xs : List Name) (v : ℕ) → 0 < length xs → ((x : Name) → In x xs → receiver o x ≡ v) → after.sent ≡ log.sent ++ xs → after.took ≡ log.took → (a b : ℕ) → MovesAt a b → queue a b ≡ pushed w v xs mailbox a b
  pushed_is_queued xs v some goes more took a b moves =
      ⊎_elim
      (λ (same : (a ≡ w) × (b ≡ v)).
      one_more (mailbox a b) (sent_since o w log after a b) (took_since o w log after a b) (queue a b) xs some (sent_there o w log after xs v goes more a b same) (took_nothing o w log after took a b) moves
      ∙ sym (at_edge (λ c d. pushed w v xs mailbox c d ≡ mailbox c d ++ xs ∷ []) same (pushed_at w v xs mailbox)))
      (λ (other : (a ≢ w) ⊎ (b ≢ v)).
      still (mailbox a b) (sent_since o w log after a b) (took_since o w log after a b) (queue a b) (sent_elsewhere o w log after xs v goes more a b other) (took_nothing o w log after took a b) moves
      ∙ sym (pushed_elsewhere w v xs mailbox a b (λ e f. ⊎_elim (λ (n : a ≢ w). n e) (λ (n : b ≢ v). n f) other)))
      (same_edge a b w v)

  module _ (xs : List Name) (v : ℕ) (some : 0 < length xs) (comes : (x : Name) → In x xs → sender o x ≡ v) (sent : after.sent ≡ log.sent) (more : after.took ≡ log.took ++ xs) where
    pub taken_was_first : (a b : ℕ) → (a ≡ v) × (b ≡ w) → MovesAt a b → mailbox a b ≡ xs ∷ queue a b
    taken_was_first a b same moves =
        one_less (mailbox a b) (sent_since o w log after a b) (took_since o w log after a b) (queue a b) xs some (sent_nothing o w log after sent a b) (took_there o w log after xs v comes more a b same) moves

    pub popped_is_gone : (a b : ℕ) → MovesAt a b → queue a b ≡ popped v w mailbox a b
    popped_is_gone a b moves =
        ⊎_elim
        (λ (same : (a ≡ v) × (b ≡ w)).
        sym (at_edge (λ c d. popped v w mailbox c d ≡ rest_of (mailbox c d)) same (popped_at v w mailbox) ∙ ap (λ (l : List (List Name)). rest_of l) (taken_was_first a b same moves)))
        (λ (other : (a ≢ v) ⊎ (b ≢ w)).
        still (mailbox a b) (sent_since o w log after a b) (took_since o w log after a b) (queue a b) (sent_nothing o w log after sent a b) (took_elsewhere o w log after xs v comes more a b other) moves
        ∙ sym (popped_elsewhere v w mailbox a b (λ e f. ⊎_elim (λ (n : a ≢ v). n e) (λ (n : b ≢ w). n f) other)))
        (same_edge a b v w)

-- Whether a mailbox is in the way

cons_nil : {X : Type 0} (x : X) (xs : List X) → x ∷ xs ≡ [] → ⊥
cons_nil x xs e = cc

due_owed : (o : Outline) (w : ℕ) (worker : Worker) (j : ℕ) (x : Name) → IsDue o w worker j x → IsOwed o x
due_owed o w worker j (Packet i b t) h = subst (λ (n : ℕ). IsMove o n b t) (sym h.0.0) h.0.1.0
due_owed o w worker j _ h = absurd h

module _ (o : Outline) (ok : OutlineIsSound o) (depth : ℕ) (world : World) (post : Queues (List Name)) (holds : (v w : ℕ) → v < o.workers → w < o.workers → queue_between post v w ≡ world.mailbox v w) (deep : post.depth ≡ depth) (w : ℕ) (lw : w < o.workers) where
  waiting : (x : Name) → IsOwed o x → length (queue_between post w (receiver o x)) ≡ length (world.mailbox w (receiver o x))
  waiting x owed = ap (λ (l : List (List Name)). length l) (holds w (receiver o x) lw (edges o ok x owed).1)

  room : (x : Name) → IsOwed o x → HadRoom post w (receiver o x) → HasRoom o depth world.mailbox w x
  room x owed h = let e = waiting x owed in omega arith

  full : (x : Name) → IsOwed o x → WasFull post w (receiver o x) → HasRoom o depth world.mailbox w x → ⊥
  full x owed h space = let e = waiting x owed in omega arith

  pub allowed : (kind : Kind) (x : Name) (xs : List Name) → IsNext o w (world.worker w) kind x → receiver_of o xs ≡ receiver o x → MailboxAllows (HadRoom post) o w kind xs
      → ((v : ℕ) → kind ≡ Receive v → (rest : List Name) × (others : List (List Name)) × (world.mailbox v w ≡ (x ∷ rest) ∷ others)) → MailAllows o depth world.mailbox w kind x
  allowed SendControl x xs next to lets first = room x next.0.0.1 (rw to at lets)
  allowed (Route j) x xs next to lets first = room x next.0.1 (rw to at lets)
  allowed (Receive v) x xs next to lets first = first v refl
  allowed (Extract j) x xs next to lets first = room x (due_owed o w (world.worker w) j x next.0) (rw to at lets)
  allowed SendRow x xs next to lets first = room x next.0.1 (rw to at lets)
  allowed _ x xs next to lets first = tt

  pub hindered : (kind : Kind) (x : Name) → KindFits o kind → IsNext o w (world.worker w) kind x → MailboxBlocks (WasFull post) (WasEmpty post) o w kind x → MailAllows o depth world.mailbox w kind x → ⊥
  hindered SendControl x fits next h allows = full x next.0.0.1 h allows
  hindered (Route j) x fits next h allows = full x next.0.1 h allows
  hindered (Receive v) x fits next h allows = cons_nil (x ∷ allows.0) allows.1 (sym allows.2 ∙ sym (holds v w fits lw) ∙ h)
  hindered (Extract j) x fits next h allows = full x (due_owed o w (world.worker w) j x next.0) h allows
  hindered SendRow x fits next h allows = full x next.0.1 h allows
  hindered _ x fits next h allows = h
