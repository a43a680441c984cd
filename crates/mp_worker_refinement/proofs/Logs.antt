-- Workers are still those of the machine, once one of them has another log or has seen more.
use Rattle.std.proofs.Common.{◌≡◌, ℕ, ◌<◌, ◌==◌, List, Some, length, set, refl, sym, ap, ◌∙◌, subst, arith}
use Rattle.std.specs.Prelude.{slice_get}
use Rattle.std.proofs.lemmas.List.{length-set}
use Rattle.std.proofs.lemmas.Option.{slice_get_within}
use Rattle.mp_names.specs.declared.names.Name.{Name}
use Rattle.mp_names.specs.Frontiers.{log_at}
use Rattle.mp_names.specs.Outlines.{Outline}
use Rattle.mp_names.specs.Logs.{Log}
use Rattle.mp_mailbox.specs.Queues.{Queues, queue_between}
use Rattle.mp_machine.specs.Worlds.{Worker, World, logs_of, put}
use Rattle.mp_machine.proofs.Puts.{put_here, put_other}
use Rattle.mp_board.specs.Boards.{Posted}
use Rattle.mp_worker_refinement.specs.Ends.{FollowsLog, MessagesFollowLog, sent_to, took_from}
use Rattle.mp_worker_refinement.specs.State.{WorkerState}
use Rattle.mp_worker_refinement.specs.SystemState.{Refines, IsWorkerOf, SystemState, queues_denote, queues_wait}
use Rattle.mp_worker_refinement.proofs.Lists.{of_chosen, set_all}
use Rattle.mp_worker_refinement.proofs.Mailboxes.{StandFor, follow, kept_at, queue_moves}

module _ (o : Outline) (depth : ℕ) (t : SystemState) (world : World) (are : Refines o depth t world) (w : ℕ) (s : WorkerState) (was : slice_get t.workers w ≡ Some s) where
  pub listed : w < o.workers
  listed = let l = slice_get_within t.workers w s was in let e = are.all_workers in omega arith

  module _ (new : WorkerState) (me : Worker) (is : IsWorkerOf o w new me) where
    workers_are : (v : ℕ) (y : WorkerState) → slice_get (set t.workers w new) v ≡ Some y → IsWorkerOf o v y (put w me world.worker v)
    workers_are =
        set_all (λ v (y : WorkerState). IsWorkerOf o v y (put w me world.worker v)) t.workers w new
        (subst (IsWorkerOf o w new) (sym (put_here w w me world.worker refl)) is)
        (λ v y n e. subst (IsWorkerOf o v y) (sym (put_other w v me world.worker n)) (are.workers v y e))

    logs_are : (v : ℕ) → put w new.log (logs_of world) v ≡ (put w me world.worker v).log
    logs_are v = ap (λ (l : Log). put w l (logs_of world) v) is.log ∙ of_chosen (λ (k : Worker). k.log) (v == w) me (world.worker v)

    pub mail_is : (post : Queues (List Name)) → FollowsLog (queues_denote o t.post) (queues_denote o post) o w s.log new.log → StandFor o post (λ v. (put w me world.worker v).log)
    mail_is post follows a b la lb =
        subst (λ (l : Log). queues_denote o post a b (sent_to o l b) (took_from o (put w me world.worker b).log a)) (logs_are a)
        (subst (λ (l : Log). queues_denote o post a b (sent_to o (put w new.log (logs_of world) a) b) (took_from o l a)) (logs_are b)
        (follow o w (logs_of world) t.post post s.log new.log (are.workers w s was).log follows are.mail a b la lb))

    -- the worker of the machine is another one, and the mailboxes follow its log
    pub next_world : (post : Queues (List Name)) (board : Posted) (version : ℕ) (mailbox : ℕ → ℕ → List (List Name)) → post.workers ≡ t.post.workers → post.depth ≡ t.post.depth → FollowsLog (queues_denote o t.post) (queues_denote o post) o w s.log new.log
        → length board.logs ≡ o.workers → ((v : ℕ) → v < o.workers → log_at board.logs v ≡ (put w me world.worker v).posted) → board.version ≡ version
        → ((v u : ℕ) → v < o.workers → u < o.workers → queue_between post v u ≡ mailbox v u)
        → Refines o depth (record { workers = set t.workers w new; board = board; post = post }) (record { worker = put w me world.worker; version = version; mailbox = mailbox })
    next_world post board version mailbox each deep follows all_logs posted versions holds =
        record {
          all_workers = length-set t.workers w new ∙ are.all_workers;
          workers = workers_are;
          all_logs = all_logs;
          posted = posted;
          version = versions;
          all_queues = each ∙ are.all_queues;
          each_depth = deep ∙ are.each_depth;
          mail = mail_is post follows;
          messages = holds;
        }

-- where logs are as they were, and no mailbox of the machine has changed, the queues hold what they held
module _ (o : Outline) (depth : ℕ) (t : SystemState) (world : World) (are : Refines o depth t world) (w : ℕ) (s : WorkerState) where
  pub still_hold : (post : Queues (List Name)) → MessagesFollowLog (queues_wait t.post) (queues_wait post) o w s.log s.log → (v u : ℕ) → v < o.workers → u < o.workers → queue_between post v u ≡ world.mailbox v u
  still_hold post follows v u lv lu =
      kept_at o w (queue_between t.post) (queue_between post) s.log s.log refl refl v u (queue_moves o w t.post post s.log s.log are.all_queues follows v u lv lu) ∙ are.messages v u lv lu
