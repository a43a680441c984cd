-- Workers that have done nothing are the start of the machine, and what an opening board shows is true of their logs.
use Rattle.std.proofs.Common.{◌≡◌, ℕ, zero, suc, ◌+◌, ◌*◌, ◌<◌, List, [], length, refl, sym, ap, ◌∙◌, subst}
use Rattle.std.specs.Prelude.{replicate}
use Rattle.std.proofs.lemmas.List.{get_or-replicate, length-replicate}
use Rattle.mp_names.specs.declared.names.Name.{Name}
use Rattle.mp_names.specs.Frontiers.{IsClosedForOne, count_at, frontier_of, log_at}
use Rattle.mp_names.specs.Outlines.{Outline, OutlineIsSound}
use Rattle.mp_names.specs.Logs.{Log, LogIsLegal, LogsAreLegal, empty_log}
use Rattle.mp_names.proofs.Exact.{closed_from_passed, frontier_unique}
use Rattle.mp_names.proofs.Exists.{frontier_is}
use Rattle.mp_names.proofs.Keeps.{empty_is_legal}
use Rattle.mp_stamps.specs.Seen.{seen_at}
use Rattle.mp_mailbox.specs.Queues.{Queues, queue_between}
use Rattle.mp_mailbox.proofs.Queued.{empty_stands, place_inside}
use Rattle.mp_machine.specs.Worlds.{start_of_machine}
use Rattle.mp_msg.specs.Bundles.{receiver_of, sender_of}
use Rattle.mp_worker_refinement.specs.Laws.{IsNewWorker, OpeningIsTheStart, OpeningIsTold}
use Rattle.mp_worker_refinement.specs.State.{WorkerState}
use Rattle.mp_worker_refinement.specs.SystemState.{IsWorkerOf, queues_denote}
use Rattle.mp_worker_refinement.proofs.Exchanges.{frontier_of_logs}

empty_at : (n v : ℕ) → log_at (replicate n empty_log) v ≡ empty_log
empty_at zero v = refl
empty_at (suc n) zero = refl
empty_at (suc n) (suc v) = empty_at n v

opening_legal : (o : Outline) → LogsAreLegal o (log_at (replicate o.workers empty_log))
opening_legal o w l = subst (LogIsLegal o w) (sym (empty_at o.workers w)) (empty_is_legal o w)

pub opening_is_told : OpeningIsTold
opening_is_told o w seen ok l shows at t has passed =
    let logs = log_at (replicate o.workers empty_log) in
    subst (λ (log : Log). IsClosedForOne o w log at t) (empty_at o.workers w) (closed_from_passed o logs ok (opening_legal o) at (seen_at seen at) t (shows at has) passed w l)

begins : (o : Outline) → OutlineIsSound o → (w : ℕ) (s : WorkerState) → IsNewWorker o w s → IsWorkerOf o w s ((start_of_machine o).worker w)
begins o ok w s new =
    record {
      number = new.number;
      log = new.log;
      posted = new.posted;
      seen = λ at has.
          frontier_unique (count_at o (λ v. empty_log)) at (seen_at s.seen at) (frontier_of o (λ v. empty_log) at)
          (frontier_of_logs o (log_at (replicate o.workers empty_log)) (λ v. empty_log) (λ v l. empty_at o.workers v) at (seen_at s.seen at) (new.seen at has))
          (frontier_is o (λ v. empty_log) ok (λ v l. empty_is_legal o v) at);
      version = new.version;
    }

pub opening_is_the_start : OpeningIsTheStart
opening_is_the_start o depth t ok all new logs version post =
    let stands = λ (v w : ℕ) (lv : v < o.workers) (lw : w < o.workers). empty_stands (λ (xs : List Name). xs) (sender_of o) (receiver_of o) o.workers depth v w lv lw in
    record {
      all_workers = all;
      workers = λ w s e. begins o ok w s (new w s e);
      all_logs = ap length logs ∙ length-replicate o.workers empty_log;
      posted = λ w l. ap (λ (ls : List Log). log_at ls w) logs ∙ empty_at o.workers w;
      version = version;
      all_queues = ap (λ (q : Queues (List Name)). q.workers) post;
      each_depth = ap (λ (q : Queues (List Name)). q.depth) post;
      mail = λ v w lv lw. subst (λ (q : Queues (List Name)). queues_denote o q v w [] []) (sym post) (stands v w lv lw);
      messages = λ v w lv lw. ap (λ (q : Queues (List Name)). queue_between q v w) post ∙ get_or-replicate (o.workers * o.workers) (v * o.workers + w) [] [] (place_inside o.workers v w lv lw);
    }
