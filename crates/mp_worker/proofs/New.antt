-- Workers that have done nothing.
use Rattle.std.proofs.Common.{◌≡◌, ℕ, List, [], ◌∷◌, ◌++◌, Some, length, sym, ap, ◌∙◌, subst}
use Rattle.std.specs.Prelude.{replicate, slice_get}
use Rattle.mp_names.specs.Logs.{empty_log}
use Rattle.mp_names.specs.Outlines.{Outline}
use Rattle.mp_stamps.specs.declared.seen.Seen.{Seen}
use Rattle.mp_board.specs.Boards.{ShowsFrontiers}
use Rattle.mp_worker_refinement.specs.Laws.{IsNewWorker}
use Rattle.mp_worker_refinement.specs.State.{WorkerState}
use Rattle.mp_worker_sends.specs.Below.{push_all}

-- a worker that has done nothing, by its parts
pub is_new : (o : Outline) (w : ℕ) (s : WorkerState) (seen : Seen) → s.number ≡ w → s.log ≡ empty_log → s.posted ≡ empty_log → s.seen ≡ seen → seen.version ≡ 0 → ShowsFrontiers o (replicate o.workers empty_log) seen → IsNewWorker o w s
is_new o w s seen number log posted saw version shows =
    record {
      number = number;
      log = log;
      posted = posted;
      version = ap (λ (x : Seen). x.version) saw ∙ version;
      seen = subst (ShowsFrontiers o (replicate o.workers empty_log)) (sym saw) shows;
    }

-- one more of them
pub one_more_new : (o : Outline) (n : ℕ) (xs ys : List WorkerState) (x : WorkerState) → ((w : ℕ) (s : WorkerState) → slice_get xs w ≡ Some s → IsNewWorker o w s) → length xs ≡ n → IsNewWorker o n x → ys ≡ xs ++ x ∷ [] → (w : ℕ) (s : WorkerState) → slice_get ys w ≡ Some s → IsNewWorker o w s
one_more_new o n xs ys x new many is grown =
    subst (λ (l : List WorkerState). (w : ℕ) (s : WorkerState) → slice_get l w ≡ Some s → IsNewWorker o w s) (sym grown)
    (push_all (IsNewWorker o) xs x new (subst (λ (k : ℕ). IsNewWorker o k x) (sym many) is))
