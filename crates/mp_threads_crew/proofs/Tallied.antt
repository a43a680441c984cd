-- What a worker that is finished tells, and lists of what workers tell.
use Rattle.std.proofs.Common.{◌≡◌, ℕ, zero, suc, ◌<◌, List, [], ◌∷◌, ◌++◌, All, Some, Ok, Err, length, sym, ap, subst, arith, get_or}
use Rattle.std.specs.Prelude.{IfOk, map, slice_get}
use Rattle.std.specs.declared.result.Result.{Result}
use Rattle.mp_names.specs.Logs.{Log, LogIsLegal}
use Rattle.mp_names.specs.Outlines.{OutlineIsSound}
use Rattle.mp_machine.specs.Promises.{LogIsFull}
use Rattle.mp_model.specs.Facts.{JobFacts, QueryFacts}
use Rattle.mp_outline.specs.JobOutline.{outline_of}
use Rattle.mp_tally.specs.declared.tally.Tally.{Tally}
use Rattle.mp_tally.specs.Tallies.{IsTallyOf, MovedHasKeys, name_of_moved, sent_packets}
use Rattle.mp_tally.proofs.Lists.{push_all}
use Rattle.mp_tally.proofs.Told.{full_is_tallied}

-- what is read of a place within a list stands there
pub stands_at : {X : Type 0} (xs : List X) (k : ℕ) (x : X) → k < length xs → x ≡ get_or xs k x → slice_get xs k ≡ Some x
stands_at [] k x inside is = absurd (omega arith)
stands_at (y ∷ ys) zero x inside is = ap Some (sym is)
stands_at (y ∷ ys) (suc k) x inside is = stands_at ys k x (omega arith) is

-- what holds of each at its place, and of one more behind them, holds of all
pub one_more_at : {X : Type 0} (P : ℕ → X → Type 0) (now was : List X) (x : X) (n : ℕ) → now ≡ was ++ x ∷ [] → length was ≡ n → ((k : ℕ) (y : X) → slice_get was k ≡ Some y → P k y) → P n x → (k : ℕ) (y : X) → slice_get now k ≡ Some y → P k y
one_more_at {X} P now was x n put many before here =
    subst (λ (l : List X). (k : ℕ) (y : X) → slice_get l k ≡ Some y → P k y) (sym put)
    (push_all P was x before (subst (λ (k : ℕ). P k x) (sym many) here))

module _ {Cell : Type 0} (q : QueryFacts Cell) (job : JobFacts) (ok : OutlineIsSound (outline_of q job)) where
  -- what a full log is told as, where it is told
  pub told_where_full : {X : Type 0} (w : ℕ) (log : Log) (r : Result Tally X) → LogIsLegal (outline_of q job) w log → LogIsFull (outline_of q job) w log
      → IfOk r (λ t. t.groups ≡ length log.applied) → IfOk r (λ t. map name_of_moved t.moved.items ≡ sent_packets job.shape.stages log) → IfOk r (λ t. All (MovedHasKeys q job) t.moved.items)
      → IfOk r (λ t. IsTallyOf q job w t)
  told_where_full w log (Ok t) legal full groups moved keys = full_is_tallied q job ok w log t legal full (record { groups = groups; moved = moved; keys = keys })
  told_where_full w log (Err e) legal full groups moved keys = tt
