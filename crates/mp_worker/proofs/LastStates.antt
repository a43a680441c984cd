-- The states that workers give back, by their numbers, are those of all workers of the job.
use Rattle.std.proofs.Common.{◌≡◌, ◌∙◌, ◌∷◌, [], ℕ, zero, suc, ◌<◌, Bool, List, Some, Ok, Err, Result, ap, arith, length, refl, slice_get, subst, sym}
use Rattle.std.specs.Prelude.{IfOk}
use Rattle.std.proofs.lemmas.Option.{same_Some, slice_get_within}
use Rattle.mp_names.specs.Outlines.{owner_before}
use Rattle.mp_model.specs.Facts.{JobFacts, QueryFacts}
use Rattle.mp_model.specs.Tables.{table_of}
use Rattle.mp_job.specs.Runs.{IsRunOf}
use Rattle.mp_msg.specs.LastStates.{AreAllStates, AreStatesOf, end_time}
use Rattle.mp_msg.specs.States.{BinContent, IsStateBefore}
use Rattle.mp_worker_refinement.specs.State.{WorkerState}
use Rattle.mp_worker.specs.Last.{AreTheirStates}

-- what follows of a value that was given
pub ok_so : {X E : Type 0} (r : Result X E) (P Q : X → Type 0) → ((x : X) → P x → Q x) → IfOk r P → IfOk r Q
ok_so (Ok x) P Q then p = then x p
ok_so (Err e) P Q then p = tt

-- something stands at each place of a list
there_at : {X : Type 0} (xs : List X) (i : ℕ) → i < length xs → (x : X) × (slice_get xs i ≡ Some x)
there_at [] i l = absurd (omega arith)
there_at (x ∷ xs) zero l = (x, refl)
there_at (x ∷ xs) (suc i) l = there_at xs i (omega arith)

module _ {Cell : Type 0} (q : QueryFacts Cell) (job : JobFacts) where
  pub none_theirs : AreTheirStates q job [] []
  none_theirs = record { count = refl; each = λ i s states at there. absurd (cc) }

  -- the states of one worker, and those of the others
  pub one_theirs : (s : WorkerState) (rest : List WorkerState) (states : List (ℕ × BinContent Cell)) (more : List (List (ℕ × BinContent Cell))) → AreStatesOf q job s.number states → AreTheirStates q job rest more → AreTheirStates q job (s ∷ rest) (states ∷ more)
  one_theirs s rest states more own others =
      record {
        count = ap suc others.count;
        each = at_each;
      }
    where
      at_each : (i : ℕ) (r : WorkerState) (given : List (ℕ × BinContent Cell)) → slice_get (s ∷ rest) i ≡ Some r → slice_get (states ∷ more) i ≡ Some given → AreStatesOf q job r.number given
      at_each zero r given a b = subst (AreStatesOf q job r.number) (same_Some states given b) (subst (λ (t : WorkerState). AreStatesOf q job t.number states) (same_Some s r a) own)
      at_each (suc i) r given a b = others.each i r given a b

  -- where all workers stand by their numbers, these are the states of all
  pub all_states : (workers : List WorkerState) → length workers ≡ job.shape.workers → ((w : ℕ) (s : WorkerState) → slice_get workers w ≡ Some s → s.number ≡ w)
      → (all : List (List (ℕ × BinContent Cell))) → AreTheirStates q job workers all → AreAllStates q job all
  all_states workers many numbers all theirs =
      record {
        workers = theirs.count ∙ many;
        each = λ w states at.
            let l : w < length workers = subst (λ (n : ℕ). w < n) theirs.count (slice_get_within all w states at) in
            let s = there_at workers w l in
            subst (λ (v : ℕ). AreStatesOf q job v states) (numbers w s.0 s.1) (theirs.each w s.0 states s.1 at);
      }

-- Whether a run is paced is no part of what its bins have at the end

module _ {Cell : Type 0} (q : QueryFacts Cell) (job : JobFacts) (paced : Bool) where
  same_state : (j b t : ℕ) (s : BinContent Cell) → IsStateBefore q (record job { paced = paced }) j b t s → IsStateBefore q job j b t s
  same_state j b t s is = record { order = is.order; own = record { cells = is.own.cells; wakes = is.own.wakes }; cells = is.cells; wakes = is.wakes }

  same_states : (w : ℕ) (states : List (ℕ × BinContent Cell)) → AreStatesOf q (record job { paced = paced }) w states → AreStatesOf q job w states
  unfolding owner_before
  same_states w states are = record {
    bins = are.bins;
    stages = are.stages;
    each = λ i b s at there. same_state b.0 b.1 (end_time job) s.1 (are.each i b s at there);
    owned = are.owned;
    once = are.once;
  }

  same_all : (all : List (List (ℕ × BinContent Cell))) → AreAllStates q (record job { paced = paced }) all → AreAllStates q job all
  same_all all are = record { workers = are.workers; each = λ w states at. same_states w states (are.each w states at) }

-- so the states of a run are the job's
pub states_of_job : {Cell : Type 0} (facts : List ℕ → QueryFacts Cell) (its job : JobFacts) → IsRunOf its job → (all : List (List (ℕ × BinContent Cell)))
    → AreAllStates (table_of facts job) job all → AreAllStates (table_of facts its) its all
states_of_job facts its job run all are =
    same_all (table_of facts its) its job.paced all (subst (λ (f : JobFacts). AreAllStates (table_of facts f) f all) (sym run) are)
