-- What a worker tells of a job doesn't depend on whether the run is paced.
use Rattle.std.proofs.Common.{ℕ, Bool, List, subst, sym}
use Rattle.mp_names.specs.Outlines.{groups_of, owner_before}
use Rattle.mp_model.specs.Facts.{JobFacts, QueryFacts}
use Rattle.mp_model.specs.Tables.{table_of}
use Rattle.mp_job.specs.Runs.{IsRunOf}
use Rattle.mp_worker_sends.specs.Below.{Tally}
use Rattle.mp_worker_sends.specs.Below.{Moved}
use Rattle.mp_worker_sends.specs.Below.{IsTallyOf, MovedHasKeys}

module _ {Cell : Type 0} where
  same_keys : (q : QueryFacts Cell) (job : JobFacts) (paced : Bool) (m : Moved) → MovedHasKeys q (record job { paced = paced }) m → MovedHasKeys q job m
  same_keys q job paced m has =
      let s = has.1 in
      (has.0, record { order = s.order; own = record { cells = s.own.cells; wakes = s.own.wakes }; cells = s.cells; wakes = s.wakes }, has.2)

  same_tally : (q : QueryFacts Cell) (job : JobFacts) (paced : Bool) (w : ℕ) (t : Tally) → IsTallyOf q (record job { paced = paced }) w t → IsTallyOf q job w t
  unfolding groups_of owner_before
  same_tally q job paced w t is = record { groups = is.groups; moves = is.moves; once = is.once; keys = λ k d l. same_keys q job paced _ (is.keys k d l) }

  -- a tally of a run is the job's
  pub tally_of_job : (facts : List ℕ → QueryFacts Cell) (its job : JobFacts) → IsRunOf its job → (w : ℕ) (t : Tally) → IsTallyOf (table_of facts job) job w t → IsTallyOf (table_of facts its) its w t
  tally_of_job facts its job run w t is =
      same_tally (table_of facts its) its job.paced w t (subst (λ (f : JobFacts). IsTallyOf (table_of facts f) f w t) (sym run) is)
