-- Worker 0 writes the rows of a time: it may, its lines are the answer's, and the parts hold what the new log says.
use Rattle.std.proofs.Common.{◌≡◌, ◌≢◌, ◌∙◌, ℕ, List, [], ◌∷◌, Option, None, Ok, Err, ap, refl, subst, sym, take}
use Rattle.std.specs.Prelude.{IsErrAnd}
use Rattle.std.specs.declared.result.Result.{Result}
use Rattle.mp_names.specs.declared.kinds.Kind.TheVariants.{Write}
use Rattle.mp_names.specs.declared.locations.Frontier.{Frontier}
use Rattle.mp_names.specs.declared.locations.Loc.TheVariants.{OutMail}
use Rattle.mp_names.specs.declared.names.Name.TheVariants.{Written}
use Rattle.mp_names.specs.Frontiers.{HasPassed, IsClosedForOne}
use Rattle.mp_names.specs.Keeping.{IsUnwritten}
use Rattle.mp_names.specs.Logs.{with_settled}
use Rattle.mp_names.specs.Names.{IsLeast}
use Rattle.mp_names.specs.Outlines.{OutlineIsSound}
use Rattle.mp_stamps.specs.Seen.{seen_at}
use Rattle.mp_model.specs.declared.record.Output.{Output}
use Rattle.mp_model.specs.Facts.{JobFacts, QueryFacts}
use Rattle.mp_outside.specs.Fault.{Rose}
use Rattle.mp_outside.specs.Sink.{grown}
use Rattle.mp_outline.specs.JobOutline.{outline_of}
use Rattle.mp_msg.specs.declared.names.Names.{Names}
use Rattle.mp_output.specs.declared.refused.OutRefused.{OutRefused}
use Rattle.mp_output.specs.declared.refused.OutRefused.TheVariants.{WriteFault, NoMemory}
use Rattle.mp_output.specs.Holding.{WritesNext, answer_at}
use Rattle.mp_output.specs.Unwritten.{IsDue, lines_of, rows_at}
use Rattle.mp_worker_invariant.specs.Kept.{with_unwritten}
use Rattle.mp_worker_invariant.specs.Parts.{ArePartsOf, Parts}
use Rattle.mp_worker_invariant.proofs.Kept.{steps_keep_parts}
use Rattle.mp_worker_refinement.specs.State.{CanMake, WorkerState}
use Rattle.mp_worker_steps.specs.Writing.{Writes, WritesNoMore, WritesPart}

-- the frontier has passed a time that is due
passed : (frontier : Frontier) (rows : List Output) (t : ℕ) → IsDue frontier rows t → HasPassed frontier t
passed frontier [] t due = absurd due
passed frontier (row ∷ rows) t due = due.1

module _ {Cell : Type 0} {q : QueryFacts Cell} {job : JobFacts} {p : Parts Cell} (parts : ArePartsOf q job p) (first : p.number ≡ 0) (t : ℕ) (due : IsDue (seen_at p.seen OutMail) p.unwritten t) where
  -- all rows of a time that is due have come
  pub rows_have_come : IsClosedForOne (outline_of q job) 0 p.log OutMail t
  rows_have_come = subst (λ (v : ℕ). IsClosedForOne (outline_of q job) v p.log OutMail t) first (parts.done OutMail t tt (passed _ p.unwritten t due))

  -- to write it is a step that the worker can make
  pub can_write : IsLeast (IsUnwritten p.log) (Written t) → CanMake (outline_of q job) Write (record { number = p.number; log = p.log; posted = p.posted; seen = p.seen; steps = None }) (Written t)
  can_write least = record { fits = tt; next = (first, least); ready = passed _ p.unwritten t due }

  -- its lines are the answer's, so a part of them is a part of the answer's
  pub part_written :
      IsLeast (IsUnwritten p.log) (Written t) × (IsClosedForOne (outline_of q job) 0 p.log OutMail t → lines_of (rows_at t p.unwritten) ≡ answer_at q job.events t)
      → (n : ℕ) (old new : Option (List ℕ)) → new ≡ grown old (take n (lines_of (rows_at t p.unwritten))) → WritesPart q job (record { number = p.number; log = p.log; posted = p.posted; seen = p.seen; steps = None }) old new
  part_written told n old new grew = (t, n, can_write told.0, grew ∙ ap (λ (lines : List ℕ). grown old (take n lines)) (told.1 rows_have_come))

  -- once it is written the parts hold what the new log says
  pub time_written : OutlineIsSound (outline_of q job) → (rows : List Output) → WritesNext p.log t rows → ArePartsOf q job (with_unwritten p (with_settled p.log (Written t)) rows)
  time_written sound rows next = (steps_keep_parts q job sound p parts).write t rows first next.least (passed _ p.unwritten t due) next.held

pub err_is : {T : Type 0} (e f : OutRefused) → ◌≡◌ {A = Result T OutRefused} (Err e) (Err f) → e ≡ f
err_is e f is = cc

-- a write that is refused leaves no more than a part, and a fault where it failed
module _ {Cell S : Type 0} (q : QueryFacts Cell) (job : JobFacts) (written : S → Option (List ℕ)) (faults : S → ℕ) (s : WorkerState) (old new : S) (part : WritesNoMore q job written faults s old new) where
  pub writes_refused : (e : OutRefused) (r : Result (Option Names) OutRefused) → IsErrAnd r (λ f. f ≡ e) → (e ≡ WriteFault → Rose (faults old) (faults new)) → (e ≢ WriteFault → faults new ≡ faults old) → Writes q job written faults s old new r
  writes_refused e (Ok x) is rose same = absurd is
  writes_refused WriteFault (Err f) is rose same = subst (λ (g : OutRefused). Writes q job written faults s old new (Err g)) (sym is) (part, rose refl)
  writes_refused NoMemory (Err f) is rose same = subst (λ (g : OutRefused). Writes q job written faults s old new (Err g)) (sym is) (part, same (λ e. cc))
