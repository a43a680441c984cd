-- What a step of a worker leaves of the answer in a sink.
use Rattle.std.proofs.Common.{◌≡◌, ◌≢◌, ◌⊎◌, ⊎_elim, ℕ, List, ◌++◌, Ok, Err, Option, take, refl, sym, ap, ◌∙◌, subst, inl, inr}
use Rattle.std.specs.Prelude.{OnErr, OnOk}
use Rattle.std.specs.declared.result.Result.{Result}
use Rattle.mp_names.specs.declared.kinds.Kind.{Kind}
use Rattle.mp_names.specs.declared.kinds.Kind.TheVariants.{Exchange, Write}
use Rattle.mp_names.specs.declared.names.Name.{Name}
use Rattle.mp_names.specs.declared.names.Name.TheVariants.{Written}
use Rattle.mp_names.specs.Keeping.{IsUnwritten}
use Rattle.mp_names.specs.Logs.{Log, LogIsLegal, with_settled}
use Rattle.mp_outside.specs.Fault.{Rose}
use Rattle.mp_outside.specs.Sink.{grown}
use Rattle.mp_outside.proofs.SinkLemmas.{grown-grown}
use Rattle.mp_model.specs.Facts.{JobFacts, QueryFacts}
use Rattle.mp_outline.specs.JobOutline.{outline_of}
use Rattle.mp_output.specs.Holding.{answer_at}
use Rattle.mp_answer_laws.specs.Lines.{HasBegun, HasWritten, lines_of_time, written_lines}
use Rattle.mp_answer_laws.proofs.Written.{parts_of_lines_begin, writing_adds_lines, written_lines_begin}
use Rattle.mp_worker_refinement.specs.State.{CanMake, WorkerState, as_machine}
use Rattle.mp_worker.specs.Below.{Stop}
use Rattle.mp_worker.specs.Below.stop
use Rattle.mp_worker.specs.Below.{Turn}
use Rattle.mp_worker.specs.Below.turn
use Rattle.mp_worker.specs.Turns.{Answers}
use Rattle.mp_worker.specs.Writing.{WritesInTurn, WritesNoMore, WritesPart}
use Rattle.mp_worker.proofs.Told.{no_lines_else, one_time}

is_write : (kind : Kind) → (kind ≡ Write) ⊎ (kind ≢ Write)
is_write Write = inl refl
is_write kind = inr (λ e. cc)

no_write : (kind : Kind) → kind ≡ Exchange → kind ≢ Write
no_write kind e f = cc

module _ {Cell S : Type 0} (q : QueryFacts Cell) (job : JobFacts) (written : S → Option (List ℕ)) (faults : S → ℕ) (had_room was_full was_empty : ℕ → ℕ → Type 0) (kind : Kind) (s new : WorkerState) (old now : S) (others : kind ≢ Write → now ≡ old) where
  abbrev lines : Log → List ℕ
  lines log = written_lines q job.events log

  abbrev Says : Result Turn Stop → Type 0
  Says r = Answers had_room was_full was_empty (outline_of q job) kind s new r

  abbrev Leaves : Result Turn Stop → Type 0
  Leaves r = kind ≡ Write → WritesInTurn q job written faults s old now r

  -- a written time adds its lines
  adds : (log : Log) (x : Name) → IsUnwritten log x → lines (with_settled log x) ≡ lines log ++ lines_of_time q job.events x
  adds log (Written t) h = writing_adds_lines q job log t
  adds log x h = absurd h

  -- a step other than a write leaves the sink
  left : kind ≡ Exchange → now ≡ old
  left e = others (no_write kind e)

  -- so does a write that can't be made
  left_not_now : Leaves (Ok turn.NotNow) → now ≡ old
  left_not_now leaves = ⊎_elim (λ (e : kind ≡ Write). leaves e) (λ (n : kind ≢ Write). others n) (is_write kind)

  -- The lines

  module _ (before : Option (List ℕ)) (has : HasWritten q job.events before s.log (written old)) where
    quiet : now ≡ old → lines new.log ≡ lines s.log → HasWritten q job.events before new.log (written now)
    quiet same e = ap written same ∙ has ∙ ap (grown before) (sym e)

    did : (x : Name) (n : ℕ) → Says (Ok (turn.Did x n)) → Leaves (Ok (turn.Did x n)) → HasWritten q job.events before new.log (written now)
    did x n says leaves =
        ⊎_elim
        (λ (e : kind ≡ Write).
        let time = one_time (outline_of q job) kind s new (record { first = x; count = n }) says.names says.tells says.makes e in
        let more : lines s.log ++ lines_of_time q job.events x ≡ lines new.log = sym (adds s.log x time.0.next.1.0) ∙ ap lines (sym time.1) in
        (leaves e).0 ∙ ap (λ (b : Option (List ℕ)). grown b (lines_of_time q job.events x)) has ∙ grown-grown before (lines s.log) (lines_of_time q job.events x) ∙ ap (grown before) more)
        (λ (n : kind ≢ Write).
        quiet (others n) (ap (λ (u : WorkerState). lines u.log) says.makes.after ∙ no_lines_else q job s.number (as_machine s) kind says.makes.first says.names n says.makes.can.next says.makes.names))
        (is_write kind)

    pub lines_follow : (r : Result Turn Stop) → Says r → Leaves r → OnOk r (HasWritten q job.events before new.log (written now))
    lines_follow (Ok (turn.Did x n)) says leaves = did x n says leaves
    lines_follow (Ok (turn.Seen version)) says leaves = quiet (left says.0) (ap (λ (n : WorkerState). lines n.log) says.1.after)
    lines_follow (Ok turn.NotNow) says leaves = quiet (left_not_now leaves) (ap (λ (n : WorkerState). lines n.log) says.1)
    lines_follow (Ok turn.Busy) says leaves = quiet (left says.0) (ap (λ (n : WorkerState). lines n.log) says.1)
    lines_follow (Err e) says leaves = tt

    -- A beginning of the answer

    module _ (legal : LogIsLegal (outline_of q job) 0 s.log) (writing : (t : ℕ) → CanMake (outline_of q job) Write s (Written t) → LogIsLegal (outline_of q job) 0 (with_settled s.log (Written t))) where
      unchanged : written now ≡ written old → HasBegun q job.events before (written now)
      unchanged same = let b = written_lines_begin q job s.log legal in (b.0, same ∙ has ∙ ap (grown before) b.1)

      no_more : WritesNoMore q job written faults s old now → HasBegun q job.events before (written now)
      no_more part =
          ⊎_elim
          unchanged
          (λ (p : WritesPart q job s (written old) (written now)).
          let b = parts_of_lines_begin q job s.log p.0 p.1 (writing p.0 p.2) in
          let some = take p.1 (answer_at q job.events p.0) in
          (b.0, p.3 ∙ ap (λ (b : Option (List ℕ)). grown b some) has ∙ grown-grown before (lines s.log) some ∙ ap (grown before) b.1))
          part

      pub part_begins : (r : Result Turn Stop) → Says r → Leaves r → OnErr r (HasBegun q job.events before (written now))
      part_begins (Ok x) says leaves = tt
      part_begins (Err stop.Write) says leaves = no_more (leaves says.0).0
      part_begins (Err stop.Memory) says leaves = ⊎_elim (λ (e : kind ≡ Write). no_more (leaves e).0) (λ (n : kind ≢ Write). unchanged (ap written (others n))) (is_write kind)
      part_begins (Err (stop.Other cause)) says leaves = unchanged (ap written (left says.0))

  -- Other workers than 0

  module _ (other : s.number ≢ 0) where
    nothing_more : WritesNoMore q job written faults s old now → written now ≡ written old
    nothing_more part = ⊎_elim (λ (e : written now ≡ written old). e) (λ (p : WritesPart q job s (written old) (written now)). absurd (other p.2.next.0)) part

    pub nothing_written : (r : Result Turn Stop) → Says r → Leaves r → written now ≡ written old
    nothing_written (Ok (turn.Did x n)) says leaves =
        ⊎_elim
        (λ (e : kind ≡ Write). absurd (other (subst (λ (k : Kind). CanMake (outline_of q job) k s says.makes.first) e says.makes.can).next.0))
        (λ (n : kind ≢ Write). ap written (others n))
        (is_write kind)
    nothing_written (Ok (turn.Seen version)) says leaves = ap written (left says.0)
    nothing_written (Ok turn.NotNow) says leaves = ap written (left_not_now leaves)
    nothing_written (Ok turn.Busy) says leaves = ap written (left says.0)
    nothing_written (Err stop.Write) says leaves = nothing_more (leaves says.0).0
    nothing_written (Err stop.Memory) says leaves = ⊎_elim (λ (e : kind ≡ Write). nothing_more (leaves e).0) (λ (n : kind ≢ Write). ap written (others n)) (is_write kind)
    nothing_written (Err (stop.Other cause)) says leaves = ap written (left says.0)

  -- The faults

  pub fault_counted : Says (Err stop.Write) → Leaves (Err stop.Write) → Rose (faults old) (faults now)
  fault_counted says leaves = (leaves says.0).1

  pub no_fault_counted : (r : Result Turn Stop) → r ≢ Err stop.Write → Says r → Leaves r → faults now ≡ faults old
  no_fault_counted (Ok (turn.Did x n)) isnt says leaves = ⊎_elim (λ (e : kind ≡ Write). (leaves e).1) (λ (n : kind ≢ Write). ap faults (others n)) (is_write kind)
  no_fault_counted (Ok (turn.Seen version)) isnt says leaves = ap faults (left says.0)
  no_fault_counted (Ok turn.NotNow) isnt says leaves = ap faults (left_not_now leaves)
  no_fault_counted (Ok turn.Busy) isnt says leaves = ap faults (left says.0)
  no_fault_counted (Err stop.Write) isnt says leaves = absurd (isnt refl)
  no_fault_counted (Err stop.Memory) isnt says leaves = ⊎_elim (λ (e : kind ≡ Write). (leaves e).1) (λ (n : kind ≢ Write). ap faults (others n)) (is_write kind)
  no_fault_counted (Err (stop.Other cause)) isnt says leaves = ap faults (left says.0)
