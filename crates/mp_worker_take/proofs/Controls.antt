-- The control records that a worker takes.
use Rattle.std.proofs.Common.{◌≡◌, ◌∙◌, ℕ, ◌<◌, ◌-◌, ◌^◌, Bool, false, List, length, sym, ap, subst, arith}
use Rattle.mp_names.specs.declared.controls.Control.{Control}
use Rattle.mp_names.specs.declared.names.Name.TheVariants.{Ctrl, Settled}
use Rattle.mp_names.specs.Controls.{control_of, no_control}
use Rattle.mp_names.specs.Names.{has}
use Rattle.mp_names.specs.Logs.{Log, is_noted, with_took}
use Rattle.mp_bins.specs.declared.owners.Note.{Note}
use Rattle.mp_bins.specs.Notes.{IsWithin, Layout, Notes, is_noted as has_note}
use Rattle.mp_model.specs.Facts.{JobFacts, QueryFacts}
use Rattle.mp_job.specs.Legal.{JobIsLegal}
use Rattle.mp_outline.specs.JobOutline.{outline_of}
use Rattle.mp_rows.specs.Entries.{AreChanges}
use Rattle.mp_rows_laws.specs.Changes.{control_taken_at}
use Rattle.mp_rows_laws.proofs.Took.{control_taken}
use Rattle.mp_msg.specs.Contents.{IsControlOf}
use Rattle.mp_handoff.specs.MoversState.{MoversState}
use Rattle.mp_handoff.specs.MoversOf.{IsMoversOf, IsNewControl}
use Rattle.mp_worker_invariant.specs.Parts.{AreMoversAt, AreTaken}
use Rattle.mp_worker_invariant.proofs.Standing.{told}

module _ {Cell : Type 0} (q : QueryFacts Cell) (job : JobFacts) (legal : JobIsLegal q job) (i : ℕ) (listed : i < length job.controls) where
  -- the number of a control record is small
  pub index_fits : i < 2 ^ 32 - 1
  index_fits = let few = legal.controls.few in omega arith

  -- a control record names a worker, a bin and a stage of the job
  pub control_within : IsWithin job.shape (control_of job.controls i)
  control_within = (legal.controls.each i no_control listed).within

-- Sending

module _ {Cell : Type 0} (q : QueryFacts Cell) (job : JobFacts) (w : ℕ) (log : Log) (i : ℕ) (c : Control) (of_job : IsControlOf job i w c) (fresh : has log.took (Ctrl i w) ≡ false) (m : MoversState) (at : AreMoversAt q job w log c.stage m) where
  -- it is new to the movers of its stage
  is_new : IsNewControl (outline_of q job) log m c.time i
  is_new = record {
    listed = of_job.0;
    of_stage = ap (λ (d : Control). d.stage) (sym of_job.2) ∙ sym at.0;
    of_time = ap (λ (d : Control). d.time) (sym of_job.2);
    not_taken = subst (λ (v : ℕ). has log.took (Ctrl i v) ≡ false) (sym at.1) fresh;
  }

  -- what is told of every log whose movers these are
  abbrev IsTold : Bool → Type 0
  IsTold noted =
      (l : Log) (k : ℕ) → IsMoversOf (outline_of q job) l m → IsNewControl (outline_of q job) l m c.time k → (noted ≡ is_noted (outline_of q job) l m.stage c.time) × (has l.settled (Settled m.stage c.time) ≡ false)

  -- what it adds to the counts
  pub control_changes : (noted : Bool) → IsTold noted → AreChanges (outline_of q job) w log (with_took log (Ctrl i w)) (control_taken_at c.stage c.time noted)
  control_changes noted told =
      let o = outline_of q job in
      let both = told log i at.2 is_new in
      let known = subst (λ (j : ℕ). is_noted o log j c.time ≡ noted) at.0 (sym both.0) in
      let not_settled = subst (λ (j : ℕ). has log.settled (Settled j c.time) ≡ false) at.0 both.1 in
      let its_known = subst (λ (d : Control). is_noted o log d.stage d.time ≡ noted) of_job.2 known in
      let its_open = subst (λ (d : Control). has log.settled (Settled d.stage d.time) ≡ false) of_job.2 not_settled in
      subst (λ (d : Control). AreChanges o w log (with_took log (Ctrl i w)) (control_taken_at d.stage d.time noted)) (sym of_job.2) (control_taken o w log i w noted its_known (λ e. its_open))

  -- the movers hold it once they have noted its time
  pub control_held : (new : MoversState) → new.stage ≡ m.stage → new.worker ≡ m.worker
      → ((l : Log) (k : ℕ) → IsMoversOf (outline_of q job) l m → IsNewControl (outline_of q job) l m c.time k → IsMoversOf (outline_of q job) (with_took l (Ctrl k m.worker)) new)
      → AreMoversAt q job w (with_took log (Ctrl i w)) c.stage new
  control_held new stage worker holds =
      (stage ∙ at.0, worker ∙ at.1, subst (λ (v : ℕ). IsMoversOf (outline_of q job) (with_took log (Ctrl i v)) new) at.1 (holds log i at.2 is_new))

  module _ (notes : Notes) (taken : AreTaken job w log notes) where
    -- it isn't noted yet
    pub not_noted : has_note notes.noted i ≡ false
    not_noted = taken.taken i ∙ fresh

    -- and may be
    pub may_note : JobIsLegal q job → IsWithin notes.layout.shape c
    may_note legal =
        subst (λ (l : Layout). IsWithin l.shape c) (sym taken.layout) (subst (λ (d : Control). IsWithin job.shape d) (sym of_job.2) (control_within q job legal i of_job.0))

-- notes with another list of notes, whatever the room
pub notes_are : (old new : Notes) (noted : List Note) → new.layout ≡ old.layout → new.noted ≡ noted → new ≡ record old { noted = noted; room = new.room }
notes_are old new noted layout is =
    ap (λ (l : Layout). record { layout = l; noted = new.noted; room = new.room }) layout ∙ ap (λ (ns : List Note). record { layout = old.layout; noted = ns; room = new.room }) is
