-- What stands where a step of a draw was refused.
use Rattle.std.proofs.Common.{◌≡◌, ℕ, List, [], ◌++◌, Option, sym, subst, inl, inr, ⊎_elim, append-nil}
use Rattle.mp_names.specs.declared.kinds.Kind.{Kind}
use Rattle.mp_names.specs.declared.kinds.Kind.TheVariants as kind
use Rattle.mp_names.specs.Outlines.{Outline}
use Rattle.mp_machine.specs.Runs.{Turn, run_of_machine}
use Rattle.mp_model.specs.Facts.{JobFacts, QueryFacts}
use Rattle.mp_outline.specs.JobOutline.{outline_of}
use Rattle.mp_worker_refinement.specs.SystemState.{SystemState}
use Rattle.mp_board.specs.declared.causes.Cause.{Cause}
use Rattle.mp_board.specs.declared.causes.Cause.TheVariants as cause
use Rattle.mp_answer_laws.specs.Lines.{HasBegun}
use Rattle.mp_plain.specs.Driven.{HasKept, HasWritten, LeadsOn}
use Rattle.mp_schedule.specs.Refused.{IsWriteTried, RefusesDraw}
use Rattle.mp_schedule.specs.Schedule.{IsTried}
use Rattle.mp_schedule.proofs.Picked.{tries}
use Rattle.mp_schedule.proofs.Tried.{ComesNext}

-- a write that is tried for a draw
pub write_tried : (o : Outline) (t : SystemState) (draw tried : ℕ) (place : ℕ × Kind) → ComesNext o t draw tried place → place.1 ≡ kind.Write → IsWriteTried o draw [] t
write_tried o t draw tried place next write = (
  place.0,
  λ before are.
      subst (λ (steps : List (ℕ × Kind)). IsTried o t.post.depth (run_of_machine o t.post.depth steps) draw (place.0, kind.Write)) (sym (append-nil before))
      (subst (λ (k : Kind). IsTried o t.post.depth (run_of_machine o t.post.depth before) draw (place.0, k)) write (tries o t draw tried place next before are)),
)

module _ {Cell : Type 0} (q : QueryFacts Cell) (job : JobFacts) where
  abbrev o : Outline
  o = outline_of q job

  -- a step of a draw is refused
  pub refuses_draw : (draw : ℕ) (made : Kind) (why : Cause) (t new : SystemState) (had has : Option (List ℕ)) → (made ≡ kind.Write → IsWriteTried o draw [] t) → (why ≡ cause.Write → made ≡ kind.Write)
      → ((before : Option (List ℕ)) → HasWritten q job.events before t had → HasKept q job.events made before new has) → RefusesDraw q job draw why [] t new had has
  refuses_draw draw made why t new had has tried failed lines = record {
    write = λ e. tried (failed e);
    lines = λ before h. ⊎_elim (λ (k : HasWritten q job.events before new has). inl k) (λ (k : (made ≡ kind.Write) × HasBegun q job.events before has). inr (tried k.0, k.1)) (lines before h);
  }

  -- and that draw comes after others
  pub refuses_later : (draw : ℕ) (why : Cause) (made : List (ℕ × Kind)) (turns : List Turn) (t mid new : SystemState) (had then_has has : Option (List ℕ)) → LeadsOn o made turns t mid
      → ((before : Option (List ℕ)) → HasWritten q job.events before t had → HasWritten q job.events before mid then_has) → RefusesDraw q job draw why [] mid new then_has has → RefusesDraw q job draw why made t new had has
  refuses_later draw why made turns t mid new had then_has has lead written refused = record {
    write = λ e. later (refused.write e);
    lines = λ before h.
        ⊎_elim (λ (k : HasWritten q job.events before new has). inl k) (λ (k : IsWriteTried o draw [] mid × HasBegun q job.events before has). inr (later k.0, k.1)) (refused.lines before (written before h));
  }
    where
      later : IsWriteTried o draw [] mid → IsWriteTried o draw made t
      later w = (
        w.0,
        λ before are.
            subst (λ (d : ℕ). IsTried o d (run_of_machine o d (before ++ made)) draw (w.0, kind.Write)) lead.depth
            (subst (λ (steps : List (ℕ × Kind)). IsTried o mid.post.depth (run_of_machine o mid.post.depth steps) draw (w.0, kind.Write)) (append-nil (before ++ made)) (w.1 (before ++ made) (lead.state_is before are))),
      )
