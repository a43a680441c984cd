-- The control records that worker 0 sends.
use Rattle.std.proofs.Common.{◌≡◌, ℕ, ◌<◌, length, sym, subst}
use Rattle.mp_names.specs.declared.kinds.Kind.TheVariants.{SendControl}
use Rattle.mp_names.specs.declared.names.Name.{Name}
use Rattle.mp_names.specs.declared.names.Name.TheVariants.{Ctrl}
use Rattle.mp_names.specs.Controls.{control_of}
use Rattle.mp_names.specs.Outlines.{OutlineIsSound}
use Rattle.mp_names.specs.Logs.{with_sent}
use Rattle.mp_names.proofs.Orders.{least_unique}
use Rattle.mp_machine.specs.Steps.{IsControlDue}
use Rattle.mp_model.specs.Facts.{JobFacts, QueryFacts}
use Rattle.mp_outline.specs.JobOutline.{outline_of}
use Rattle.mp_rows.specs.Entries.{AreChanges}
use Rattle.mp_rows_laws.specs.Changes.{control_sent_at}
use Rattle.mp_rows_laws.proofs.Sent.{control_sent}
use Rattle.mp_controller.specs.Controlling.{GoesNow, after_sent}
use Rattle.mp_worker_invariant.specs.Laws.{CanDo}
use Rattle.mp_worker_invariant.specs.Parts.{ArePartsOf, Parts}
use Rattle.mp_worker_invariant.proofs.Standing.{steps, told}

module _ {Cell : Type 0} {q : QueryFacts Cell} {job : JobFacts} {p : Parts Cell} (sound : OutlineIsSound (outline_of q job)) (are : ArePartsOf q job p) where
  -- another worker than the first sends none, and neither does the first where none goes now
  pub no_control_goes : (p.number ≡ 0 → (x : Name) → GoesNow p.controller p.seen x → ⊥) → (x : Name) → CanDo q job p SendControl x → ⊥
  no_control_goes = (told sound are).no_send_control

  module _ (first : p.number ≡ 0) (i v : ℕ) (goes : GoesNow p.controller p.seen (Ctrl i v)) where
    pub can_send_control : CanDo q job p SendControl (Ctrl i v)
    can_send_control = (told sound are).send_control (Ctrl i v) first goes

    -- it is a control record of the job, to one of its workers
    pub control_owed : (i < length job.controls) × (v < job.shape.workers)
    control_owed = can_send_control.0.0.0.1

    pub control_counted : AreChanges (outline_of q job) p.number p.log (with_sent p.log (Ctrl i v)) (control_sent_at (control_of job.controls i).time)
    control_counted = control_sent (outline_of q job) p.number p.log sound i v can_send_control.0.0.0

    -- no other is next
    pub one_control : (x : Name) → CanDo q job p SendControl x → Ctrl i v ≡ x
    one_control x can = least_unique (IsControlDue (outline_of q job) p.number p.log) (Ctrl i v) x can_send_control.0 can.0

    -- it was sent
    pub control_kept : ArePartsOf q job (record p { log = with_sent p.log (Ctrl i v); controller = after_sent p.controller })
    control_kept = subst (λ (x : Name). ArePartsOf q job (record p { log = with_sent p.log x; controller = after_sent p.controller })) (sym goes.next) ((steps sound are).send_control first goes.left)
