-- The checks of lines behind others.
use Rattle.std.proofs.Common.{◌≡◌, ◌<◌, ◌++◌, ◌∙◌, ℕ, true, List, [], Some, ap, length, subst, sym}
use Rattle.std.specs.List.{slice_get}
use Rattle.mp_bins.specs.Notes.{Layout}
use Rattle.mp_control.specs.declared.drains.DrainLine.{DrainLine}
use Rattle.mp_control.specs.declared.list_owners.ListOwners.{ListOwners}
use Rattle.mp_control.specs.declared.refused.ControlReason.{ControlReason}
use Rattle.mp_control.specs.Controls.{failures_but_count, failures_of, numbers_in}
use Rattle.mp_control.specs.Drains.{AreListOwners, drain_of, failures_of_drain, failures_of_drained, limits_of_drain, records_by_drain}
use Rattle.mp_control.specs.Firsts.{failures_of_first, limits_of_first}
use Rattle.mp_control.specs.Kinds.{failures_within, kind_of}
use Rattle.mp_control.specs.Settings.{Said, layout_in, with_drain}
use Rattle.mp_control.proofs.DrainSteps.{kept_longer, with_drained}
use Rattle.mp_job.specs.Legal.{ControlsFit}
use Rattle.mp_lines.specs.Checks.{field_at}
use Rattle.mp_lines.specs.Refusals.{IfBad}
use Rattle.mp_lines.specs.declared.refused.LineRefused.{LineRefused}
use Rattle.mp_lines.specs.declared.refused.LineRefused.TheVariants.{Bad, NoMemory}
use Rattle.mp_lines.proofs.Starts.{slice_get-append}
use Rattle.mp_names.specs.declared.controls.Control.{Control}
use Rattle.mp_names.specs.declared.controls.Shape.{Shape}

module _ (said : Said) (shape : Shape) (fields : List (List ℕ)) (why : ControlReason) (same : shape ≡ said.shape) where
  -- the first check that the fields of a first owner fail is the first that the line fails
  pub fails_first : slice_get (failures_within (limits_of_first shape) fields) 0 ≡ Some why → slice_get (failures_of_first said.shape said.late said.firsts fields) 0 ≡ Some why
  fails_first h = let first = rw same at h in slice_get-append _ _ why (slice_get-append _ _ why first)

  -- the first check that the fields of a drain fail is the first that the line fails
  pub fails_drain : slice_get (failures_within (limits_of_drain shape) fields) 0 ≡ Some why → slice_get (failures_of_drain (layout_in said) said.controls fields) 0 ≡ Some why
  fails_drain h = let first = rw same at h in slice_get-append _ _ why first

  -- so it is with the check of how many control records there are
  pub fails_control : slice_get (failures_but_count shape (kind_of (field_at fields 0)) fields) 0 ≡ Some why → slice_get (failures_of said.shape (length said.controls) fields) 0 ≡ Some why
  fails_control h = let first = rw same at h in slice_get-append _ _ why first

-- what is said of a check that a line fails, said of it otherwise
if_bad_too : (refused : LineRefused ControlReason) (P Q : ControlReason → Type 0) → ((why : ControlReason) → P why → Q why) → IfBad refused P → IfBad refused Q
if_bad_too (Bad why) P Q too h = too why h
if_bad_too NoMemory P Q too h = tt

-- a line that drains a worker, by the owners of what was said
module _ (view : Said) (shape : Shape) (layout : Layout) (drain : DrainLine) (same : shape ≡ view.shape) (of_layout : layout ≡ layout_in view) where
  drained_failures : failures_of_drained shape (length view.controls) (records_by_drain layout view.controls drain)
      ≡ failures_of_drained view.shape (length view.controls) (records_by_drain (layout_in view) view.controls drain)
  drained_failures =
      ap (λ s. failures_of_drained s (length view.controls) (records_by_drain layout view.controls drain)) same
      ∙ ap (λ l. failures_of_drained view.shape (length view.controls) (records_by_drain l view.controls drain)) of_layout

  module _ (fields : List (List ℕ)) (pass : failures_within (limits_of_drain shape) fields ≡ []) (is : drain ≡ drain_of (numbers_in fields)) where
    its_failures : failures_of_drain (layout_in view) view.controls fields ≡ failures_of_drained shape (length view.controls) (records_by_drain layout view.controls drain)
    its_failures =
        ap (λ f. f ++ failures_of_drained view.shape (length view.controls) (records_by_drain (layout_in view) view.controls (drain_of (numbers_in fields))))
        (ap (λ s. failures_within (limits_of_drain s) fields) (sym same) ∙ pass)
        ∙ ap (λ d. failures_of_drained view.shape (length view.controls) (records_by_drain (layout_in view) view.controls d)) (sym is)
        ∙ sym drained_failures

    -- if it fails no check, its records are added
    pub drain_is_said : (said : Said) → view ≡ said → (new : List Control) → failures_of_drained shape (length view.controls) (records_by_drain layout view.controls drain) ≡ []
        → new ≡ view.controls ++ records_by_drain layout view.controls drain
        → (failures_of_drain (layout_in said) said.controls fields ≡ []) × (record view { begun = true; late = true; controls = new } ≡ with_drain said fields)
    drain_is_said said e new passes appended = (
      ap (λ (s : Said). failures_of_drain (layout_in s) s.controls fields) (sym e) ∙ its_failures ∙ passes,
      ap (λ cs. record view { begun = true; late = true; controls = cs })
          (appended ∙ ap (λ l. view.controls ++ records_by_drain l view.controls drain) of_layout ∙ ap (λ d. view.controls ++ records_by_drain (layout_in view) view.controls d) is)
          ∙ ap (λ (s : Said). with_drain s fields) e,
    )

    -- if it fails one, the first is that of the line
    pub drain_is_bad : (said : Said) → view ≡ said → (refused : LineRefused ControlReason)
        → IfBad refused (λ why. slice_get (failures_of_drained shape (length view.controls) (records_by_drain layout view.controls drain)) 0 ≡ Some why)
        → IfBad refused (λ why. slice_get (failures_of_drain (layout_in said) said.controls fields) 0 ≡ Some why)
    drain_is_bad said e refused h =
        let eq = ap (λ (s : Said). failures_of_drain (layout_in s) s.controls fields) (sym e) ∙ its_failures in
        if_bad_too refused _ _ (λ why first. ap (λ fs. slice_get fs 0) eq ∙ first) h

  -- then control records still fit, and the owners are those of the first so many of them
  pub drain_is_kept : (kept : ListOwners) (new : List Control) → 0 < view.shape.workers → drain.stage < shape.stages → ControlsFit view.shape view.controls
      → AreListOwners (layout_in view) view.controls kept
      → failures_of_drained shape (length view.controls) (records_by_drain layout view.controls drain) ≡ [] → new ≡ view.controls ++ records_by_drain layout view.controls drain
      → ControlsFit view.shape new × AreListOwners (layout_in view) new kept
  drain_is_kept kept new some low fit are passes appended =
      let more = records_by_drain (layout_in view) view.controls drain in
      let is : new ≡ view.controls ++ more = appended ∙ ap (λ l. view.controls ++ records_by_drain l view.controls drain) of_layout in
      let inside = subst (λ (s : Shape). drain.stage < s.stages) same low in (
        subst (ControlsFit view.shape) (sym is) (with_drained (layout_in view) view.controls drain some inside fit (sym drained_failures ∙ passes)),
        subst (λ cs. AreListOwners (layout_in view) cs kept) (sym is) (kept_longer (layout_in view) view.controls more kept are),
      )
