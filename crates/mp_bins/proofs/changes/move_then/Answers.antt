use Rattle.std.proofs.Common.{ℕ, Option, sym, subst}
use Rattle.std.specs.Option.{IfNone}
use Rattle.mp_names.specs.declared.controls.Move.{Move}
use Rattle.mp_bins.specs.Notes.{controls_in}
use Rattle.mp_bins.specs.Changes.{IsMoveThen}
use Rattle.mp_bins.proofs.changes.move_then.Goals as goal

pub returns-in-Some-clause-none : goal.returns-in-Some-clause-none
returns-in-Some-clause-none c =
    subst (λ (t : Option ℕ). IfNone c.move_at.result ((move : Move) → IsMoveThen (controls_in c.args.notes.now.items) c.args.of t move → ⊥)) (sym c.in-Some.is) c.move_at.ensures.none
