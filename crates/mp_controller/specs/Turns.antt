-- When control records go out in a paced run.
use Rattle.std.specs.Prelude.{ℕ, List}
use Rattle.mp_names.specs.declared.controls.Control.{Control}
use Rattle.mp_names.specs.Controls.{control_of}
use Rattle.mp_controller.specs.declared.order.Turn.{Turn}

-- when the control record of this index goes out
abbrev pub turn_at : List Control → ℕ → Turn
turn_at controls i = record { time = (control_of controls i).time; index = i }
