-- What holds of movers, whatever the outline and the log.
use Rattle.std.specs.Prelude.{◌≡◌, ◌==◌, ℕ, Bool, false}
use Rattle.mp_names.specs.declared.names.Name.{Name}
use Rattle.mp_names.specs.declared.names.Name.TheVariants.{Ctrl}
use Rattle.mp_names.specs.Names.{is_packet, is_settled}
use Rattle.mp_names.specs.Outlines.{Outline, control_at}
use Rattle.mp_names.specs.Logs.{Log, with_applied, with_ingested, with_sent, with_settled, with_took}
use Rattle.mp_handoff.specs.MoversState.{MoversState}
use Rattle.mp_handoff.specs.MoversOf.{IsMoversOf}

-- the name is that of a control record of the stage
abbrev pub is_control_of : Outline → ℕ → Name → Bool
is_control_of o j (Ctrl i v) = (control_at o i).stage == j
is_control_of o j _ = false

-- The movers hold what the log says with one more name that is no concern of theirs: whatever is ingested or applied; what is taken and is no control record of their stage; what is sent and is no packet of it; what is settled and is no time of it
pub record MoversStay (o : Outline) (log : Log) (m : MoversState) : Type 0 where
  pub ingested : (x : Name) → IsMoversOf o (with_ingested log x) m
  pub applied : (x : Name) → IsMoversOf o (with_applied log x) m
  pub took : (x : Name) → is_control_of o m.stage x ≡ false → IsMoversOf o (with_took log x) m
  pub sent : (x : Name) → is_packet m.stage x ≡ false → IsMoversOf o (with_sent log x) m
  pub settled : (x : Name) → is_settled m.stage x ≡ false → IsMoversOf o (with_settled log x) m

-- movers that hold what a log says do
abbrev pub MoversAlwaysStay : Type 0
MoversAlwaysStay = (o : Outline) (log : Log) (m : MoversState) → IsMoversOf o log m → MoversStay o log m
