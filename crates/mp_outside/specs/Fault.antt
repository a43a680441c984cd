-- When a count of faults lets a call answer that it failed.
use Rattle.std.specs.Prelude.{ℕ, ◌≡◌, ◌<◌, ◌-◌, ◌^◌, ◌⊎◌, Result, Err, OnOk}
use Rattle.mp_outside.specs.declared.fault.Fault.{Fault}
use Rattle.mp_outside.specs.declared.fault.Fault.TheVariants.{Failed, NoMemory}

-- the count rose in the call, or stands at its last value
abbrev pub Rose : ℕ → ℕ → Type 0
Rose old new = (old < new) ⊎ (new ≡ 2 ^ 64 - 1)

-- `Failed` comes only where the count rose in the call or stands at its last value; any other answer counts no fault
pub record HasCause {T : Type 0} (old new : ℕ) (result : Result T Fault) : Type 0 where
  pub failed : result ≡ Err Failed → Rose old new
  pub memory : result ≡ Err NoMemory → new ≡ old
  pub served : OnOk result (new ≡ old)
