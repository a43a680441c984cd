-- Which calls of a fake fail.
use Rattle.std.specs.Prelude.{◌≡◌, ◌≢◌, ◌↔◌, true, Result, Err}
use Rattle.mp_outside.specs.Calls.{CallPlan, next_fails, with_call}
use Rattle.mp_outside.specs.declared.fault.Fault.{Fault}
use Rattle.mp_outside.specs.declared.fault.Fault.TheVariants.{Failed}
use Rattle.mp_outside.specs.declared.failures.Failures.{Failures}
use Rattle.mp_outside.specs.declared.op.Op.{Op}
use Rattle.mp_outside.specs.declared.op.Op.TheVariants.{Find, Read, Begin, Append, Write}

-- the calls of a method
abbrev pub calls_for : Failures → Op → CallPlan
calls_for f Find = f.find
calls_for f Read = f.read
calls_for f Begin = f.begin
calls_for f Append = f.append
calls_for f Write = f.write

-- one call of this method was made, and of no other; it answered `Failed` exactly where that was planned
pub record MakesCall {T : Type 0} (old new : Op → CallPlan) (op : Op) (result : Result T Fault) : Type 0 where
  pub failed : (result ≡ Err Failed) ↔ (next_fails (old op) ≡ true)
  pub counted : new op ≡ with_call (old op)
  pub others : (other : Op) → other ≢ op → new other ≡ old other
