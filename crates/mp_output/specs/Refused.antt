-- What a fault of a sink becomes where rows are written.
use Rattle.mp_outside.specs.declared.fault.Fault.{Fault}
use Rattle.mp_outside.specs.declared.fault.Fault.TheVariants as faults
use Rattle.mp_output.specs.declared.refused.OutRefused.{OutRefused}
use Rattle.mp_output.specs.declared.refused.OutRefused.TheVariants as refusals

-- a fault stays what it is
abbrev pub refused_for : Fault → OutRefused
refused_for faults.Failed = refusals.WriteFault
refused_for faults.NoMemory = refusals.NoMemory
