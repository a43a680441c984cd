-- What a fault of a depot becomes where a whole name is read.
use Rattle.mp_outside.specs.declared.fault.Fault.{Fault}
use Rattle.mp_outside.specs.declared.fault.Fault.TheVariants as faults
use Rattle.mp_outside.specs.declared.fault.ReadRefused.{ReadRefused}
use Rattle.mp_outside.specs.declared.fault.ReadRefused.TheVariants as refusals

-- a fault stays what it is
abbrev pub refused_for : Fault → ReadRefused
refused_for faults.Failed = refusals.Failed
refused_for faults.NoMemory = refusals.NoMemory
