-- Why a line is bad.
use Rattle.std.specs.Prelude.{ℕ, List, codes}
use Rattle.mp_control.specs.declared.refused.ControlReason.{ControlReason}
use Rattle.mp_control.specs.declared.refused.ControlReason.TheVariants.{Kind, Fields, Number, Range, Name, Late, Twice, Count}
use Rattle.mp_text.specs.declared.numbers.BadNumber.{BadNumber}
use Rattle.mp_text.specs.declared.numbers.BadNumber.TheVariants.{Digits, Range as OutOfRange}

-- the reason, as the program prints it
abbrev pub reason_text : ControlReason → List ℕ
reason_text Kind = codes "kind"
reason_text Fields = codes "fields"
reason_text Number = codes "number"
reason_text Range = codes "range"
reason_text Name = codes "name"
reason_text Late = codes "late"
reason_text Twice = codes "twice"
reason_text Count = codes "count"

-- the reason of a field that is no number within its limit
abbrev pub reason_of : BadNumber → ControlReason
reason_of Digits = Number
reason_of OutOfRange = Range
