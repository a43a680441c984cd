-- Why a line is bad.
use Rattle.std.specs.Prelude.{ℕ, List, codes}
use Rattle.mp_events.specs.declared.refused.EventsReason.{EventsReason}
use Rattle.mp_events.specs.declared.refused.EventsReason.TheVariants.{Count, Kind, Fields, Number, Range, Name, Order}
use Rattle.mp_lines.specs.declared.fields.BadField.{BadField}
use Rattle.mp_lines.specs.declared.fields.BadField.TheVariants.{Number as NotNumber, Name as NotName}
use Rattle.mp_text.specs.declared.numbers.BadNumber.TheVariants.{Digits, Range as OutOfRange}

-- the reason, as the program prints it
abbrev pub reason_text : EventsReason → List ℕ
reason_text Count = codes "count"
reason_text Kind = codes "kind"
reason_text Fields = codes "fields"
reason_text Number = codes "number"
reason_text Range = codes "range"
reason_text Name = codes "name"
reason_text Order = codes "order"

-- the reason of a field that isn't within its limit
abbrev pub reason_of : BadField → EventsReason
reason_of (NotNumber Digits) = Number
reason_of (NotNumber OutOfRange) = Range
reason_of NotName = Name
