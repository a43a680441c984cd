-- Why a line is bad.
use Rattle.std.specs.Prelude.{ℕ, List, codes}
use Rattle.mp_journal.specs.declared.refused.JournalReason.{JournalReason}
use Rattle.mp_journal.specs.declared.refused.JournalReason.TheVariants.{Kind, Fields, Number, Range, Order}
use Rattle.mp_text.specs.declared.numbers.BadNumber.{BadNumber}
use Rattle.mp_text.specs.declared.numbers.BadNumber.TheVariants.{Digits, Range as OutOfRange}

-- the reason, as the program prints it
abbrev pub reason_text : JournalReason → List ℕ
reason_text Kind = codes "kind"
reason_text Fields = codes "fields"
reason_text Number = codes "number"
reason_text Range = codes "range"
reason_text Order = codes "order"

-- the reason of a field that is no number within its limit
abbrev pub reason_of : BadNumber → JournalReason
reason_of Digits = Number
reason_of OutOfRange = Range
