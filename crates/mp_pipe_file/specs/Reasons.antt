-- Why a line is bad.
use Rattle.std.specs.Prelude.{ℕ, List, codes}
use Rattle.mp_pipe_file.specs.declared.refused.PipeReason.{PipeReason}
use Rattle.mp_pipe_file.specs.declared.refused.PipeReason.TheVariants.{Kind, Fields, Number, Range, Order, Count, End}
use Rattle.mp_text.specs.declared.numbers.BadNumber.{BadNumber}
use Rattle.mp_text.specs.declared.numbers.BadNumber.TheVariants.{Digits, Range as OutOfRange}

-- the reason, as the program prints it
abbrev pub reason_text : PipeReason → List ℕ
reason_text Kind = codes "kind"
reason_text Fields = codes "fields"
reason_text Number = codes "number"
reason_text Range = codes "range"
reason_text Order = codes "order"
reason_text Count = codes "count"
reason_text End = codes "end"

-- the reason of a field that is no number within its limit
abbrev pub reason_of : BadNumber → PipeReason
reason_of Digits = Number
reason_of OutOfRange = Range
