-- The letters of the kinds of step, and their numbers.
use Rattle.std.specs.Prelude.{ℕ, ◌<◌, ◌^◌, Option, Some, None, List, codes, if◌then◌else◌}
use Rattle.std.specs.Str.{bytes_eq}
use Rattle.mp_journal.specs.declared.letters.Letter.{Letter}
use Rattle.mp_journal.specs.declared.letters.Letter.TheVariants.{Ingest, SendControl, Route, Receive, Extract, Settle, Apply, SendRow, Write, Exchange}
use Rattle.mp_lines.specs.declared.limits.NumberLimit.{NumberLimit}
use Rattle.mp_lines.specs.declared.limits.NumberLimit.TheVariants.{UpTo, Below}
use Rattle.mp_names.specs.declared.controls.Shape.{Shape}
use Rattle.mp_names.specs.declared.kinds.Kept.{Kept}
use Rattle.mp_names.specs.declared.kinds.Kind.{Kind}
use Rattle.mp_names.specs.declared.kinds.Kind.TheVariants as kind

-- the greatest version in a journal
abbrev pub greatest_version : ℕ
greatest_version = 2 ^ 48

-- the letter that a field is
abbrev pub letter_of : List ℕ → Option Letter
letter_of field =
    if bytes_eq field (codes "I") then Some Ingest
    else (if bytes_eq field (codes "C") then Some SendControl
    else (if bytes_eq field (codes "R") then Some Route
    else (if bytes_eq field (codes "V") then Some Receive
    else (if bytes_eq field (codes "E") then Some Extract
    else (if bytes_eq field (codes "S") then Some Settle
    else (if bytes_eq field (codes "A") then Some Apply
    else (if bytes_eq field (codes "O") then Some SendRow
    else (if bytes_eq field (codes "W") then Some Write
    else (if bytes_eq field (codes "X") then Some Exchange else None)))))))))

-- the limit of the number behind the letter: a stage or a worker that the job has, or a version; none where there is no number
abbrev pub limit_of : Shape → Letter → Option NumberLimit
limit_of shape Route = Some (Below shape.stages)
limit_of shape Receive = Some (Below shape.workers)
limit_of shape Extract = Some (Below shape.stages)
limit_of shape Settle = Some (Below shape.stages)
limit_of shape Apply = Some (Below shape.stages)
limit_of shape Exchange = Some (UpTo greatest_version)
limit_of shape _ = None

-- a step of this kind, which has no version
abbrev pub plain : Kind → Kept
plain kind = record { kind = kind; version = 0 }

-- the step that a letter says with this number
abbrev pub step_of : Letter → ℕ → Kept
step_of Ingest n = plain kind.Ingest
step_of SendControl n = plain kind.SendControl
step_of Route n = plain (kind.Route n)
step_of Receive n = plain (kind.Receive n)
step_of Extract n = plain (kind.Extract n)
step_of Settle n = plain (kind.Settle n)
step_of Apply n = plain (kind.Apply n)
step_of SendRow n = plain kind.SendRow
step_of Write n = plain kind.Write
step_of Exchange n = record { kind = kind.Exchange; version = n }

-- a stage and a worker fit 32 bits
abbrev pub FitsKind : Letter → ℕ → Type 0
FitsKind Exchange n = Unit {0}
FitsKind _ n = n < 2 ^ 32

-- so do the numbers of workers and stages
abbrev pub FitsWords : Shape → Type 0
FitsWords shape = (shape.workers < 2 ^ 32) × (shape.stages < 2 ^ 32)
