-- The checks that a line of a journal fails.
use Rattle.std.specs.Prelude.{ℕ, ◌++◌, ◌==◌, Option, Some, None, List, [], ◌∷◌, codes, if◌then◌else◌, length, map, nat_le, nat_lt, not}
use Rattle.std.specs.Str.{bytes_eq}
use Rattle.mp_journal.specs.declared.letters.Letter.{Letter}
use Rattle.mp_journal.specs.declared.refused.JournalReason.{JournalReason}
use Rattle.mp_journal.specs.declared.refused.JournalReason.TheVariants.{Kind, Fields, Order}
use Rattle.mp_journal.specs.Letters.{letter_of, limit_of}
use Rattle.mp_journal.specs.Reasons.{reason_of}
use Rattle.mp_lines.specs.declared.limits.NumberLimit.{NumberLimit}
use Rattle.mp_lines.specs.declared.limits.NumberLimit.TheVariants.{Below}
use Rattle.mp_lines.specs.Checks.{check, field_at, number_at}
use Rattle.mp_lines.specs.Limits.{failures_of_number}
use Rattle.mp_names.specs.declared.controls.Shape.{Shape}
use Rattle.mp_text.specs.Numbers.{value_of}

-- how many fields a line has whose letter has a number within this limit, or none
abbrev pub fields_with : Option NumberLimit → ℕ
fields_with (Some limit) = 4
fields_with None = 3

-- the checks that the number behind the letter fails, if there is one
abbrev pub failures_within : Option NumberLimit → List ℕ → List JournalReason
failures_within (Some limit) field = map reason_of (failures_of_number limit field)
failures_within None field = []

-- that number, 0 where there is none
abbrev pub number_by : Option NumberLimit → List ℕ → ℕ
number_by (Some limit) field = value_of field
number_by None field = 0

-- the checks that a line with this letter fails, in their order, where the line before is that of worker `before`
abbrev pub failures_by : Shape → ℕ → Letter → List (List ℕ) → List JournalReason
failures_by shape before letter fields =
    check (length fields == fields_with (limit_of shape letter)) Fields
    ++ failures_within (Some (Below shape.workers)) (field_at fields 1)
    ++ failures_within (limit_of shape letter) (field_at fields 3)
    ++ check (nat_le before (number_at fields 1)) Order

-- the same of a third field that is a letter, or isn't
abbrev pub failures_behind : Shape → ℕ → Option Letter → List (List ℕ) → List JournalReason
failures_behind shape before None fields = Kind ∷ []
failures_behind shape before (Some letter) fields = failures_by shape before letter fields

-- the checks that a line's fields fail, in their order
abbrev pub failures_of : Shape → ℕ → List (List ℕ) → List JournalReason
failures_of shape before fields =
    if not (bytes_eq (field_at fields 0) (codes "s")) then Kind ∷ []
    else (if nat_lt (length fields) 3 then Fields ∷ [] else failures_behind shape before (letter_of (field_at fields 2)) fields)
