-- Numbers within a limit, and names.
use Rattle.std.specs.Prelude.{ℕ, ◌++◌, ◌&&◌, Bool, List, length, map, nat_le, nat_lt}
use Rattle.mp_lines.specs.declared.fields.BadField.{BadField}
use Rattle.mp_lines.specs.declared.fields.BadField.TheVariants.{Number, Name}
use Rattle.mp_lines.specs.declared.fields.FieldLimit.{FieldLimit}
use Rattle.mp_lines.specs.declared.fields.FieldLimit.TheVariants.{NumberWithin, NameUpTo}
use Rattle.mp_lines.specs.declared.limits.NumberLimit.{NumberLimit}
use Rattle.mp_lines.specs.declared.limits.NumberLimit.TheVariants.{UpTo, Below, Between}
use Rattle.mp_lines.specs.Checks.{check}
use Rattle.mp_text.specs.declared.numbers.BadNumber.{BadNumber}
use Rattle.mp_text.specs.declared.numbers.BadNumber.TheVariants.{Digits, Range}
use Rattle.mp_text.specs.Numbers.{is_number, value_of}

-- the number of the limit itself
abbrev pub bound_of : NumberLimit → ℕ
bound_of (UpTo max) = max
bound_of (Below bound) = bound
bound_of (Between least most) = most

-- a number is within a limit
abbrev pub is_within : NumberLimit → ℕ → Bool
is_within (UpTo max) number = nat_le number max
is_within (Below bound) number = nat_lt number bound
is_within (Between least most) number = nat_le least number && nat_le number most

-- the checks that a number's field fails, in order: it is one or more digits, and their number is within the limit
abbrev pub failures_of_number : NumberLimit → List ℕ → List BadNumber
failures_of_number limit field = check (is_number field) Digits ++ check (is_within limit (value_of field)) Range

-- the checks that a field fails, in their order: those of a number, or that a name has one byte at least and at most so
-- many
abbrev pub failures_of_field : FieldLimit → List ℕ → List BadField
failures_of_field (NumberWithin limit) field = map Number (failures_of_number limit field)
failures_of_field (NameUpTo most) field = check (nat_lt 0 (length field) && nat_le (length field) most) Name

-- the number of a field, and 0 of a name
abbrev pub number_by : FieldLimit → List ℕ → ℕ
number_by (NumberWithin limit) field = value_of field
number_by (NameUpTo most) field = 0
