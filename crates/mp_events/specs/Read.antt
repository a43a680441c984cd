-- What is kept of a line that fails no check.
use Rattle.std.specs.Prelude.{◌≡◌, ℕ, Bool, true, List, Some, drop, length, nat_lt, slice_index, take}
use Rattle.mp_events.specs.declared.kinds.LineKind.{LineKind}
use Rattle.mp_events.specs.declared.kinds.LineKind.TheVariants.{Person, Auction, Bid}
use Rattle.mp_events.specs.declared.line.ReadLine.{ReadLine}
use Rattle.mp_events.specs.Kinds.{kind_of, limits_of}
use Rattle.mp_lines.specs.Checks.{FieldsPass, field_at, numbers_of}
use Rattle.mp_lines.specs.Limits.{failures_of_field, number_by}

-- the kind, whose limits the fields pass, and the numbers of those after the kind
pub record IsRead (fields : List (List ℕ)) (line : ReadLine) : Type 0 where
  pub kind : kind_of (field_at fields 0) ≡ Some line.kind
  pub passed : FieldsPass failures_of_field (limits_of line.kind) fields
  pub numbers : take (length (limits_of line.kind)) line.numbers ≡ numbers_of number_by (limits_of line.kind) (drop 1 fields)

-- of the numbers of an auction, the last is greater than the first
abbrev pub is_in_order : LineKind → List ℕ → Bool
is_in_order Person numbers = true
is_in_order Auction numbers = nat_lt (slice_index numbers 0) (slice_index numbers 5)
is_in_order Bid numbers = true
