-- The numbers that were read are those of the line.
use Rattle.std.proofs.Common.{◌≡◌, ◌+◌, ◌<◌, lit<, ℕ, List, length, get_or, refl}
use Rattle.mp_events.specs.declared.kinds.LineKind.{LineKind}
use Rattle.mp_events.specs.declared.kinds.LineKind.TheVariants.{Person, Auction, Bid}
use Rattle.mp_events.specs.declared.line.ReadLine.{ReadLine}
use Rattle.mp_events.specs.Kinds.{limits_of, up_to}
use Rattle.mp_events.specs.Lines.{is_ordered}
use Rattle.mp_events.specs.Read.{IsRead, is_in_order}
use Rattle.mp_lines.specs.Checks.{number_at}
use Rattle.mp_lines.specs.Limits.{number_by}
use Rattle.mp_lines.proofs.FieldsRead.{number_read}
use Rattle.mp_names.specs.Limits.{greatest_time}

-- the number that was read of a field after the kind
pub number_at-read : (fields : List (List ℕ)) (line : ReadLine) (k greatest : ℕ) → IsRead fields line → k < length (limits_of line.kind)
    → get_or (limits_of line.kind) k (up_to greatest) ≡ up_to greatest → get_or line.numbers k 0 ≡ number_at fields (1 + k)
number_at-read fields line k greatest h low is = number_read number_by (limits_of line.kind) fields line.numbers k (up_to greatest) h.passed.count h.numbers low is

-- whether the numbers are in order is whether the line is
pub is_in_order-read : (fields : List (List ℕ)) (line : ReadLine) → IsRead fields line → is_in_order line.kind line.numbers ≡ is_ordered line.kind fields
is_in_order-read fields line h = by_kind line.kind line.numbers h
  where
    by_kind : (kind : LineKind) (numbers : List ℕ) → IsRead fields (record { kind = kind; numbers = numbers }) → is_in_order kind numbers ≡ is_ordered kind fields
    by_kind Person numbers h = refl
    by_kind Auction numbers h =
        let read : ReadLine = record { kind = Auction; numbers = numbers } in
        rw (number_at-read fields read 0 greatest_time h (lit< tt) refl, number_at-read fields read 5 greatest_time h (lit< tt) refl) refl
    by_kind Bid numbers h = refl
