-- The checks of a line, one after the other.
use Rattle.std.proofs.Common.{◌≡◌, ◌+◌, ◌<◌, ℕ, true, false, List, [], Some, length, drop, map, eqb, refl, ap, sym, ◌∙◌}
use Rattle.std.specs.Prelude.{nat_lt}
use Rattle.std.specs.List.{slice_get}
use Rattle.std.specs.Option.{option_map}
use Rattle.std.proofs.lemmas.Bool.{lt-ltb, eq-eqb}
use Rattle.std.proofs.lemmas.Option.{slice_get-map}
use Rattle.mp_events.specs.declared.kinds.LineKind.{LineKind}
use Rattle.mp_events.specs.declared.line.ReadLine.{ReadLine}
use Rattle.mp_events.specs.declared.refused.EventsReason.TheVariants.{Order}
use Rattle.mp_events.specs.Kinds.{kind_of, limits_of}
use Rattle.mp_events.specs.Lines.{failures_of, is_ordered}
use Rattle.mp_events.specs.Read.{IsRead, is_in_order}
use Rattle.mp_events.specs.Reasons.{reason_of}
use Rattle.mp_events.proofs.Numbers.{is_in_order-read}
use Rattle.mp_lines.specs.declared.fields.BadField.{BadField}
use Rattle.mp_lines.specs.Checks.{check, failures_of_fields, field_at}
use Rattle.mp_lines.specs.Limits.{failures_of_field}
use Rattle.mp_lines.proofs.Starts.{slice_get-append}
use Rattle.mp_names.specs.Limits.{most_events}

-- a field fails its check
pub fails_a_field : (before : ℕ) (fields : List (List ℕ)) (kind : LineKind) (bad : BadField) → before < most_events → kind_of (field_at fields 0) ≡ Some kind
    → length fields ≡ length (limits_of kind) + 1 → slice_get (failures_of_fields failures_of_field (limits_of kind) (drop 1 fields)) 0 ≡ Some bad
    → slice_get (failures_of before fields) 0 ≡ Some (reason_of bad)
fails_a_field before fields kind bad low is count fails =
    let under : nat_lt before most_events ≡ true = lt-ltb _ _ low in
    let same : eqb (length fields) (length (limits_of kind) + 1) ≡ true = eq-eqb _ _ count in
    let bads : List BadField = failures_of_fields failures_of_field (limits_of kind) (drop 1 fields) in
    let first = slice_get-map reason_of bads 0 ∙ ap (option_map reason_of) fails in
    rw (under, is, same) (slice_get-append (map reason_of bads) _ (reason_of bad) first)

-- where its fields pass, a line fails no more than the order
failures_of-order : (before : ℕ) (fields : List (List ℕ)) (line : ReadLine) → before < most_events → IsRead fields line
    → failures_of before fields ≡ check (is_ordered line.kind fields) Order
failures_of-order before fields line low h =
    let under : nat_lt before most_events ≡ true = lt-ltb _ _ low in
    let same : eqb (length fields) (length (limits_of line.kind) + 1) ≡ true = eq-eqb _ _ h.passed.count in
    rw (under, h.kind, same, h.passed.pass) refl

-- it is out of order
pub fails_order : (before : ℕ) (fields : List (List ℕ)) (line : ReadLine) → before < most_events → IsRead fields line
    → false ≡ is_in_order line.kind line.numbers → slice_get (failures_of before fields) 0 ≡ Some Order
fails_order before fields line low h out =
    let ordered : is_ordered line.kind fields ≡ false = sym (is_in_order-read fields line h) ∙ sym out in
    rw (failures_of-order before fields line low h, ordered) refl

-- it fails none
pub passes_all : (before : ℕ) (fields : List (List ℕ)) (line : ReadLine) → before < most_events → IsRead fields line
    → true ≡ is_in_order line.kind line.numbers → failures_of before fields ≡ []
passes_all before fields line low h inside =
    let ordered : is_ordered line.kind fields ≡ true = sym (is_in_order-read fields line h) ∙ sym inside in
    rw (failures_of-order before fields line low h, ordered) refl
