-- What fails no check is legal: the events of a file are within their limits, and not too many.
use Rattle.std.proofs.Common.{◌≡◌, ◌+◌, ◌<◌, ◌≤◌, lit<, ℕ, true, Option, Some, None, Ok, List, [], ◌++◌, length, drop, get_or, map, refl, arith, length-append}
use Rattle.std.specs.Prelude.{All, nat_eq, nat_lt}
use Rattle.std.proofs.lemmas.Bool.{eqb-true, leb-true, ltb-true}
use Rattle.std.proofs.lemmas.List.Elements.{All-append, All-cons, All-nil}
use Rattle.mp_events.specs.declared.kinds.LineKind.{LineKind}
use Rattle.mp_events.specs.declared.kinds.LineKind.TheVariants.{Person, Auction, Bid}
use Rattle.mp_events.specs.declared.refused.EventsReason.{EventsReason}
use Rattle.mp_events.specs.declared.refused.EventsReason.TheVariants.{Count, Fields}
use Rattle.mp_events.specs.Events.{events_of}
use Rattle.mp_events.specs.Kinds.{a_name, kind_of, limits_of, up_to}
use Rattle.mp_events.specs.Lines.{event_by, event_rules, events_of_kind, events_on, failures_of, failures_of_kind, is_ordered}
use Rattle.mp_events.specs.Reasons.{reason_of}
use Rattle.mp_lines.specs.declared.limits.NumberLimit.TheVariants.{UpTo}
use Rattle.mp_lines.specs.Checks.{FieldsPass, check, failures_of_fields, field_at, number_at}
use Rattle.mp_lines.specs.Limits.{failures_of_field}
use Rattle.mp_lines.proofs.FieldsRead.{passes_at}
use Rattle.mp_lines.proofs.LimitSteps.{name_within, number_within}
use Rattle.mp_lines.proofs.Said.{kept_in_file}
use Rattle.mp_lines.proofs.Starts.{empty_map, empty_parts, passes}
use Rattle.mp_model.specs.declared.record.Event.{Event}
use Rattle.mp_model.specs.Legal.{EventIsLegal, IsName}
use Rattle.mp_names.specs.Limits.{greatest_id, greatest_price, greatest_time, longest_name, most_events}

-- what a line of a kind that fails no check has passed
record HasPassed (kind : LineKind) (fields : List (List ℕ)) : Type 0 where
  fields_pass : FieldsPass failures_of_field (limits_of kind) fields
  ordered : is_ordered kind fields ≡ true

has_passed : (kind : LineKind) (fields : List (List ℕ)) → failures_of_kind (Some kind) fields ≡ [] → HasPassed kind fields
has_passed kind fields e =
    let counts : List EventsReason = check (nat_eq (length fields) (length (limits_of kind) + 1)) Fields in
    let limits : List EventsReason = map reason_of (failures_of_fields failures_of_field (limits_of kind) (drop 1 fields)) in
    let last = empty_parts (counts ++ limits) _ e in
    let first = empty_parts counts limits last.0 in record {
      fields_pass = record { count = eqb-true _ _ (passes _ _ first.0); pass = empty_map _ _ first.1 };
      ordered = passes _ _ last.1;
    }

-- the number of the field after the kind at a place is within its limit
number_is_within : (kind : LineKind) (fields : List (List ℕ)) (k greatest : ℕ) → HasPassed kind fields → k < length (limits_of kind)
    → get_or (limits_of kind) k (up_to greatest) ≡ up_to greatest → number_at fields (1 + k) ≤ greatest
number_is_within kind fields k greatest h low is =
    leb-true _ _ (number_within (UpTo greatest) (field_at fields (1 + k)) (passes_at failures_of_field (limits_of kind) fields k (up_to greatest) h.fields_pass low is))

-- and its name is a name
is_name : (kind : LineKind) (fields : List (List ℕ)) (k : ℕ) → HasPassed kind fields → k < length (limits_of kind)
    → get_or (limits_of kind) k a_name ≡ a_name → IsName (field_at fields (1 + k))
is_name kind fields k h low is = name_within longest_name (field_at fields (1 + k)) (passes_at failures_of_field (limits_of kind) fields k a_name h.fields_pass low is)

-- the event of such a line is legal
legal_by : (kind : LineKind) (fields : List (List ℕ)) → HasPassed kind fields → EventIsLegal (event_by fields kind)
legal_by Person fields h =
    let number = number_is_within Person fields in
    let name = is_name Person fields in record {
      in_time = number 0 greatest_time h (lit< tt) refl;
      legal = (number 1 greatest_id h (lit< tt) refl, name 2 h (lit< tt) refl, name 3 h (lit< tt) refl, name 4 h (lit< tt) refl);
    }
legal_by Auction fields h =
    let number = number_is_within Auction fields in record {
      in_time = number 0 greatest_time h (lit< tt) refl;
      legal = (number 1 greatest_id h (lit< tt) refl, number 2 greatest_id h (lit< tt) refl, number 3 greatest_id h (lit< tt) refl, number 4 greatest_price h (lit< tt) refl, ltb-true _ _ h.ordered, number 5 greatest_time h (lit< tt) refl);
    }
legal_by Bid fields h =
    let number = number_is_within Bid fields in record {
      in_time = number 0 greatest_time h (lit< tt) refl;
      legal = (number 1 greatest_id h (lit< tt) refl, number 2 greatest_id h (lit< tt) refl, number 3 greatest_price h (lit< tt) refl);
    }

-- the events of a line that fails no check are legal
legal_of_kind : (kind : Option LineKind) (fields : List (List ℕ)) → failures_of_kind kind fields ≡ [] → All EventIsLegal (events_of_kind kind fields)
legal_of_kind None fields e = absurd (cc)
legal_of_kind (Some kind) fields e = All-cons EventIsLegal (event_by fields kind) [] (legal_by kind fields (has_passed kind fields e)) (All-nil EventIsLegal)

-- a line says one event at most
one_at_most : (kind : Option LineKind) (fields : List (List ℕ)) → length (events_of_kind kind fields) ≤ 1
one_at_most None fields = omega arith
one_at_most (Some kind) fields = omega arith

-- what fails no check comes after fewer events than there may be, and fails none of its kind
counted : (before : ℕ) (fields : List (List ℕ)) → failures_of before fields ≡ [] → (before < most_events) × (failures_of_kind (kind_of (field_at fields 0)) fields ≡ [])
counted before fields e =
    let parts = empty_parts (check (nat_lt before most_events) Count) (failures_of_kind (kind_of (field_at fields 0)) fields) e in (ltb-true _ _ (passes _ _ parts.0), parts.1)

-- events are within their limits, and not too many
record AreLegal (events : List Event) : Type 0 where
  each : All EventIsLegal events
  few : length events ≤ most_events

-- with that of a line that fails no check they still are
one_more : (before : List Event) (fields : List (List ℕ)) → AreLegal before → failures_of (length before) fields ≡ [] → AreLegal (before ++ events_on fields)
one_more before fields legal e =
    let line = counted (length before) fields e in
    let kind = kind_of (field_at fields 0) in record {
      each = All-append EventIsLegal before (events_of_kind kind fields) legal.each (legal_of_kind kind fields line.1);
      few = omega (arith, line.0, one_at_most kind fields, length-append before (events_of_kind kind fields));
    }

-- the events of a file are legal, and not more than there may be
pub legal_events : (text : List ℕ) (events : List Event) → events_of text ≡ Ok events → All EventIsLegal events × (length events ≤ most_events)
legal_events text events e =
    let all = kept_in_file event_rules AreLegal one_more [] text events (record { each = All-nil EventIsLegal; few = omega arith }) e in (all.each, all.few)
