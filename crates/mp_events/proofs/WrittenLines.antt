-- What is written is read: the lines of events, cut and read again, are these events.
use Rattle.std.proofs.Common.{◌≡◌, ◌+◌, ◌^◌, ◌<◌, ◌≤◌, ℕ, List, [], ◌∷◌, ◌++◌, length, map, refl, ap, sym, ◌∙◌, append-nil, append_assoc, arith, lit<, length-append}
use Rattle.std.specs.Prelude.{All}
use Rattle.std.specs.Fmt.{decimal}
use Rattle.std.specs.List.{enumerate_from, flat_map, join_with_byte}
use Rattle.std.proofs.lemmas.Bool.{and_from, lt-ltb}
use Rattle.std.proofs.lemmas.Fmt.{decimal_nonempty, digits_decimal, digits_value-decimal}
use Rattle.std.proofs.lemmas.List.Elements.{All-head, All-tail}
use Rattle.mp_events.specs.Lines.{event_rules}
use Rattle.mp_events.specs.Written.{HasPlainNames, WrittenEventsAreRead, line_of_event, written_fields}
use Rattle.mp_events.proofs.EventLines.{IsLineOf, IsNamed, IsNumeral, auction_line, bid_line, first_line, person_line}
use Rattle.mp_lines.specs.Files.{failures_from, filled, said_after}
use Rattle.mp_model.specs.declared.record.Event.{Event}
use Rattle.mp_model.specs.declared.value.Value.{Value}
use Rattle.mp_model.specs.declared.value.Value.TheVariants.{Person, Auction, Bid, Sale, Count, Row}
use Rattle.mp_model.specs.Legal.{IsLegalAt, IsName}
use Rattle.mp_model.specs.Plain.{IsPlain}
use Rattle.mp_names.specs.Limits.{greatest_id, greatest_price, greatest_time, most_events}
use Rattle.mp_text.proofs.LineLemmas.{lines_of-nil}
use Rattle.mp_text.proofs.NumberLemmas.{numerals}
use Rattle.mp_text.specs.Lines.{lines_of}

-- a number is written in digits that are worth it
numeral : (n greatest : ℕ) → n ≤ greatest → greatest < 2 ^ 64 → IsNumeral n greatest (decimal n)
numeral n greatest within small =
    let low : n < 2 ^ 64 = omega (arith, within, small) in record {
      is = and_from _ _ (lt-ltb _ _ (decimal_nonempty n low)) (digits_decimal numerals n low);
      worth = digits_value-decimal numerals n low;
      within = within;
    }

a_time : (n : ℕ) → n ≤ greatest_time → IsNumeral n greatest_time (decimal n)
a_time n h = numeral n greatest_time h (lit< tt)

an_id : (n : ℕ) → n ≤ greatest_id → IsNumeral n greatest_id (decimal n)
an_id n h = numeral n greatest_id h (lit< tt)

a_price : (n : ℕ) → n ≤ greatest_price → IsNumeral n greatest_price (decimal n)
a_price n h = numeral n greatest_price h (lit< tt)

named : (name : List ℕ) → IsName name → IsPlain name → IsNamed name
named name h plain = record { named = h; plain = plain }

-- an event's line says it
is_read : (time : ℕ) (value : Value) → time ≤ greatest_time → IsLegalAt time value → HasPlainNames value → IsLineOf (written_fields time value) (record { time = time; value = value })
is_read time (Person id name city state) at h n =
    person_line time id (decimal time) (decimal id) name city state (a_time time at) (an_id id h.0) (named name h.1 n.0) (named city h.2 n.1) (named state h.3 n.2) n.3
is_read time (Auction id seller category reserve expires) at h n =
    auction_line time id seller category reserve expires _ _ _ _ _ _ (a_time time at) (an_id id h.0) (an_id seller h.1) (an_id category h.2) (a_price reserve h.3) (a_time expires h.5) h.4
is_read time (Bid auction bidder price) at h n =
    bid_line time auction bidder price _ _ _ _ (a_time time at) (an_id auction h.0) (an_id bidder h.1) (a_price price h.2)
is_read time (Sale of price) at h n = absurd h
is_read time (Count auction count) at h n = absurd h
is_read time (Row fields) at h n = absurd h

-- Files of such lines

-- the lines that such events make
joined : Event → List ℕ
joined event = join_with_byte 124 (written_fields event.time event.value)

module _ where
  lines_are : (events : List Event) → All (λ event. IsLineOf (written_fields event.time event.value) event) events → lines_of (flat_map line_of_event events) ≡ map joined events
  unfolding joined
  lines_are [] each = lines_of-nil
  lines_are (event ∷ more) each =
      let P : Event → Type 0 = λ e. IsLineOf (written_fields e.time e.value) e in
      let first = All-head P event more each in
      ap lines_of (append_assoc (joined event) (10 ∷ []) (flat_map line_of_event more))
      ∙ first_line (joined event) (flat_map line_of_event more) first.alone first.stays
      ∙ ap (λ l. joined event ∷ l) (lines_are more (All-tail P event more each))

  reads : (events : List Event) (n : ℕ) (before : List Event) → All (λ event. IsLineOf (written_fields event.time event.value) event) events → length before + length events ≤ most_events
      → (failures_from event_rules before (filled (enumerate_from n (map joined events))) ≡ []) × (said_after event_rules before (filled (enumerate_from n (map joined events))) ≡ before ++ events)
  unfolding joined
  reads [] n before each few = (refl, sym (append-nil before))
  reads (event ∷ more) n before each few =
      let P : Event → Type 0 = λ e. IsLineOf (written_fields e.time e.value) e in
      let first = All-head P event more each in
      let rest = reads more (n + 1) (before ++ event ∷ []) (All-tail P event more each) (omega (arith, few, length-append before (event ∷ []))) in
      (rw (first.filled, first.cuts, first.fails (length before) (omega (arith, few)), first.says, rest.0) refl, rw (first.filled, first.cuts, first.says, rest.1) (append_assoc before (event ∷ []) more))

-- the file of the lines of events is read as these
pub written_are_read : WrittenEventsAreRead
written_are_read events legal plain =
    let each : All (λ event. IsLineOf (written_fields event.time event.value) event) events = λ k d low. is_read _ _ ((legal.each k d low).in_time) ((legal.each k d low).legal) (plain k d low) in
    let read = reads events 1 [] each (omega (arith, legal.few)) in
    rw (lines_are events each, read.0, read.1) refl
