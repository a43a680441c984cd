-- The names that a file says are plain: a line is cut from the file at its line feeds, and a field from its line at its bars.
use Rattle.std.proofs.Common.{◌≡◌, ◌+◌, ◌-◌, ℕ, zero, suc, Bool, true, false, cond, Option, None, Some, Ok, List, [], ◌∷◌, ◌++◌, length, take, eqb, get_or, not, refl, subst}
use Rattle.std.specs.Prelude.{All}
use Rattle.std.specs.List.{enumerate_from, onto_first, slice_split}
use Rattle.std.specs.Str.Lines.{strip_carriage_return}
use Rattle.std.proofs.lemmas.List.Elements.{All-append, All-cons, All-filter, All-head, All-map, All-nil, All-tail, All-take, All-weaker}
use Rattle.mp_events.specs.declared.kinds.LineKind.{LineKind}
use Rattle.mp_events.specs.declared.kinds.LineKind.TheVariants.{Person, Auction, Bid}
use Rattle.mp_events.specs.declared.refused.EventsReason.{EventsReason}
use Rattle.mp_events.specs.Events.{events_of}
use Rattle.mp_events.specs.Kinds.{kind_of}
use Rattle.mp_events.specs.Lines.{event_by, event_rules, events_of_kind, events_on, value_by}
use Rattle.mp_lines.specs.Checks.{field_at}
use Rattle.mp_lines.specs.Files.{failures_from, filled, said_after, unless_failed}
use Rattle.mp_model.specs.declared.record.Event.{Event}
use Rattle.mp_model.specs.Plain.{EventsArePlain, IsPlain, NamesArePlain}
use Rattle.mp_text.specs.Fields.{fields_of, is_separator}
use Rattle.mp_text.specs.Lines.{is_blank, is_line_feed, lines_of, numbered_lines_of, without_empty_last}

-- Cutting

module _ (cuts : ℕ → Bool) (P Q : ℕ → Type 0) (each : (b : ℕ) → cuts b ≡ false → P b → Q b) where
  -- a byte that cuts begins a new part, another one stands in the first
  one_byte : (b : ℕ) (cut : Bool) → cuts b ≡ cut → P b → (parts : List (List ℕ)) → All (All Q) parts → All (All Q) (cond cut ([] ∷ parts) (onto_first b parts))
  one_byte b true is h parts rest = All-cons (All Q) [] parts (All-nil Q) rest
  one_byte b false is h [] rest = All-cons (All Q) (b ∷ []) [] (All-cons Q b [] (each b is h) (All-nil Q)) (All-nil (All Q))
  one_byte b false is h (part ∷ parts) rest =
      All-cons (All Q) (b ∷ part) parts (All-cons Q b part (each b is h) (All-head (All Q) part parts rest)) (All-tail (All Q) part parts rest)

  -- the parts have the bytes that don't cut
  parts_keep : (bytes : List ℕ) → All P bytes → All (All Q) (slice_split cuts bytes)
  parts_keep [] h = All-cons (All Q) [] [] (All-nil Q) (All-nil (All Q))
  parts_keep (b ∷ bytes) h = one_byte b (cuts b) refl (All-head P b bytes h) (slice_split cuts bytes) (parts_keep bytes (All-tail P b bytes h))

-- a part of a line has no line feed
abbrev HasNoFeed : List ℕ → Type 0
HasNoFeed bytes = All (λ b. is_line_feed b ≡ false) bytes

without_last : (parts : List (List ℕ)) → All HasNoFeed parts → All HasNoFeed (without_empty_last parts)
without_last [] h = h
without_last ([] ∷ []) h = All-nil HasNoFeed
without_last ((b ∷ bs) ∷ []) h = h
without_last ([] ∷ next ∷ more) h = All-cons HasNoFeed [] (without_empty_last (next ∷ more)) (All-head HasNoFeed [] (next ∷ more) h) (without_last (next ∷ more) (All-tail HasNoFeed [] (next ∷ more) h))
without_last ((b ∷ bs) ∷ next ∷ more) h =
    All-cons HasNoFeed (b ∷ bs) (without_empty_last (next ∷ more)) (All-head HasNoFeed (b ∷ bs) (next ∷ more) h) (without_last (next ∷ more) (All-tail HasNoFeed (b ∷ bs) (next ∷ more) h))

stripped : (line : List ℕ) → HasNoFeed line → HasNoFeed (strip_carriage_return line)
stripped line h = cases (eqb (get_or line (length line - 1) 0) 13)
  where
    cases : (ends : Bool) → HasNoFeed (cond ends (take (length line - 1) line) line)
    cases true = All-take (λ b. is_line_feed b ≡ false) (length line - 1) line h
    cases false = h

-- no line of a text has one
lines_plain : (text : List ℕ) → All HasNoFeed (lines_of text)
unfolding lines_of
lines_plain text =
    let P : ℕ → Type 0 = λ b. is_line_feed b ≡ false in
    let parts = parts_keep is_line_feed (λ b. Unit {0}) P (λ b is h. is) text (λ k d low. tt) in
    let kept = without_last (slice_split is_line_feed text) parts in
    All-map HasNoFeed strip_carriage_return (without_empty_last (slice_split is_line_feed text)) (All-weaker HasNoFeed (λ (line : List ℕ). HasNoFeed (strip_carriage_return line)) stripped (without_empty_last (slice_split is_line_feed text)) kept)

-- so its fields are plain
fields_plain : (line : List ℕ) → HasNoFeed line → All IsPlain (fields_of line)
unfolding fields_of
fields_plain line h =
    parts_keep is_separator (λ b. is_line_feed b ≡ false) (λ b. (is_separator b ≡ false) × (is_line_feed b ≡ false)) (λ b bar feed. (bar, feed)) line h

-- Lines of a file

-- the fields of a line with its number are plain
abbrev HasPlainFields : ℕ × List ℕ → Type 0
HasPlainFields line = All IsPlain (fields_of line.1)

numbered : (n : ℕ) (lines : List (List ℕ)) → All HasNoFeed lines → All HasPlainFields (enumerate_from n lines)
numbered n [] h = All-nil HasPlainFields
numbered n (line ∷ lines) h =
    All-cons HasPlainFields (n, line) (enumerate_from (n + 1) lines) (fields_plain line (All-head HasNoFeed line lines h)) (numbered (n + 1) lines (All-tail HasNoFeed line lines h))

filled_plain : (text : List ℕ) → All HasPlainFields (filled (numbered_lines_of text))
filled_plain text = All-filter (λ (line : ℕ × List ℕ). not (is_blank line.1)) HasPlainFields (numbered_lines_of text) (numbered 1 (lines_of text) (lines_plain text))

plain_at : (fields : List (List ℕ)) (k : ℕ) → All IsPlain fields → IsPlain (field_at fields k)
plain_at [] k h = All-nil (λ (b : ℕ). (is_separator b ≡ false) × (is_line_feed b ≡ false))
plain_at (field ∷ fields) zero h = All-head IsPlain field fields h
plain_at (field ∷ fields) (suc k) h = plain_at fields k (All-tail IsPlain field fields h)

value_plain : (kind : LineKind) (fields : List (List ℕ)) → All IsPlain fields → NamesArePlain (value_by kind fields)
value_plain Person fields h = (plain_at fields 3 h, plain_at fields 4 h, plain_at fields 5 h)
value_plain Auction fields h = tt
value_plain Bid fields h = tt

-- the event of such a line has plain names
line_plain : (kind : Option LineKind) (fields : List (List ℕ)) → All IsPlain fields → EventsArePlain (events_of_kind kind fields)
line_plain None fields h = All-nil (λ (event : Event). NamesArePlain event.value)
line_plain (Some kind) fields h =
    let P : Event → Type 0 = λ event. NamesArePlain event.value in
    All-cons P (event_by fields kind) [] (value_plain kind fields h) (All-nil P)

said_plain : (before : List Event) (lines : List (ℕ × List ℕ)) → EventsArePlain before → All HasPlainFields lines → EventsArePlain (said_after event_rules before lines)
said_plain before [] plain h = plain
said_plain before (line ∷ lines) plain h =
    let more = line_plain (kind_of (field_at (fields_of line.1) 0)) (fields_of line.1) (All-head HasPlainFields line lines h) in
    said_plain (before ++ events_on (fields_of line.1)) lines (All-append (λ (event : Event). NamesArePlain event.value) before (events_on (fields_of line.1)) plain more) (All-tail HasPlainFields line lines h)

given : (fails : List (ℕ × EventsReason)) (said events : List Event) → unless_failed fails said ≡ Ok events → said ≡ events
given [] said events e = cc
given (fail ∷ more) said events e = absurd (cc)

-- the events of a file have plain names
pub plain_events : (text : List ℕ) (events : List Event) → events_of text ≡ Ok events → EventsArePlain events
plain_events text events e =
    let lines : List (ℕ × List ℕ) = filled (numbered_lines_of text) in
    let said = given (failures_from event_rules [] lines) (said_after event_rules [] lines) events e in
    subst EventsArePlain said (said_plain [] lines (All-nil (λ (event : Event). NamesArePlain event.value)) (filled_plain text))
