-- The one-thread answer to events, as bytes.
use Rattle.std.specs.Prelude.{ℕ, ◌++◌, List, [], ◌∷◌, fold, map}
use Rattle.std.specs.BTreeMap.{insert_entry}
use Rattle.std.specs.Fmt.{decimal}
use Rattle.std.specs.List.{flat_map, join_with_byte}
use Rattle.std.specs.Ordering.{nat_cmp, ordering_then}
use Rattle.std.specs.declared.cmp.Ordering.{Ordering}
use Rattle.mp_model.specs.declared.fields.Field.{Field}
use Rattle.mp_model.specs.declared.fields.Field.TheVariants.{Number, Text}
use Rattle.mp_model.specs.declared.record.Event.{Event}
use Rattle.mp_model.specs.declared.record.Output.{Output}
use Rattle.mp_model.specs.declared.record.Place.{Place}
use Rattle.mp_model.specs.declared.value.Value.{Value}
use Rattle.mp_model.specs.declared.value.Value.TheVariants.{Row}
use Rattle.mp_model.specs.Facts.{QueryFacts}
use Rattle.mp_model.specs.Stages.{answer_rows}

-- rows stand by time, and then by tag
abbrev pub place_cmp : Place → Place → Ordering
place_cmp p q =
    ordering_then (nat_cmp p.time q.time) (ordering_then (nat_cmp p.tag.0 q.tag.0) (nat_cmp p.tag.1 q.tag.1))

-- the rows, with one more at its place
abbrev pub with_row : List (Place × Value) → Output → List (Place × Value)
with_row rows o = insert_entry place_cmp rows (record { time = o.time; tag = o.tag }) o.value

-- the rows, each at its place
abbrev pub in_order : List Output → List (Place × Value)
in_order outputs = fold with_row [] outputs

-- a field as text: a number in decimal digits without leading zeros, a name as its bytes
abbrev pub text_of : Field → List ℕ
text_of (Number n) = decimal n
text_of (Text name) = name

-- the fields of a row; no other value has any
abbrev pub fields_in : Value → List Field
fields_in (Row fields) = fields
fields_in _ = []

-- a row as its line: its time and its fields, cut by `|`
abbrev pub line_of : Place × Value → List ℕ
line_of row = join_with_byte 124 (decimal row.0.time ∷ map text_of (fields_in row.1)) ++ 10 ∷ []

-- The answer of a query to events: the lines of all its rows, in their order. No worker, bin, queue, frontier or control record is in it
abbrev pub one_thread_answer : {Cell : Type 0} → QueryFacts Cell → List Event → List ℕ
one_thread_answer q events = flat_map line_of (in_order (answer_rows q events))
