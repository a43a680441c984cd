-- The record of an event, and the worker that takes it in.
use Rattle.std.specs.Prelude.{ℕ, ◌==◌, ◌%◌, ◌&&◌, ◌++◌, ◌∷◌, [], Bool, Option, List, filter, is_some, length, map, option_and_then, slice_get, slice_index_or, slice_set}
use Rattle.std.specs.List.{range_with_len}
use Rattle.mp_model.specs.declared.record.Event.{Event}
use Rattle.mp_model.specs.declared.record.Rec.{Rec}
use Rattle.mp_model.specs.Facts.{QueryFacts}
use Rattle.mp_model.specs.Stages.{record_of}

-- the shares with one more index, in that of the worker whose number it is modulo the number of workers
abbrev pub with_index : ℕ → List (List ℕ) → List (List ℕ)
with_index i shares = slice_set shares (i % length shares) (slice_index_or shares (i % length shares) [] ++ i ∷ [])

module _ {Cell : Type 0} where
  -- the record of the event of this index, if the event is there and makes one
  abbrev pub record_at : QueryFacts Cell → List Event → ℕ → Option Rec
  record_at q events i = option_and_then (record_of q i) (slice_get events i)

  -- the event of this index makes a record, and the worker of this number takes it in
  abbrev pub is_taken_by : QueryFacts Cell → List Event → ℕ → ℕ → ℕ → Bool
  is_taken_by q events workers w i = is_some (record_at q events i) && i % workers == w

  -- the share of a worker: the indices, ascending, of the events that make a record and whose index modulo the number of workers is its number
  abbrev pub share_of : QueryFacts Cell → List Event → ℕ → ℕ → List ℕ
  share_of q events workers w = filter (is_taken_by q events workers w) (range_with_len 0 (length events))

  -- the shares of all workers, by their numbers
  abbrev pub shares_of : QueryFacts Cell → List Event → ℕ → List (List ℕ)
  shares_of q events workers = map (share_of q events workers) (range_with_len 0 workers)
