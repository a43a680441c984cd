-- The records of legal events are legal.
use Rattle.std.proofs.Common.{ℕ, ◌+◌, List, [], ◌∷◌, Option, Some, None, All, IfSome}
use Rattle.std.specs.List.{enumerate_from, filter_map}
use Rattle.std.specs.Option.{option_map}
use Rattle.std.proofs.lemmas.List.Elements.{All-nil, All-head, All-tail}
use Rattle.mp_model.specs.declared.record.Event.{Event}
use Rattle.mp_model.specs.Facts.{QueryFacts}
use Rattle.mp_model.specs.Legal.{EventIsLegal, EventsAreLegal}
use Rattle.mp_model.specs.QueryLaws.{RecordIsLegal}
use Rattle.mp_model.specs.Stages.{input_records, record_of}
use Rattle.mp_model.proofs.Lists.{All-cons_option}

-- whatever its key is
record_legal : (key : Option ℕ) (i : ℕ) (e : Event) → EventIsLegal e
    → IfSome (option_map (λ k. record { time = e.time; key = k; tag = record { 0 = 0; 1 = i }; value = e.value }) key) RecordIsLegal
record_legal None i e h = tt
record_legal (Some k) i e h = record { in_time = h.in_time; legal = h.legal }

module _ {Cell : Type 0} (q : QueryFacts Cell) where
  records_legal : (i : ℕ) (events : List Event) → All EventIsLegal events → All RecordIsLegal (filter_map (λ p. record_of q p.0 p.1) (enumerate_from i events))
  records_legal i [] h = All-nil RecordIsLegal
  records_legal i (e ∷ es) h =
      All-cons_option RecordIsLegal (record_of q i e) (filter_map (λ p. record_of q p.0 p.1) (enumerate_from (i + 1) es)) (record_legal (q.key 0 e.time e.value) i e (All-head EventIsLegal e es h)) (records_legal (i + 1) es (All-tail EventIsLegal e es h))

  -- the records that legal events make in stage 0 are legal
  pub input_records_legal : (events : List Event) → EventsAreLegal events → All RecordIsLegal (input_records q events)
  input_records_legal events h = records_legal 0 events h.each
