-- What is true of events and outputs is true of the records that they make.
use Rattle.std.proofs.Common.{ℕ, suc, ◌≡◌, ◌+◌, ◌≤◌, List, [], ◌∷◌, Option, None, Some, All, IfSome, length, arith, refl}
use Rattle.std.specs.List.{enumerate_from, filter_map}
use Rattle.std.specs.Option.{option_map}
use Rattle.std.proofs.lemmas.List.Elements.{All-nil, All-head, All-tail, All-weaker}
use Rattle.std.proofs.lemmas.List.FromFn.{length-enumerate_from}
use Rattle.mp_names.specs.Limits.{most_events}
use Rattle.mp_model.specs.declared.record.Event.{Event}
use Rattle.mp_model.specs.declared.record.Output.{Output}
use Rattle.mp_model.specs.declared.record.Rec.{Rec}
use Rattle.mp_model.specs.Facts.{QueryFacts}
use Rattle.mp_model.specs.Folds.{stage_outputs}
use Rattle.mp_model.specs.Legal.{EventIsLegal, EventsAreLegal}
use Rattle.mp_model.specs.Plain.{EventsArePlain, NamesArePlain}
use Rattle.mp_model.specs.Stages.{input_records, record_of, record_of_output, stage_records}
use Rattle.mp_model.proofs.Lists.{All-cons_option, All-filter_map}
use Rattle.mp_model.proofs.Tables.{length-filter_map}

-- what is made of a key, if there is one
of_key : {X : Type 0} (P : X → Type 0) (make : ℕ → X) (key : Option ℕ) → ((k : ℕ) → key ≡ Some k → P (make k)) → IfSome (option_map make key) P
of_key P make None h = tt
of_key P make (Some k) h = h k refl

-- events with plain names, each within its limits
pub both_hold : (events : List Event) → EventsAreLegal events → EventsArePlain events → All (λ e. EventIsLegal e × NamesArePlain e.value) events
both_hold events legal plain = λ i d low. (legal.each i d low, plain i d low)

module _ {Cell : Type 0} (q : QueryFacts Cell) (OfRecord : Rec → Type 0) where
  -- in the first stage
  module _ (OfEvent : Event → Type 0) (made : (i k : ℕ) (e : Event) → OfEvent e → q.key 0 e.time e.value ≡ Some k → OfRecord (record { time = e.time; key = k; tag = record { 0 = 0; 1 = i }; value = e.value })) where
    from : (i : ℕ) (events : List Event) → All OfEvent events → All OfRecord (filter_map (λ p. record_of q p.0 p.1) (enumerate_from i events))
    from i [] h = All-nil OfRecord
    from i (e ∷ es) h =
        All-cons_option OfRecord (record_of q i e) (filter_map (λ p. record_of q p.0 p.1) (enumerate_from (i + 1) es))
        (of_key OfRecord (λ k. record { time = e.time; key = k; tag = record { 0 = 0; 1 = i }; value = e.value }) (q.key 0 e.time e.value) (λ k is. made i k e (All-head OfEvent e es h) is))
        (from (i + 1) es (All-tail OfEvent e es h))

    pub inputs_keep : (events : List Event) → All OfEvent events → All OfRecord (input_records q events)
    inputs_keep events h = from 0 events h

  -- in a later one
  pub next_keep : (OfOutput : Output → Type 0) (events : List Event) (j : ℕ)
      → ((k : ℕ) (o : Output) → OfOutput o → q.key (suc j) o.time o.value ≡ Some k → OfRecord (record { time = o.time; key = k; tag = o.tag; value = o.value }))
      → All OfOutput (stage_outputs q j (stage_records q events j)) → All OfRecord (stage_records q events (suc j))
  next_keep OfOutput events j made h =
      let outputs = stage_outputs q j (stage_records q events j) in
      All-filter_map OfRecord (record_of_output q (suc j)) outputs
      (All-weaker OfOutput (λ (o : Output). IfSome (record_of_output q (suc j) o) OfRecord) (λ o k. of_key OfRecord (λ n. record { time = o.time; key = n; tag = o.tag; value = o.value }) (q.key (suc j) o.time o.value) (λ n is. made n o k is)) outputs h)

-- there are no more records than a file has events
pub few_inputs : {Cell : Type 0} (q : QueryFacts Cell) (events : List Event) → EventsAreLegal events → length (input_records q events) ≤ most_events
few_inputs q events legal =
    omega (arith, legal.few, length-filter_map (λ (p : ℕ × Event). record_of q p.0 p.1) (enumerate_from 0 events), length-enumerate_from 0 events)
