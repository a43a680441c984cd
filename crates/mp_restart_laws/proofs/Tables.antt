-- Tables that differ in which events make records, and in how a job begins: from nothing, or from saved cells and wakes.
use Rattle.std.proofs.Common.{◌≡◌, ◌++◌, ℕ, suc, Bool, true, false, cond, not, Option, Some, None, List, [], ◌∷◌, filter, refl, sym, ap, ◌∙◌}
use Rattle.std.specs.List.{cons_option, enumerate_from, filter_map}
use Rattle.std.specs.Option.{option_map, option_to_list}
use Rattle.std.proofs.lemmas.List.Elements.{filter-append}
use Rattle.mp_model.specs.declared.record.Event.{Event}
use Rattle.mp_model.specs.declared.record.Output.{Output}
use Rattle.mp_model.specs.declared.record.Rec.{Rec}
use Rattle.mp_model.specs.declared.value.Value.{Value}
use Rattle.mp_model.specs.Facts.{QueryFacts}
use Rattle.mp_model.specs.QueryLaws.{BeginsFresh}
use Rattle.mp_model.specs.Stages.{input_records, record_of, record_of_output}

module _ {X Y : Type 0} (p : Y → Bool) (f g : X → Option Y) where
  as_list : (o : Option Y) (ys : List Y) → cons_option o ys ≡ option_to_list o ++ ys
  as_list None ys = refl
  as_list (Some y) ys = refl

  -- of what elements make, what passes is what others make of them
  pub passing_made : ((x : X) → filter p (option_to_list (f x)) ≡ option_to_list (g x)) → (xs : List X) → filter p (filter_map f xs) ≡ filter_map g xs
  passing_made h [] = refl
  passing_made h (x ∷ xs) =
      let first = h x in
      let rest = passing_made h xs in
      ap (filter p) (as_list (f x) (filter_map f xs))
      ∙ filter-append p (option_to_list (f x)) (filter_map f xs)
      ∙ (λ i. first i ++ rest i)
      ∙ sym (as_list (g x) (filter_map g xs))

module _ {Cell : Type 0} where
  -- the table whose cells begin fresh, and in which nothing is to be woken
  abbrev pub from_nothing : QueryFacts Cell → QueryFacts Cell
  from_nothing q = record q { opening = λ j k. q.fresh j; waking = λ j. [] }

  -- it is that of a query
  pub is_from_nothing : (q : QueryFacts Cell) → BeginsFresh q → from_nothing q ≡ q
  is_from_nothing q h = λ i. record q { opening = sym h.0 i; waking = sym h.1 i }

  -- the table with these keys, that begins with these cells and wakes
  abbrev pub going_on : QueryFacts Cell → (ℕ → ℕ → Value → Option ℕ) → (ℕ → ℕ → Cell) → (ℕ → List (ℕ × ℕ)) → QueryFacts Cell
  going_on q key opening waking = record q { key = key; opening = opening; waking = waking }

  -- Keys where only some times count in stage 0

  pub record KeysCount (q r : QueryFacts Cell) (counts : ℕ → Bool) : Type 0 where
    pub first : (u : ℕ) (v : Value) → r.key 0 u v ≡ cond (not (counts u)) None (q.key 0 u v)
    pub later : (j u : ℕ) (v : Value) → r.key (suc j) u v ≡ q.key (suc j) u v

  module _ (q r : QueryFacts Cell) (counts : ℕ → Bool) (keys : KeysCount q r counts) where
    record_counted : (i : ℕ) (e : Event) (b : Bool) (k : Option ℕ) → counts e.time ≡ b
        → filter (λ (x : Rec). counts x.time) (option_to_list (option_map (λ k. record { time = e.time; key = k; tag = record { 0 = 0; 1 = i }; value = e.value }) k))
        ≡ option_to_list (option_map (λ k. record { time = e.time; key = k; tag = record { 0 = 0; 1 = i }; value = e.value }) (cond (not b) None k))
    record_counted i e true None h = refl
    record_counted i e false None h = refl
    record_counted i e true (Some k) h = rw h refl
    record_counted i e false (Some k) h = rw h refl

    -- the records of events are those of the times that count
    pub inputs_counted : (events : List Event) → input_records r events ≡ filter (λ x. counts x.time) (input_records q events)
    inputs_counted events =
        sym (passing_made (λ (x : Rec). counts x.time) (λ (p : ℕ × Event). record_of q p.0 p.1) (λ (p : ℕ × Event). record_of r p.0 p.1)
        (λ p. record_counted p.0 p.1 (counts p.1.time) (q.key 0 p.1.time p.1.value) refl
        ∙ ap (λ (k : Option ℕ). option_to_list (option_map (λ k. record { time = p.1.time; key = k; tag = record { 0 = 0; 1 = p.0 }; value = p.1.value }) k)) (sym (keys.first p.1.time p.1.value)))
        (enumerate_from 0 events))

    -- outputs make the same records
    pub same_records : (j : ℕ) (outputs : List Output) → filter_map (record_of_output r (suc j)) outputs ≡ filter_map (record_of_output q (suc j)) outputs
    same_records j outputs =
        (λ i. filter_map (λ (o : Output). option_map (λ k. record { time = o.time; key = k; tag = o.tag; value = o.value }) (keys.later j o.time o.value i)) outputs)
