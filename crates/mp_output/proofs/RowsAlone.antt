-- Where the last stage gives rows alone, each row of the answer holds a row.
use Rattle.std.proofs.Common.{ℕ, ◌+◌, ◌-◌, List, [], ◌∷◌, All, slice_index_or}
use Rattle.std.specs.List.{enumerate_from}
use Rattle.std.proofs.lemmas.List.Elements.{All-nil, All-cons, All-head, All-tail, All-append, All-map}
use Rattle.mp_model.specs.declared.record.Event.{Event}
use Rattle.mp_model.specs.declared.record.Output.{Output}
use Rattle.mp_model.specs.declared.value.Value.{Value}
use Rattle.mp_model.specs.Entry.{Entry}
use Rattle.mp_model.specs.Facts.{QueryFacts}
use Rattle.mp_model.specs.Folds.{keys_in, outputs_along, outputs_at, outputs_of, timeline}
use Rattle.mp_model.specs.Stages.{answer_rows, stage_records}
use Rattle.mp_model.proofs.Lists.{All-flat_map}
use Rattle.mp_output.specs.Rows.{GivesRows, IsRow}

-- what holds of each element holds of it beside its number
numbered : {X : Type 0} (P : X → Type 0) (i : ℕ) (xs : List X) → All P xs → All (λ p. P p.1) (enumerate_from i xs)
numbered {X} P i [] h = All-nil (λ (p : ℕ × X). P p.1)
numbered {X} P i (x ∷ xs) h = All-cons (λ (p : ℕ × X). P p.1) (i, x) (enumerate_from (i + 1) xs) (All-head P x xs h) (numbered P (i + 1) xs (All-tail P x xs h))

-- the output holds a row
abbrev HoldsRow : Output → Type 0
HoldsRow o = IsRow o.value

-- the outputs of a group that gives rows alone
group_alone : (t k : ℕ) (values : List Value) → All IsRow values → All HoldsRow (outputs_at t k values)
group_alone t k values h =
    All-map HoldsRow (λ (p : ℕ × Value). record { time = t; tag = record { 0 = k; 1 = p.0 }; value = p.1 }) (enumerate_from 0 values) (numbered IsRow 0 values h)

module _ {Cell : Type 0} (q : QueryFacts Cell) (gives : GivesRows q) where
  -- along the groups of a key
  along_alone : (cell : Cell) (es : List Entry) → All HoldsRow (outputs_along q (q.stages - 1) cell es)
  along_alone cell [] = All-nil HoldsRow
  along_alone cell (e ∷ es) =
      let last = q.stages - 1 in
      All-append HoldsRow (outputs_at e.time e.key (q.gives last cell e)) (outputs_along q last (q.step last cell e) es) (group_alone e.time e.key (q.gives last cell e) (gives cell e)) (along_alone (q.step last cell e) es)

  -- key by key
  pub rows_alone : (events : List Event) → All HoldsRow (answer_rows q events)
  rows_alone events =
      let last = q.stages - 1 in
      let rs = stage_records q events last in
      let keys = keys_in q last rs in
      All-flat_map HoldsRow (outputs_of q last rs) keys (λ i d low. let k = slice_index_or keys i d in along_alone (q.opening last k) (timeline q last k rs))
