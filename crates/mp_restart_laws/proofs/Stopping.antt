-- A table that stops at a time has below it what the whole table has.
use Rattle.std.proofs.Common.{◌≡◌, ◌↔◌, ◌-◌, ℕ, zero, suc, Bool, true, false, cond, nat_lt, Option, List, [], ◌∷◌, ◌++◌, refl, sym, ap, ◌∙◌, subst}
use Rattle.std.specs.List.{filter_map, flat_map}
use Rattle.std.proofs.lemmas.Bool.{lt-ltb, ltb-false, ltb-true}
use Rattle.std.proofs.lemmas.List.Elements.{filter-append}
use Rattle.mp_model.specs.declared.record.Event.{Event}
use Rattle.mp_model.specs.declared.record.Output.{Output}
use Rattle.mp_model.specs.declared.record.Rec.{Rec}
use Rattle.mp_model.specs.declared.value.Value.{Value}
use Rattle.mp_model.specs.Entry.{Entry}
use Rattle.mp_model.specs.Facts.{QueryFacts}
use Rattle.mp_model.specs.Folds.{cell_before, keys_in, outputs_along, outputs_at, outputs_of, stage_outputs, timeline}
use Rattle.mp_model.specs.Legal.{EventsAreLegal}
use Rattle.mp_model.specs.QueryLaws.{LaterStagesPostNothing, PostsAreLater}
use Rattle.mp_model.specs.Stages.{answer_rows, record_of_output, stage_records}
use Rattle.mp_job.proofs.Members.{Contains-filter, filter-Contains}
use Rattle.mp_restart_laws.specs.Saves.{IsLeft}
use Rattle.mp_restart_laws.specs.Times.{outputs_below, records_below}
use Rattle.mp_restart_laws.proofs.Lists.{filter-flat_map}
use Rattle.mp_restart_laws.proofs.Resuming.{posts_follow}
use Rattle.mp_restart_laws.proofs.Tables.{KeysCount, from_nothing, inputs_counted, same_records}
use Rattle.mp_restart_laws.proofs.Timelines.{PostsFollow}
use Rattle.mp_restart_laws.proofs.Below.{cell_below, early_group, late_group, records_of_outputs, stage_below}

module _ {Cell : Type 0} (query : QueryFacts Cell) (key : ℕ → ℕ → Value → Option ℕ) (t : ℕ) where
  abbrev q : QueryFacts Cell
  q = from_nothing query

  abbrev pub stopped_at : QueryFacts Cell
  stopped_at = record (from_nothing query) { key = key; gives = λ j c e. cond (nat_lt e.time t) (query.gives j c e) [] }

  abbrev r : QueryFacts Cell
  r = stopped_at

  -- a group gives what it gives below the time
  group_stopped : (u k : ℕ) (values : List Value) (b : Bool) → nat_lt u t ≡ b → outputs_at u k (cond b values []) ≡ outputs_below t (outputs_at u k values)
  group_stopped u k values true e = sym (early_group t u k values (ltb-true u t e))
  group_stopped u k values false e = sym (late_group t u k values (ltb-false u t e))

  along_stopped : (j : ℕ) (cell : Cell) (es : List Entry) → outputs_along r j cell es ≡ outputs_below t (outputs_along q j cell es)
  along_stopped j cell [] = refl
  along_stopped j cell (e ∷ es) =
      let first = group_stopped e.time e.key (query.gives j cell e) (nat_lt e.time t) refl in
      let rest = along_stopped j (query.step j cell e) es in
      (λ i. first i ++ rest i) ∙ sym (filter-append (λ (o : Output). nat_lt o.time t) (outputs_at e.time e.key (query.gives j cell e)) (outputs_along q j (query.step j cell e) es))

  -- and so does a stage
  stage_stopped : (j : ℕ) (rs : List Rec) → stage_outputs r j rs ≡ outputs_below t (stage_outputs q j rs)
  stage_stopped j rs =
      (λ i. flat_map (λ k. along_stopped j (query.fresh j) (timeline q j k rs) i) (keys_in q j rs))
      ∙ sym (filter-flat_map (λ (o : Output). nat_lt o.time t) (outputs_of q j rs) (keys_in q j rs))

  module _ (later : PostsAreLater query) (nothing : LaterStagesPostNothing query) (events : List Event) (legal : EventsAreLegal events) (keys : KeysCount q r (λ u. nat_lt u t)) where
    follow : (j : ℕ) → PostsFollow q j (stage_records q events j)
    follow j = posts_follow q later nothing events legal j

    stage_is : (j : ℕ) → stage_outputs r j (records_below t (stage_records q events j)) ≡ outputs_below t (stage_outputs q j (stage_records q events j))
    stage_is j = stage_stopped j (records_below t (stage_records q events j)) ∙ sym (stage_below query j t (stage_records q events j) (follow j))

    pub records_are : (j : ℕ) → stage_records r events j ≡ records_below t (stage_records q events j)
    records_are zero = inputs_counted q r (λ u. nat_lt u t) keys events
    records_are (suc j) =
        ap (λ (rs : List Rec). filter_map (record_of_output r (suc j)) (stage_outputs r j rs)) (records_are j)
        ∙ same_records q r (λ u. nat_lt u t) keys j (stage_outputs r j (records_below t (stage_records q events j)))
        ∙ ap (filter_map (record_of_output q (suc j))) (stage_is j)
        ∙ sym (records_of_outputs q (suc j) t (stage_outputs q j (stage_records q events j)))

    pub rows_are : answer_rows r events ≡ outputs_below t (answer_rows q events)
    rows_are = ap (stage_outputs r (query.stages - 1)) (records_are (query.stages - 1)) ∙ stage_is (query.stages - 1)

    pub cells_are : (j k : ℕ) → cell_before r j (stage_records r events j) k t ≡ cell_before q j (stage_records q events j) k t
    cells_are j k = ap (λ (rs : List Rec). cell_before q j rs k t) (records_are j) ∙ cell_below query j t (stage_records q events j) (follow j) k

    left_same : (j : ℕ) (rs : List Rec) (k u : ℕ) → (IsLeft r t j (records_below t rs) k u ↔ IsLeft q t j rs k u)
    left_same j rs k u = (
      λ h. (h.0, h.1, (Contains-filter (λ (s : Rec). nat_lt s.time t) rs h.1 h.2).0, h.3, h.4, h.5),
      λ h. (h.0, h.1, filter-Contains (λ (s : Rec). nat_lt s.time t) rs h.1 h.2 (lt-ltb (h.1).time t h.4), h.3, h.4, h.5),
    )

    pub wakes_are : (j k u : ℕ) → (IsLeft r t j (stage_records r events j) k u ↔ IsLeft q t j (stage_records q events j) k u)
    wakes_are j k u = subst (λ (rs : List Rec). IsLeft r t j rs k u ↔ IsLeft q t j (stage_records q events j) k u) (sym (records_are j)) (left_same j (stage_records q events j) k u)
