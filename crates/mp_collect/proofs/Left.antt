-- A checkpoint of the states of all workers holds what is left, in order.
use Rattle.std.proofs.Common.{◌≡◌, ◌≢◌, ◌↔◌, ℕ, suc, ◌<◌, Option, Some, List, [], All, AllPairs, Contains, IsPermutation, map, refl, sym, ap, ◌∙◌, subst, ⊎_elim}
use Rattle.std.specs.List.{flat_map}
use Rattle.std.specs.List.Sorted.{IsSortedByKey}
use Rattle.std.specs.Option.{option_map_or}
use Rattle.std.proofs.lemmas.List.Elements.{All-contains_itself, All-weaker}
use Rattle.std.proofs.lemmas.List.Folds.{flat_map-map}
use Rattle.std.proofs.lemmas.List.Sorted.{Contains-permutation, IsPermutation-sym, IsPermutation-trans}
use Rattle.mp_names.specs.Limits.{last_time}
use Rattle.mp_names.specs.Outlines.{OutlineIsSound}
use Rattle.mp_bins.specs.Bins.{bin_of_key}
use Rattle.mp_model.specs.Facts.{JobFacts, QueryFacts, SavedWake}
use Rattle.mp_model.specs.Folds.{cell_before}
use Rattle.mp_model.specs.QueryLaws.{LaterStagesPostNothing, WakeIsBefore}
use Rattle.mp_model.specs.Stages.{stage_records}
use Rattle.mp_outline.specs.JobOutline.{outline_of}
use Rattle.mp_postdated.specs.Wakes.{Has}
use Rattle.mp_opening.specs.declared.checkpoint.KeyCell.{KeyCell}
use Rattle.mp_opening.specs.Checkpoints.{CheckpointOf, KeyIsBefore}
use Rattle.mp_restart_laws.specs.Saves.{HoldsWhatIsLeft, IsLeft, StandsInOrder, cell_in}
use Rattle.mp_restart_laws.proofs.OneWay.{AllPairs-to_Pairs, stands, stands_for}
use Rattle.mp_msg.specs.LastStates.{AreAllStates, end_time}
use Rattle.mp_msg.specs.States.{BinContent, IsStateBefore}
use Rattle.mp_msg.proofs.Cells.{cell_in-absent, cell_in-there}
use Rattle.mp_collect.specs.Gathered.{as_cell, as_wake, cells_of, pair_cmp, place_of_cell, place_of_wake, triple_cmp, wakes_of}
use Rattle.mp_collect.proofs.Made.{cells_once, made_of, of_made, wakes_once}
use Rattle.mp_collect.proofs.Owned.{AreOfBins, are_of_bins, bin_of_state, state_of_bin}
use Rattle.mp_collect.proofs.Posted.{left_is}
use Rattle.mp_collect.proofs.Rising.{cells_rise, wakes_rise}

-- what holds of whatever stands in a list holds of each element
each : {X : Type 0} (P : X → Type 0) (xs : List X) → ((x : X) → Contains xs x → P x) → All P xs
each P xs h = All-weaker (Contains xs) P h xs (All-contains_itself xs)

module _ {Cell : Type 0} (q : QueryFacts Cell) (job : JobFacts) (stages : job.shape.stages ≡ q.stages) (nothing : LaterStagesPostNothing q)
    (quiet : (j : ℕ) → q.waking j ≡ []) (fits : (k : ℕ) → bin_of_key k job.shape.bins < job.shape.bins) (states : List (ℕ × BinContent Cell)) (are : AreOfBins q job states) where
  abbrev t : ℕ
  t = end_time job

  in_shape : (j : ℕ) → j < q.stages → j < job.shape.stages
  in_shape j l = subst (λ (n : ℕ). j < n) (sym stages) l

  in_query : (j : ℕ) → j < job.shape.stages → j < q.stages
  in_query j l = subst (λ (n : ℕ). j < n) stages l

  -- the state of a bin
  state_of : (j b : ℕ) → j < q.stages → b < job.shape.bins → (s : ℕ × BinContent Cell) × Contains states s × (s.0 ≡ j) × IsStateBefore q job j b t s.1
  state_of j b l m = let a = state_of_bin q job are.bins states are.last (j, b) (are.all (j, b) (in_shape j l) m) in (a.0, a.1, a.2.0, a.2.1)

  -- a state is that of a bin of a stage
  bin_of : (s : ℕ × BinContent Cell) → Contains states s → (b : ℕ) × (s.0 < q.stages) × IsStateBefore q job s.0 b t s.1
  bin_of s i =
      let a = bin_of_state q job are.bins states are.last s i in (
        a.0.1,
        in_query s.0 (subst (λ (n : ℕ). n < job.shape.stages) (sym a.2.0) (are.within a.0 a.1)),
        subst (λ (n : ℕ). IsStateBefore q job n a.0.1 t s.1) (sym a.2.0) a.2.1,
      )

  module _ (cells : List (KeyCell Cell)) (same : IsPermutation (cells_of states) cells) (up : IsSortedByKey place_of_cell pair_cmp cells) where
    cells_ascend : AllPairs KeyIsBefore cells
    cells_ascend = cells_rise (cells_of states) cells same up (cells_once q job are.bins states are.last are.once)

    -- a cell of the list is one of a state of its stage
    from_state : (r : KeyCell Cell) → Contains cells r → (s : ℕ × BinContent Cell) × Contains states s × (s.0 ≡ r.stage) × Contains s.1.cells (r.key, r.cell)
    from_state r i =
        let a = of_made (λ (s : ℕ × BinContent Cell). s.1.cells) (λ s. as_cell s.0) states r (Contains-permutation cells (cells_of states) r (IsPermutation-sym (cells_of states) cells same) i) in
        (a.0, a.1, ap (λ (c : KeyCell Cell). c.stage) a.4, subst (λ (c : ℕ × Cell). Contains a.0.1.cells c) (λ n. ((a.4 n).key, (a.4 n).cell)) a.3)

    to_list : (s : ℕ × BinContent Cell) (k : ℕ) (c : Cell) → Contains states s → Contains s.1.cells (k, c) → Contains cells (record { stage = s.0; key = k; cell = c })
    to_list s k c i m =
        Contains-permutation (cells_of states) cells (record { stage = s.0; key = k; cell = c }) same (made_of (λ (r : ℕ × BinContent Cell). r.1.cells) (λ r. as_cell r.0) states s (k, c) i m)

    -- each stands for a stage of the query, and isn't fresh
    own_cell : (r : KeyCell Cell) → Contains cells r → (r.stage < q.stages) × (r.cell ≢ q.fresh r.stage)
    own_cell r i =
        let a = from_state r i in
        let b = bin_of a.0 a.1 in
        let own = b.2.own.cells r.key r.cell a.3 in
        (subst (λ (n : ℕ). n < q.stages) a.2 b.1, subst (λ (n : ℕ). r.cell ≢ q.fresh n) a.2 own.1)

    -- it is the key's cell at the end
    cell_there : (r : KeyCell Cell) → Contains cells r → r.cell ≡ cell_before q r.stage (stage_records q job.events r.stage) r.key t
    cell_there r i =
        let a = from_state r i in
        let b = bin_of a.0 a.1 in
        let own = b.2.own.cells r.key r.cell a.3 in
        let there = sym (cell_in-there (q.fresh a.0.0) a.0.1.cells r.key r.cell b.2.order.cells a.3) ∙ b.2.cells r.key own.0 in
        subst (λ (n : ℕ). r.cell ≡ cell_before q n (stage_records q job.events n) r.key t) a.2 there

    -- a key for which none stands has a fresh cell at the end
    cell_absent : (j k : ℕ) → j < q.stages → ((c : Cell) → Contains cells (record { stage = j; key = k; cell = c }) → ⊥) → q.fresh j ≡ cell_before q j (stage_records q job.events j) k t
    cell_absent j k l none =
        let s = state_of j (bin_of_key k job.shape.bins) l (fits k) in
        let absent = cell_in-absent (q.fresh j) s.0.1.cells k (λ c i. none c (subst (λ (n : ℕ). Contains cells (record { stage = n; key = k; cell = c })) s.2 (to_list s.0 k c s.1 i))) in
        sym absent ∙ s.3.cells k refl

    cells_are : (j k : ℕ) → j < q.stages → cell_in (q.fresh j) cells j k ≡ cell_before q j (stage_records q job.events j) k t
    cells_are j k l =
        let found = cell_in (q.fresh j) cells j k in
        ⊎_elim
        (λ (e : found ≡ q.fresh j). e ∙ cell_absent j k l (none_stands e))
        (λ (e : (s : KeyCell Cell) × Contains cells s × (s ≡ record { stage = j; key = k; cell = found })). cell_there (record { stage = j; key = k; cell = found }) (subst (Contains cells) e.2 e.1))
        (stands (q.fresh j) cells j k)
      where
        -- one that stands for the key would be found, and isn't fresh
        none_stands : cell_in (q.fresh j) cells j k ≡ q.fresh j → (c : Cell) → Contains cells (record { stage = j; key = k; cell = c }) → ⊥
        none_stands e c i =
            let r : KeyCell Cell = record { stage = j; key = k; cell = c } in
            (own_cell r i).1 (sym (stands_for (q.fresh j) cells (AllPairs-to_Pairs KeyIsBefore cells cells_ascend) r i) ∙ e)

    cells_stand : All (λ s. (s.stage < q.stages) × (s.cell ≢ q.fresh s.stage)) cells
    cells_stand = each (λ s. (s.stage < q.stages) × (s.cell ≢ q.fresh s.stage)) cells own_cell

  module _ (wakes : List SavedWake) (same : IsPermutation (wakes_of states) wakes) (up : IsSortedByKey place_of_wake triple_cmp wakes) where
    wakes_ascend : AllPairs WakeIsBefore wakes
    wakes_ascend = wakes_rise (wakes_of states) wakes same up (wakes_once q job are.bins states are.last are.once)

    wake_from : (w : SavedWake) → Contains wakes w → (s : ℕ × BinContent Cell) × Contains states s × (s.0 ≡ w.stage) × Has s.1.wakes w.time w.key
    wake_from w i =
        let a = of_made (λ (s : ℕ × BinContent Cell). s.1.wakes) (λ s. as_wake s.0) states w (Contains-permutation wakes (wakes_of states) w (IsPermutation-sym (wakes_of states) wakes same) i) in
        (a.0, a.1, ap (λ (v : SavedWake). v.stage) a.4, subst (λ (v : ℕ × ℕ). Contains a.0.1.wakes v) (λ n. ((a.4 n).time, (a.4 n).key)) a.3)

    wake_to : (s : ℕ × BinContent Cell) (k u : ℕ) → Contains states s → Has s.1.wakes u k → Contains wakes (record { stage = s.0; key = k; time = u })
    wake_to s k u i m =
        Contains-permutation (wakes_of states) wakes (record { stage = s.0; key = k; time = u }) same (made_of (λ (r : ℕ × BinContent Cell). r.1.wakes) (λ r. as_wake r.0) states s (u, k) i m)

    wakes_are : (j k u : ℕ) → j < q.stages → (Contains wakes (record { stage = j; key = k; time = u }) ↔ IsLeft q t j (stage_records q job.events j) k u)
    wakes_are j k u l = (to, from)
      where
        to : Contains wakes (record { stage = j; key = k; time = u }) → IsLeft q t j (stage_records q job.events j) k u
        to i =
            let a = wake_from (record { stage = j; key = k; time = u }) i in
            let b = bin_of a.0 a.1 in
            let state = subst (λ (n : ℕ). IsStateBefore q job n b.0 t a.0.1) a.2 b.2 in
            (left_is q job nothing j k t u (in_shape j l) (quiet j)).0 ((state.wakes u k (state.own.wakes u k a.3)).0 a.3)

        from : IsLeft q t j (stage_records q job.events j) k u → Contains wakes (record { stage = j; key = k; time = u })
        from h =
            let s = state_of j (bin_of_key k job.shape.bins) l (fits k) in
            let there = (s.3.wakes u k refl).1 ((left_is q job nothing j k t u (in_shape j l) (quiet j)).1 h) in
            subst (λ (n : ℕ). Contains wakes (record { stage = n; key = k; time = u })) s.2 (wake_to s.0 k u s.1 there)

    wakes_stand : All (λ w. w.stage < q.stages) wakes
    wakes_stand = each (λ w. w.stage < q.stages) wakes (λ w i. let a = wake_from w i in subst (λ (n : ℕ). n < q.stages) a.2 (bin_of a.0 a.1).1)

  module _ (c : CheckpointOf Cell) (time : c.time ≡ t) (cells : IsPermutation (cells_of states) c.cells) (cells_up : IsSortedByKey place_of_cell pair_cmp c.cells)
      (wakes : IsPermutation (wakes_of states) c.wakes) (wakes_up : IsSortedByKey place_of_wake triple_cmp c.wakes) where
    pub holds : HoldsWhatIsLeft q job.events c
    holds = record {
      cells = λ j k l. cells_are c.cells cells cells_up j k l ∙ ap (cell_before q j (stage_records q job.events j) k) (sym time);
      wakes = λ j k u l. subst (λ (n : ℕ). Contains c.wakes (record { stage = j; key = k; time = u }) ↔ IsLeft q n j (stage_records q job.events j) k u) (sym time) (wakes_are c.wakes wakes wakes_up j k u l);
    }

    pub in_order : StandsInOrder q c
    in_order = record {
      cells_ascend = cells_ascend c.cells cells cells_up;
      wakes_ascend = wakes_ascend c.wakes wakes wakes_up;
      cells = cells_stand c.cells cells cells_up;
      wakes = wakes_stand c.wakes wakes wakes_up;
    }

-- a job that stops ends at its stop time
pub ends_at : (job : JobFacts) (time : ℕ) → job.until ≡ Some time → time ≡ end_time job
ends_at job time stops = sym (ap (λ (until : Option ℕ). option_map_or (λ t. t) until (suc last_time)) stops)

-- the cells and wakes of all states, in order, are such a checkpoint
pub collected : {Cell Own : Type 0} (q : QueryFacts Cell) (job : JobFacts) → job.shape.stages ≡ q.stages → LaterStagesPostNothing q → ((j : ℕ) → q.waking j ≡ []) → OutlineIsSound (outline_of q job)
    → (time : ℕ) → job.until ≡ Some time → (items : Own → List (ℕ × BinContent Cell)) (owns : List Own) → AreAllStates q job (map items owns)
    → (some_cells cells : List (KeyCell Cell)) → IsPermutation (cells_of (flat_map items owns)) some_cells → IsPermutation some_cells cells → IsSortedByKey place_of_cell pair_cmp cells
    → (some_wakes wakes : List SavedWake) → IsPermutation (wakes_of (flat_map items owns)) some_wakes → IsPermutation some_wakes wakes → IsSortedByKey place_of_wake triple_cmp wakes
    → let c : CheckpointOf Cell = record { time = time; cells = cells; wakes = wakes } in
    HoldsWhatIsLeft q job.events c × StandsInOrder q c
collected {Cell} q job stages nothing quiet sound time stops items owns are some_cells cells cells_are cells_moved cells_up some_wakes wakes wakes_are wakes_moved wakes_up =
    let c : CheckpointOf Cell = record { time = time; cells = cells; wakes = wakes } in
    let states = flat_map items owns in
    let same : flat_map (λ ss. ss) (map items owns) ≡ states = flat_map-map (λ ss. ss) items owns in
    let of_bins : AreOfBins q job states = subst (AreOfBins q job) same (are_of_bins q job (map items owns) sound are) in
    let ends = ends_at job time stops in
    let all_cells = IsPermutation-trans (cells_of states) some_cells cells cells_are cells_moved in
    let all_wakes = IsPermutation-trans (wakes_of states) some_wakes wakes wakes_are wakes_moved in (
      holds q job stages nothing quiet sound.bins_fit states of_bins c ends all_cells cells_up all_wakes wakes_up,
      in_order q job stages nothing quiet sound.bins_fit states of_bins c ends all_cells cells_up all_wakes wakes_up,
    )
