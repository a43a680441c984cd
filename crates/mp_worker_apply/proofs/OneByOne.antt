-- How the outputs of a group are handed on, one after the other.
use Rattle.std.proofs.Common.{◌≡◌, ℕ, zero, suc, ◌+◌, ◌<◌, ◌≤◌, Option, None, Some, List, [], ◌∷◌, All, Contains, cond, count_by, is_some, length, map, refl, set, slice_get, sym, ap, ◌∙◌, subst, arith}
use Rattle.std.specs.List.{cons_option, enumerate_from, filter_map}
use Rattle.std.specs.Option.{option_map}
use Rattle.std.proofs.lemmas.Bool.{ne_eqb}
use Rattle.std.proofs.lemmas.List.Elements.{All-head, All-tail}
use Rattle.std.proofs.lemmas.List.Sums.{sum_by-cons}
use Rattle.std.proofs.lemmas.Option.{none-some, same_Some}
use Rattle.mp_names.specs.declared.names.Name.{Name}
use Rattle.mp_names.specs.Logs.{Log}
use Rattle.mp_model.specs.declared.record.Output.{Output}
use Rattle.mp_model.specs.declared.record.Rec.{Rec}
use Rattle.mp_model.specs.declared.value.Value.{Value}
use Rattle.mp_model.specs.Facts.{JobFacts, QueryFacts}
use Rattle.mp_model.specs.Folds.{outputs_at}
use Rattle.mp_model.specs.Stages.{answer_rows, record_of_output}
use Rattle.mp_model.specs.Tables.{table_of}
use Rattle.mp_ordered.specs.InOrder.{put_in_order}
use Rattle.mp_outline.specs.JobOutline.{name_of_record, name_of_row}
use Rattle.mp_msg.specs.Contents.{IsRecordOf}
use Rattle.mp_route.specs.Routed.{Routed}
use Rattle.mp_route.specs.Unsent.{HoldsAllBut}
use Rattle.mp_output.specs.Unwritten.{Unwritten, place_rank}
use Rattle.mp_worker_invariant.specs.Given.{output_at}
use Rattle.mp_worker_invariant.specs.Parts.{HoldsRowsBut}
use Rattle.mp_worker_invariant.proofs.InTurn.{row_is_held}
use Rattle.mp_worker_apply.specs.Onward.{records_at}

-- Lists with a new element

pub new_there : {X : Type 0} (xs : List X) (i : ℕ) (x y : X) → slice_get (set xs i x) i ≡ Some y → x ≡ y
new_there [] i x y e = absurd (none-some y e)
new_there (z ∷ zs) zero x y e = same_Some x y e
new_there (z ∷ zs) (suc i) x y e = new_there zs i x y e

pub some_there : {X : Type 0} (xs : List X) (i : ℕ) (x : X) → i < length xs → slice_get (set xs i x) i ≡ None → ⊥
some_there [] i x l e = omega arith
some_there (z ∷ zs) zero x l e = none-some x (sym e)
some_there (z ∷ zs) (suc i) x l e = some_there zs i x (omega arith) e

-- Outputs from a place on

abbrev pub outputs_from : ℕ → ℕ → ℕ → List Value → List Output
outputs_from t k place values = map (λ p. output_at t k p.0 p.1) (enumerate_from place values)

module _ {Cell : Type 0} (q : QueryFacts Cell) (stage t k : ℕ) where
  -- the records that they make
  abbrev pub records_from : ℕ → List Value → List Rec
  records_from place values = filter_map (record_of_output q stage) (outputs_from t k place values)

  abbrev pub record_at : ℕ → ℕ → Value → Rec
  record_at key place v = record { time = t; key = key; tag = record { 0 = k; 1 = place }; value = v }

  -- the first is that of the first value
  pub first_record : (place : ℕ) (v : Value) (vs : List Value) (key : ℕ) → q.key stage t v ≡ Some key → records_from place (v ∷ vs) ≡ record_at key place v ∷ records_from (place + 1) vs
  first_record place v vs key e = ap (λ (o : Option ℕ). cons_option (option_map (λ l. record_at l place v) o) (records_from (place + 1) vs)) e

  -- without a key it makes none
  pub no_record : (place : ℕ) (v : Value) (vs : List Value) → q.key stage t v ≡ None → records_from place (v ∷ vs) ≡ records_from (place + 1) vs
  no_record place v vs e = ap (λ (o : Option ℕ). cons_option (option_map (λ l. record_at l place v) o) (records_from (place + 1) vs)) e

  -- as many are made as values have a key
  pub records_counted : (place : ℕ) (values : List Value) → length (records_from place values) ≡ count_by (λ v. is_some (q.key stage t v)) values
  records_counted place [] = refl
  records_counted place (v ∷ vs) = one_counted (q.key stage t v) (records_counted (place + 1) vs) ∙ sym (sum_by-cons (λ (u : Value). cond (is_some (q.key stage t u)) 1 0) v vs)
    where
      one_counted : (o : Option ℕ) → length (records_from (place + 1) vs) ≡ count_by (λ u. is_some (q.key stage t u)) vs
          → length (cons_option (option_map (λ l. record_at l place v) o) (records_from (place + 1) vs)) ≡ cond (is_some o) 1 0 + count_by (λ u. is_some (q.key stage t u)) vs
      one_counted None rest = omega (arith, rest)
      one_counted (Some key) rest = omega (arith, rest)

-- in a later stage the keys are the query's own, whatever the time
pub later_key : {Cell : Type 0} (facts : List ℕ → QueryFacts Cell) (job : JobFacts) (stage t : ℕ) (v : Value) → 0 < stage → (table_of facts job).key stage t v ≡ (facts job.values).key stage t v
later_key facts job stage t v l = rw (ne_eqb stage 0 (λ e. omega arith)) refl

-- What is left to hand on to a router

pub record RecordsLeft {Cell : Type 0} (q : QueryFacts Cell) (job : JobFacts) (j t k : ℕ) (all : List Value) (start : Routed) (place : ℕ) (values : List Value) (router : Routed) : Type 0 where
  pub are : All (IsRecordOf q job j) (records_from q j t k place values)
  pub roomy : length values ≤ router.room
  pub same : router.stage ≡ j
  pub held : (w : ℕ) (log : Log) → HoldsAllBut q job w log (map (name_of_record j) (records_at q j t k all)) start → HoldsAllBut q job w log (map (name_of_record j) (records_from q j t k place values)) router

module _ {Cell : Type 0} (q : QueryFacts Cell) (job : JobFacts) (j t k : ℕ) (start : Routed) where
  -- at first all are
  pub all_left : (all values : List Value) → values ≡ all → All (IsRecordOf q job j) (records_at q j t k all) → length all ≤ start.room → start.stage ≡ j
      → RecordsLeft q job j t k values start 0 values start
  all_left all values e are room same = subst (λ (vs : List Value). RecordsLeft q job j t k vs start 0 vs start) (sym e) (record { are = are; roomy = room; same = same; held = λ w log h. h })

  -- and in the end none
  pub none_left : (all values rest : List Value) (place : ℕ) (router : Routed) → values ≡ all → length rest ≡ 0 → RecordsLeft q job j t k values start place rest router
      → (w : ℕ) (log : Log) → HoldsAllBut q job w log (map (name_of_record j) (records_at q j t k all)) start → HoldsAllBut q job w log [] router
  none_left all values [] place router e l left w log h = left.held w log (subst (λ (vs : List Value). HoldsAllBut q job w log (map (name_of_record j) (records_at q j t k vs)) start) (sym e) h)
  none_left all values (v ∷ vs) place router e l left w log h = absurd (omega arith)

module _ {Cell : Type 0} (q : QueryFacts Cell) (job : JobFacts) (j t k : ℕ) (all : List Value) (start : Routed) (place : ℕ) (v : Value) (vs : List Value) (router : Routed) (left : RecordsLeft q job j t k all start place (v ∷ vs) router) where
  -- a value without a key is passed over
  pub next_passed : q.key j t v ≡ None → RecordsLeft q job j t k all start (place + 1) vs router
  next_passed e =
      let none = no_record q j t k place v vs e in
      let roomy : length (v ∷ vs) ≤ router.room = left.roomy in
      record {
        are = subst (λ (rs : List Rec). All (IsRecordOf q job j) rs) none left.are;
        roomy = omega arith;
        same = left.same;
        held = λ w log all. subst (λ (rs : List Rec). HoldsAllBut q job w log (map (name_of_record j) rs) router) none (left.held w log all);
      }

  module _ (key : ℕ) (keyed : q.key j t v ≡ Some key) where
    -- one that has a key makes a record of the stage
    pub next_is : IsRecordOf q job router.stage (record_at q j t k key place v)
    next_is =
        let are = subst (λ (rs : List Rec). All (IsRecordOf q job j) rs) (first_record q j t k place v vs key keyed) left.are in
        rw left.same (All-head (IsRecordOf q job j) (record_at q j t k key place v) (records_from q j t k (place + 1) vs) are)

    -- and once the router holds that the others are left
    pub next_left : (new : Routed) → new.stage ≡ router.stage → router.room ≤ new.room + 1
        → ((w : ℕ) (log : Log) (rest : List Name) → HoldsAllBut q job w log (name_of_record router.stage (record_at q j t k key place v) ∷ rest) router → HoldsAllBut q job w log rest new)
        → RecordsLeft q job j t k all start (place + 1) vs new
    next_left new same room in_turn =
        let first = first_record q j t k place v vs key keyed in
        let roomy : length (v ∷ vs) ≤ router.room = left.roomy in
        record {
          are = All-tail (IsRecordOf q job j) (record_at q j t k key place v) (records_from q j t k (place + 1) vs) (subst (λ (rs : List Rec). All (IsRecordOf q job j) rs) first left.are);
          roomy = omega arith;
          same = same ∙ left.same;
          held = λ w log all.
              in_turn w log (map (name_of_record j) (records_from q j t k (place + 1) vs))
              (subst (λ (i : ℕ). HoldsAllBut q job w log (name_of_record i (record_at q j t k key place v) ∷ map (name_of_record j) (records_from q j t k (place + 1) vs)) router) (sym left.same)
              (subst (λ (rs : List Rec). HoldsAllBut q job w log (map (name_of_record j) rs) router) first (left.held w log all)));
        }

-- What is left to hand on to answer rows

pub record RowsLeft {Cell : Type 0} (q : QueryFacts Cell) (job : JobFacts) (t k : ℕ) (all : List Value) (start : Unwritten) (place : ℕ) (values : List Value) (unsent : Unwritten) : Type 0 where
  pub are : All (Contains (answer_rows q job.events)) (outputs_from t k place values)
  pub roomy : length values ≤ unsent.room
  pub held : (w : ℕ) (log : Log) → HoldsRowsBut q job w log (map name_of_row (outputs_at t k all)) start.rows → HoldsRowsBut q job w log (map name_of_row (outputs_from t k place values)) unsent.rows

module _ {Cell : Type 0} (q : QueryFacts Cell) (job : JobFacts) (t k : ℕ) (start : Unwritten) where
  -- at first all are
  pub all_rows_left : (all values : List Value) → values ≡ all → All (Contains (answer_rows q job.events)) (outputs_at t k all) → length all ≤ start.room → RowsLeft q job t k values start 0 values start
  all_rows_left all values e are room = subst (λ (vs : List Value). RowsLeft q job t k vs start 0 vs start) (sym e) (record { are = are; roomy = room; held = λ w log h. h })

  -- and in the end none
  pub no_rows_left : (all values rest : List Value) (place : ℕ) (unsent : Unwritten) → values ≡ all → length rest ≡ 0 → RowsLeft q job t k values start place rest unsent
      → (w : ℕ) (log : Log) → HoldsRowsBut q job w log (map name_of_row (outputs_at t k all)) start.rows → HoldsRowsBut q job w log [] unsent.rows
  no_rows_left all values [] place unsent e l left w log h = left.held w log (subst (λ (vs : List Value). HoldsRowsBut q job w log (map name_of_row (outputs_at t k vs)) start.rows) (sym e) h)
  no_rows_left all values (v ∷ vs) place unsent e l left w log h = absurd (omega arith)

module _ {Cell : Type 0} (q : QueryFacts Cell) (job : JobFacts) (t k : ℕ) (all : List Value) (start : Unwritten) (place : ℕ) (v : Value) (vs : List Value) (unsent : Unwritten) (left : RowsLeft q job t k all start place (v ∷ vs) unsent) where
  -- the next output is a row of the answer
  pub next_row : Contains (answer_rows q job.events) (output_at t k place v)
  next_row = All-head (Contains (answer_rows q job.events)) (output_at t k place v) (outputs_from t k (place + 1) vs) left.are

  -- and once it is held the others are left
  pub next_rows_left : (new : Unwritten) → new.rows ≡ put_in_order place_rank (output_at t k place v) unsent.rows → unsent.room ≤ new.room + 1 → RowsLeft q job t k all start (place + 1) vs new
  next_rows_left new put room =
      let roomy : length (v ∷ vs) ≤ unsent.room = left.roomy in
      record {
        are = All-tail (Contains (answer_rows q job.events)) (output_at t k place v) (outputs_from t k (place + 1) vs) left.are;
        roomy = omega arith;
        held = λ w log all. rw put (row_is_held q job w log (output_at t k place v) (map name_of_row (outputs_from t k (place + 1) vs)) unsent.rows (left.held w log all));
      }
