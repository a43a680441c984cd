-- A checkpoint of what a job leaves, whose events have plain names, is one that a file can say.
use Rattle.std.proofs.Common.{◌≡◌, ◌≢◌, ℕ, zero, suc, ◌==◌, ◌<◌, ◌≤◌, Bool, true, false, nat_lt, None, Some, List, [], ◌∷◌, All, Contains, take_while, refl, sym, ap, ◌∙◌, subst}
use Rattle.std.specs.List.{list_any}
use Rattle.std.proofs.lemmas.Bool.{both_ways, eqb-true, false_from_ne_true}
use Rattle.std.proofs.lemmas.List.Elements.{All-contains, All-contains_itself, All-nil, All-weaker}
use Rattle.mp_names.specs.Limits.{greatest_id, last_time}
use Rattle.mp_model.specs.declared.record.Rec.{Rec}
use Rattle.mp_model.specs.Entry.{Entry}
use Rattle.mp_model.specs.Facts.{JobFacts, QueryFacts, SavedWake}
use Rattle.mp_model.specs.Folds.{cell_before, entries_of, fold_of, of_key}
use Rattle.mp_model.specs.Legal.{EventsAreLegal}
use Rattle.mp_model.specs.Plain.{EventsArePlain}
use Rattle.mp_model.specs.QueryLaws.{BeginsFresh, LaterStagesPostNothing, PostsAreLater, RecordIsLegal, WakesAreInTime}
use Rattle.mp_model.specs.Stages.{stage_records}
use Rattle.mp_model.specs.Tables.{table_of}
use Rattle.mp_model.proofs.LastTimes.{IsInTime, stage_in_time}
use Rattle.mp_model.proofs.LegalRecords.{input_records_legal}
use Rattle.mp_job.specs.Legal.{StopFits}
use Rattle.mp_job.proofs.Members.{Contains-later, nothing_in_nil}
use Rattle.mp_opening.specs.declared.checkpoint.KeyCell.{KeyCell}
use Rattle.mp_opening.specs.Checkpoints.{CheckpointOf, KeyIsBefore}
use Rattle.mp_saved.specs.Leaving.{LeavesWhatMayBeSaved}
use Rattle.mp_checkpoint_laws.specs.Files.{CellStands, CheckpointFits, WakeStands, format_of}
use Rattle.mp_restart_laws.specs.Laws.{HasTheBeginning}
use Rattle.mp_restart_laws.specs.Saves.{HoldsWhatIsLeft, IsLeft, StandsInOrder}
use Rattle.mp_restart_laws.proofs.Lists.{filter_none, passes, passing}
use Rattle.mp_restart_laws.proofs.OfJobs.{job_stops}
use Rattle.mp_restart_laws.proofs.OneWay.{AllPairs-to_Pairs, stands_for}
use Rattle.mp_restart_laws.proofs.Tables.{from_nothing, is_from_nothing}

-- what holds of whatever stands in a list holds of each element
each : {X : Type 0} (P : X → Type 0) (xs : List X) → ((x : X) → Contains xs x → P x) → All P xs
each P xs h = All-weaker (Contains xs) P h xs (All-contains_itself xs)

module _ {Cell : Type 0} (q : QueryFacts Cell) (begins : BeginsFresh q) (j k t : ℕ) (rs : List Rec) where
  -- without records a key has a fresh cell
  fresh_without : of_key k rs ≡ [] → cell_before (from_nothing q) j rs k t ≡ q.fresh j
  fresh_without none = ap (λ (own : List Rec). fold_of (from_nothing q) j (q.fresh j) (take_while (λ (e : Entry). nat_lt e.time t) (entries_of (from_nothing q) j k own))) none

  -- so a key whose cell isn't fresh has one
  has_record : cell_before q j rs k t ≢ q.fresh j → (r : Rec) × Contains rs r × (r.key ≡ k)
  has_record other = by_test (list_any (λ r. r.key == k) rs) refl
    where
      by_test : (b : Bool) → list_any (λ r. r.key == k) rs ≡ b → (r : Rec) × Contains rs r × (r.key ≡ k)
      by_test true e = let a = passing (λ (r : Rec). r.key == k) rs e in (a.0, a.1, eqb-true a.0.key k a.2)
      by_test false e =
          let none = filter_none (λ (r : Rec). r.key == k) rs (λ r i. false_from_ne_true (r.key == k) (λ f. both_ways (list_any (λ (s : Rec). s.key == k) rs) e (passes (λ (s : Rec). s.key == k) rs r i f))) in
          absurd (other (subst (λ (w : QueryFacts Cell). cell_before w j rs k t ≡ q.fresh j) (is_from_nothing q begins) (fresh_without none)))

module _ {Cell : Type 0} (number : ℕ) (facts : List ℕ → QueryFacts Cell) (job : JobFacts) (begins : BeginsFresh (facts job.values)) (later : PostsAreLater (facts job.values)) (nothing : LaterStagesPostNothing (facts job.values))
    (leaves : LeavesWhatMayBeSaved number (facts job.values)) (legal : EventsAreLegal job.events) (from : job.from ≡ None)
    (c : CheckpointOf Cell) (until : job.until ≡ Some c.time) (holds : HoldsWhatIsLeft (table_of facts job) job.events c) (order : StandsInOrder (table_of facts job) c) where
  abbrev q : QueryFacts Cell
  q = facts job.values

  abbrev has : HasTheBeginning (table_of facts job) q job.events c.time
  has = job_stops facts job begins later nothing legal c.time until from

  -- a cell that stands there is the one of its key just before the time
  cell_is : (s : KeyCell Cell) → Contains c.cells s → s.cell ≡ cell_before q s.stage (stage_records q job.events s.stage) s.key c.time
  cell_is s i =
      let own = All-contains (λ (r : KeyCell Cell). (r.stage < q.stages) × (r.cell ≢ q.fresh r.stage)) c.cells s order.cells i in
      sym (stands_for (q.fresh s.stage) c.cells (AllPairs-to_Pairs KeyIsBefore c.cells order.cells_ascend) s i) ∙ holds.cells s.stage s.key own.0 ∙ has.cells s.stage s.key

  cell_stands : EventsArePlain job.events → (s : KeyCell Cell) → Contains c.cells s → (s.stage < q.stages) × (s.key ≤ greatest_id) × (q.allows s.stage s.key c.time s.cell ≡ true)
  cell_stands plain s i =
      let own = All-contains (λ (r : KeyCell Cell). (r.stage < q.stages) × (r.cell ≢ q.fresh r.stage)) c.cells s order.cells i in
      let rs = stage_records q job.events s.stage in
      let other : cell_before q s.stage rs s.key c.time ≢ q.fresh s.stage = λ e. own.1 (cell_is s i ∙ e) in
      let r = has_record q begins s.stage s.key c.time rs other in
      let key = All-contains (λ (r : Rec). r.key ≤ greatest_id) rs r.0 (leaves.keys job.events legal s.stage own.0) r.1 in (
        own.0,
        subst (λ (k : ℕ). k ≤ greatest_id) r.2 key,
        subst (λ (cell : Cell). q.allows s.stage s.key c.time cell ≡ true) (sym (cell_is s i)) (leaves.cells job.events legal plain s.stage s.key c.time own.0 other),
      )

  -- so its cells may be saved
  pub allowed : EventsArePlain job.events → All (λ s. q.allows s.stage s.key c.time s.cell ≡ true) c.cells
  allowed plain = each (λ s. q.allows s.stage s.key c.time s.cell ≡ true) c.cells (λ s i. (cell_stands plain s i).2)

  -- only records of the first stage post times
  first_stage : (j : ℕ) (r : Rec) (u : ℕ) → Contains (q.posts j r) u → j ≡ 0
  first_stage zero r u i = refl
  first_stage (suc j) r u i = absurd (nothing_in_nil u (subst (λ (ts : List ℕ). Contains ts u) (nothing j r) i))

  no_wakes : (j : ℕ) → WakesAreInTime q j
  no_wakes j = subst (λ (waking : ℕ → List (ℕ × ℕ)). All (λ w. w.0 ≤ last_time) (waking j)) (sym begins.1) (All-nil (λ (w : ℕ × ℕ). w.0 ≤ last_time))

  -- a wake that is left in the first stage
  left_stands : 0 < q.stages → (k u : ℕ) → IsLeft q c.time 0 (stage_records q job.events 0) k u → (4 ≤ number) × (k ≤ greatest_id) × (c.time ≤ u) × (u ≤ last_time)
  left_stands some k u h =
      let rs = stage_records q job.events 0 in
      let r = h.1 in
      let in_time = All-contains (IsInTime q 0) rs r (stage_in_time q later nothing no_wakes job.events legal 0) h.2 in
      let posted : Contains (r.time ∷ q.posts 0 r) u = Contains-later r.time u (q.posts 0 r) h.5 in (
        leaves.wakes r u (All-contains RecordIsLegal rs r (input_records_legal q job.events legal) h.2) h.5,
        subst (λ (n : ℕ). n ≤ greatest_id) h.3 (All-contains (λ (s : Rec). s.key ≤ greatest_id) rs r (leaves.keys job.events legal 0 some) h.2),
        h.0,
        All-contains (λ (n : ℕ). n ≤ last_time) (r.time ∷ q.posts 0 r) u in_time posted,
      )

  wake_stands : (w : SavedWake) → Contains c.wakes w → (4 ≤ number) × (w.stage ≡ 0) × (w.key ≤ greatest_id) × (c.time ≤ w.time) × (w.time ≤ last_time)
  wake_stands w i =
      let own = All-contains (λ (v : SavedWake). v.stage < q.stages) c.wakes w order.wakes i in
      let left = (has.wakes w.stage w.key w.time).0 ((holds.wakes w.stage w.key w.time own).0 i) in
      let first = first_stage w.stage left.1 w.time left.5 in
      let stands = left_stands (subst (λ (j : ℕ). j < q.stages) first own) w.key w.time (subst (λ (j : ℕ). IsLeft q c.time j (stage_records q job.events j) w.key w.time) first left) in
      (stands.0, first, stands.1, stands.2, stands.3)

  pub fits : (text : ℕ → Cell → List ℕ) → StopFits job.until → EventsArePlain job.events → CheckpointFits (format_of number job.values q text) c
  fits text stop plain =
      let f = format_of number job.values q text in
      record {
        time = subst StopFits until stop;
        cells = each (CellStands f c.time) c.cells (cell_stands plain);
        wakes = each (WakeStands f c.time) c.wakes wake_stands;
        cells_ascend = order.cells_ascend;
        wakes_ascend = order.wakes_ascend;
      }
