-- The laws of stops and restarts, over the tables of jobs.
use Rattle.std.proofs.Common.{◌≡◌, ◌++◌, ◌==◌, ◌&&◌, ℕ, suc, ◌<◌, Bool, true, cond, nat_le, nat_lt, not, Option, None, Some, List, refl, sym, ap, ◌∙◌, subst}
use Rattle.std.specs.List.{flat_map}
use Rattle.std.proofs.lemmas.Bool.{and_from, and_parts, le-leb, leb-true}
use Rattle.mp_model.specs.declared.record.Event.{Event}
use Rattle.mp_model.specs.declared.value.Value.{Value}
use Rattle.mp_model.specs.Answers.{in_order, line_of, one_thread_answer}
use Rattle.mp_model.specs.Facts.{JobFacts, QueryFacts, SavedState}
use Rattle.mp_model.specs.Legal.{EventsAreLegal}
use Rattle.mp_model.specs.QueryLaws.{BeginsFresh, LaterStagesPostNothing, PostsAreLater}
use Rattle.mp_model.specs.Stages.{answer_rows}
use Rattle.mp_model.specs.Tables.{counts, opening_cell, opening_wakes, table_of}
use Rattle.mp_model.proofs.Tables.{not_zero}
use Rattle.mp_restart_laws.specs.Laws.{AreTwoJobs, GoesOnFrom, HasTheBeginning}
use Rattle.mp_restart_laws.specs.Saves.{SaysWhatIsLeft}
use Rattle.mp_restart_laws.specs.Times.{is_from, lines_below, outputs_from}
use Rattle.mp_restart_laws.proofs.Lists.{same_answer}
use Rattle.mp_restart_laws.proofs.Resuming.{rows_go_on}
use Rattle.mp_restart_laws.proofs.Rows.{lines_in_parts, rows_of_outputs_below}
use Rattle.mp_restart_laws.proofs.Split.{from_above, from_told}
use Rattle.mp_restart_laws.proofs.Stopping.{cells_are, records_are, rows_are, wakes_are}
use Rattle.mp_restart_laws.proofs.Tables.{KeysCount, from_nothing, is_from_nothing}

-- the key where a test says which times count in stage 0
abbrev counted_key : (ℕ → Bool) → (ℕ → ℕ → Value → Option ℕ) → ℕ → ℕ → Value → Option ℕ
counted_key counts key j t v = cond (j == 0 && not (counts t)) None (key j t v)

later_key : (counts : ℕ → Bool) (key : ℕ → ℕ → Value → Option ℕ) (j t : ℕ) (v : Value) → counted_key counts key (suc j) t v ≡ key (suc j) t v
later_key counts key j t v = ap (λ (b : Bool). cond (b && not (counts t)) None (key (suc j) t v)) (not_zero j)

module _ {Cell : Type 0} (facts : List ℕ → QueryFacts Cell) (job : JobFacts) (begins : BeginsFresh (facts job.values)) (later : PostsAreLater (facts job.values)) (nothing : LaterStagesPostNothing (facts job.values)) (legal : EventsAreLegal job.events) where
  abbrev q : QueryFacts Cell
  q = facts job.values

  abbrev events : List Event
  events = job.events

  -- A job that stops

  module _ (t : ℕ) where
    abbrev stopped : JobFacts
    stopped = record job { until = Some t; from = None }

    keys_stopped : KeysCount (from_nothing q) (table_of facts stopped) (λ u. nat_lt u t)
    keys_stopped = record { first = λ u v. refl; later = λ j u v. later_key (counts stopped) q.key j u v }

    stops : HasTheBeginning (table_of facts stopped) (from_nothing q) events t
    stops =
        let key = (table_of facts stopped).key in
        let rows = rows_are q key t later nothing events legal keys_stopped in
        record {
          records = records_are q key t later nothing events legal keys_stopped;
          rows = rows;
          answer = ap (λ outputs. flat_map line_of (in_order outputs)) rows ∙ ap (flat_map line_of) (rows_of_outputs_below t (answer_rows (from_nothing q) events));
          cells = cells_are q key t later nothing events legal keys_stopped;
          wakes = wakes_are q key t later nothing events legal keys_stopped;
        }

  pub job_stops : (t : ℕ) → job.until ≡ Some t → job.from ≡ None → HasTheBeginning (table_of facts job) q events t
  job_stops t until from =
      let whole = subst (λ (w : QueryFacts Cell). HasTheBeginning (table_of facts (stopped t)) w events t) (is_from_nothing q begins) (stops t) in
      subst (λ (j : JobFacts). HasTheBeginning (table_of facts j) q events t) {x = stopped t} (λ i. record job { until = sym until i; from = sym from i }) whole

  -- A job that goes on

  module _ (some : 0 < (facts job.values).stages) (saved : SavedState) where
    abbrev resumed : JobFacts
    resumed = record job { until = None; from = Some saved }

    counts_from : (u : ℕ) → (nat_le saved.time u && true) ≡ is_from saved.time u
    counts_from u =
        same_answer (nat_le saved.time u && true) (is_from saved.time u)
        (λ e. from_above saved.time u (leb-true saved.time u (and_parts (nat_le saved.time u) true e).0))
        (λ e. and_from (nat_le saved.time u) true (le-leb saved.time u (from_told saved.time u e)) refl)

    keys_resumed : KeysCount (from_nothing q) (table_of facts resumed) (is_from saved.time)
    keys_resumed = record {
      first = λ u v. ap (λ (b : Bool). cond (not b) None (q.key 0 u v)) (counts_from u);
      later = λ j u v. later_key (counts resumed) q.key j u v;
    }

    goes_on : SaysWhatIsLeft (from_nothing q) events saved → answer_rows (table_of facts resumed) events ≡ outputs_from saved.time (answer_rows (from_nothing q) events)
    goes_on says =
        rows_go_on q (table_of facts resumed).key (λ j k. opening_cell q (Some saved) j k) (λ j. opening_wakes (Some saved) j) some later nothing events legal saved.time keys_resumed (record { opens = says.cells; left = says.wakes })

    pub job_goes_on : GoesOnFrom job saved → SaysWhatIsLeft q events saved → answer_rows (table_of facts job) events ≡ outputs_from saved.time (answer_rows q events)
    job_goes_on on says =
        let rest : SaysWhatIsLeft q events saved → answer_rows (table_of facts resumed) events ≡ outputs_from saved.time (answer_rows q events) =
        subst (λ (w : QueryFacts Cell). SaysWhatIsLeft w events saved → answer_rows (table_of facts resumed) events ≡ outputs_from saved.time (answer_rows w events)) (is_from_nothing q begins) goes_on in
        subst (λ (j : JobFacts). answer_rows (table_of facts j) events ≡ outputs_from saved.time (answer_rows q events)) {x = resumed} (λ i. record job { until = sym on.until i; from = sym on.from i }) (rest says)

    pub answer_goes_on : GoesOnFrom job saved → SaysWhatIsLeft q events saved → lines_below q events saved.time ++ one_thread_answer (table_of facts job) events ≡ one_thread_answer q events
    answer_goes_on on says =
        ap (λ outputs. lines_below q events saved.time ++ flat_map line_of (in_order outputs)) (job_goes_on on says) ∙ lines_in_parts saved.time (answer_rows q events)

    -- what a stopped job leaves is what the query leaves
    pub stopped_leaves : HasTheBeginning (table_of facts (stopped saved.time)) q events saved.time → SaysWhatIsLeft (table_of facts (stopped saved.time)) events saved → SaysWhatIsLeft q events saved
    stopped_leaves has says = record {
      cells = λ j k l. says.cells j k l ∙ has.cells j k;
      wakes = λ j k u l. let a = says.wakes j k u l in let b = has.wakes j k u in ((λ i. b.0 (a.0 i)), λ i. a.1 (b.1 i));
    }

    pub two_jobs : (first : JobFacts) → AreTwoJobs first job saved → SaysWhatIsLeft (table_of facts first) first.events saved
        → one_thread_answer (table_of facts first) first.events ++ one_thread_answer (table_of facts job) events ≡ one_thread_answer q events
    two_jobs first are says =
        subst
        (λ (j : JobFacts). SaysWhatIsLeft (table_of facts j) j.events saved → one_thread_answer (table_of facts j) j.events ++ one_thread_answer (table_of facts job) events ≡ one_thread_answer q events)
        {x = early}
        (λ i. record first { values = sym are.values i; events = sym are.events i; until = sym are.until i; from = sym are.from i })
        (λ left.
        let has = subst (λ (w : QueryFacts Cell). HasTheBeginning (table_of facts early) w events saved.time) (is_from_nothing q begins) (stops saved.time) in
        ap (λ lines. lines ++ one_thread_answer (table_of facts job) events) has.answer ∙ answer_goes_on are.goes_on (stopped_leaves has left))
        says
      where
        early : JobFacts
        early = record first { values = job.values; events = job.events; until = Some saved.time; from = None }
