-- The table of a query in a job: it keeps to the job's times and to what the job goes on from, and that of a job that is whole is the query's own.
use Rattle.std.proofs.Common.{◌≡◌, ℕ, ◌<◌, ◌≤◌, ◌==◌, ◌&&◌, not, Bool, true, false, cond, Option, None, Some, List, [], ◌∷◌, All, filter, length, map, refl, ap, subst, rules}
use Rattle.std.proofs.lemmas.Bool.{eq-eqb}
use Rattle.std.proofs.lemmas.List.Elements.{All-head, All-map, All-tail, All-weaker}
use Rattle.std.proofs.lemmas.Option.{none-some}
use Rattle.mp_names.specs.declared.controls.Control.{Control}
use Rattle.mp_names.specs.declared.controls.First.{First}
use Rattle.mp_names.specs.declared.controls.Shape.{Shape}
use Rattle.mp_names.specs.Limits.{greatest_id, last_time, most_bytes}
use Rattle.mp_names.specs.Outlines.{is_before_stop}
use Rattle.mp_model.specs.declared.record.Event.{Event}
use Rattle.mp_model.specs.Facts.{JobFacts, QueryFacts, SavedCell, SavedState, SavedWake}
use Rattle.mp_model.specs.QueryLaws.{BeginsFresh, CellIsBefore, SavedFits, SavedStands, TextsTellCells}
use Rattle.mp_model.specs.Tables.{cell_among, counts, is_after_saved, opening_cell, table_of}
use Rattle.mp_model.specs.Legal.{EventsAreLegal}
use Rattle.mp_job.specs.Legal.{ControlsFit, FirstsFit, JobIsLegal, KeepsToJob, ShapeIsLegal, StopFits}
use Rattle.mp_opening.specs.declared.checkpoint.KeyCell.{KeyCell}
use Rattle.mp_opening.specs.Checkpoints.{CheckpointOf, saved_in}
use Rattle.mp_opening.specs.Openings.{CellMayOpen, MayOpen, OpeningOf, WakeMayOpen}
use Rattle.mp_job.specs.Parts.{OpeningFits, job_in, job_of, saved_of, table_in}
use Rattle.mp_job.specs.Times.{opening_times, wake_times}
use Rattle.mp_job.proofs.Pairs.{AllPairs-map}

kept_key : (kept : Bool) (key : Option ℕ) (k : ℕ) → cond (not kept) None key ≡ Some k → kept ≡ true
kept_key true key k h = refl
kept_key false key k h = absurd (none-some k h)

module _ {Cell : Type 0} (facts : List ℕ → QueryFacts Cell) (job : JobFacts) where
  among_same : (cs : List SavedCell) (j k : ℕ) → cell_among (facts job.values) cs j k ≡ cell_among (table_of facts job) cs j k
  among_same [] j k = refl
  among_same (c ∷ cs) j k = ap (λ (x : Cell). cond (c.stage == j && c.key == k) ((facts job.values).cell_of j c.text) x) (among_same cs j k)

  -- which cells are saved, the table says as the query does
  cells_same : (from : Option SavedState) (j k : ℕ) → opening_cell (facts job.values) from j k ≡ opening_cell (table_of facts job) from j k
  cells_same None j k = refl
  cells_same (Some saved) j k = among_same saved.cells j k

  -- the table of every query in a job is one of the job's
  pub tables_keep : KeepsToJob (table_of facts job) job
  tables_keep = record {
    keys = λ t v k h. kept_key (counts job t) ((facts job.values).key 0 t v) k h;
    gives = λ j cell e h. ap (λ (b : Bool). cond b ((facts job.values).gives j cell e) []) h;
    opening = λ j k. cells_same job.from j k;
    waking = λ j. refl;
  }

  -- a saved state that fits the table fits the query
  pub saved_fits : (from : Option SavedState) → SavedFits (table_of facts job) from → SavedFits (facts job.values) from
  saved_fits None fits = tt
  saved_fits (Some saved) fits = record {
    time = fits.time;
    cells = fits.cells;
    cells_within = fits.cells_within;
    cells_ascend = fits.cells_ascend;
    first = fits.first;
    wakes_within = fits.wakes_within;
    wakes_ascend = fits.wakes_ascend;
    late = fits.late;
    in_time = fits.in_time;
    few = fits.few;
  }

-- the job has no stop time and no saved state, and the query begins with fresh cells and no wakes
pub whole_table : {Cell : Type 0} (facts : List ℕ → QueryFacts Cell) (vs : List ℕ) (events : List Event) (controls : List Control) (shape : Shape) (firsts : List First)
    → BeginsFresh (facts vs) → table_of facts (job_of vs events controls shape firsts) ≡ facts vs
whole_table facts vs events controls shape firsts fresh = search rules

-- a checkpoint may be gone on from by any table with these stages and these cells that may be saved
module _ {Cell : Type 0} (q r : QueryFacts Cell) (c : CheckpointOf Cell) (stages : q.stages ≡ r.stages) (allows : q.allows ≡ r.allows) where
  may_too : (s : KeyCell Cell) → CellMayOpen q c.time s → CellMayOpen r c.time s
  may_too s h = record {
    stage = subst (λ (n : ℕ). s.stage < n) stages h.stage;
    key = h.key;
    allowed = subst (λ (a : ℕ → ℕ → ℕ → Cell → Bool). a s.stage s.key c.time s.cell ≡ true) allows h.allowed;
  }

  pub may_as : MayOpen q c → MayOpen r c
  may_as may = record {
    time = may.time;
    cells = All-weaker (CellMayOpen q c.time) (CellMayOpen r c.time) may_too c.cells may.cells;
    cells_ascend = may.cells_ascend;
    wakes = may.wakes;
    wakes_ascend = may.wakes_ascend;
  }

-- so by the query's table in a job, where it may be by the query's own
pub opens_as : {Cell : Type 0} (facts : List ℕ → QueryFacts Cell) (text : ℕ → Cell → List ℕ) (vs : List ℕ) (stop : Option ℕ) (bins : ℕ) (opening : Option (OpeningOf Cell))
    → OpeningFits (facts vs) bins opening → OpeningFits (table_in facts text vs stop opening) bins opening
opens_as facts text vs stop bins None fits = tt
opens_as facts text vs stop bins (Some o) fits = (may_as (facts vs) (table_in facts text vs stop (Some o)) o.from refl refl fits.0, fits.1, fits.2)

module _ {Cell : Type 0} (facts : List ℕ → QueryFacts Cell) (text : ℕ → Cell → List ℕ) (vs : List ℕ) (tells : TextsTellCells text (facts vs)) (stop : Option ℕ) where
  abbrev as_saved : KeyCell Cell → SavedCell
  as_saved s = record { stage = s.stage; key = s.key; text = text s.stage s.cell }

  abbrev MayStand : ℕ → SavedCell → Type 0
  MayStand t c = (facts vs).allows c.stage c.key t ((facts vs).cell_of c.stage c.text) ≡ true

  abbrev IsWithin : SavedCell → Type 0
  IsWithin c = (c.stage < (facts vs).stages) × (c.key ≤ greatest_id)

  -- the cell that a text says may be saved, since it is the cell with this text
  may_stand : (t : ℕ) (s : KeyCell Cell) → CellMayOpen (facts vs) t s → MayStand t (as_saved s)
  may_stand t s h = rw (tells s.stage s.key t s.cell h.allowed) h.allowed

  -- what a checkpoint says stands where a job may go on from the checkpoint
  stands : (opening : Option (OpeningOf Cell)) (c : CheckpointOf Cell) → MayOpen (facts vs) c → length c.wakes ≤ most_bytes → SavedStands (table_in facts text vs stop opening) (saved_in text c)
  stands opening c may few =
      let cells = may.cells in
      let wakes = may.wakes in
      let t = c.time in
      record {
        time = may.time;
        cells = All-map (MayStand t) as_saved c.cells (All-weaker (CellMayOpen (facts vs) t) (λ s. MayStand t (as_saved s)) (may_stand t) c.cells cells);
        cells_within = All-map IsWithin as_saved c.cells (All-weaker (CellMayOpen (facts vs) t) (λ s. IsWithin (as_saved s)) (λ s h. (h.stage, h.key)) c.cells cells);
        cells_ascend = AllPairs-map CellIsBefore as_saved c.cells may.cells_ascend;
        first = All-weaker (WakeMayOpen t) (λ w. w.stage ≡ 0) (λ w h. h.first) c.wakes wakes;
        wakes_within = All-weaker (WakeMayOpen t) (λ w. w.key ≤ greatest_id) (λ w h. h.key) c.wakes wakes;
        wakes_ascend = may.wakes_ascend;
        late = All-weaker (WakeMayOpen t) (λ w. t ≤ w.time) (λ w h. h.late) c.wakes wakes;
        in_time = All-weaker (WakeMayOpen t) (λ w. w.time ≤ last_time) (λ w h. h.in_time) c.wakes wakes;
        few = few;
      }

  pub fits_as_saved : (bins : ℕ) (opening : Option (OpeningOf Cell)) → OpeningFits (facts vs) bins opening → SavedFits (table_in facts text vs stop opening) (saved_of text opening)
  fits_as_saved bins None fits = tt
  fits_as_saved bins (Some o) fits = stands (Some o) o.from fits.0 fits.2

  -- the times of its wakes are those that the first stage begins with
  pub times_opened : (bins : ℕ) (opening : Option (OpeningOf Cell)) → OpeningFits (facts vs) bins opening → wake_times (table_in facts text vs stop opening) ≡ opening_times opening
  times_opened bins None fits = refl
  times_opened bins (Some o) fits = first_times o.from.wakes (All-weaker (WakeMayOpen o.from.time) (λ w. w.stage ≡ 0) (λ w h. h.first) o.from.wakes fits.0.wakes)
    where
      first_times : (ws : List SavedWake) → All (λ (w : SavedWake). w.stage ≡ 0) ws
          → map (λ (p : ℕ × ℕ). p.0) (map (λ (w : SavedWake). (w.time, w.key)) (filter (λ (w : SavedWake). w.stage == 0) ws)) ≡ map (λ (w : SavedWake). w.time) ws
      first_times [] h = refl
      first_times (w ∷ ws) h =
          let e : (w.stage == 0) ≡ true = eq-eqb w.stage 0 (All-head (λ (v : SavedWake). v.stage ≡ 0) w ws h) in
          rw e (ap (λ (ts : List ℕ). w.time ∷ ts) (first_times ws (All-tail (λ (v : SavedWake). v.stage ≡ 0) w ws h)))

  -- parts within their limits, with control records of times that count, make a legal job
  pub parts_are_legal : (events : List Event) (controls : List Control) (shape : Shape) (firsts : List First) (opening : Option (OpeningOf Cell))
      → ShapeIsLegal shape → shape.stages ≡ (facts vs).stages → EventsAreLegal events → ControlsFit shape controls → FirstsFit shape firsts → StopFits stop
      → OpeningFits (facts vs) shape.bins opening
      → All (λ c. (is_after_saved (saved_of text opening) c.time && is_before_stop stop c.time) ≡ true) controls
      → JobIsLegal (table_in facts text vs stop opening) (job_in vs events controls shape firsts stop (saved_of text opening))
  parts_are_legal events controls shape firsts opening shapes stages legal fit first stops opens count = record {
    shape = shapes;
    stages = stages;
    table = tables_keep facts (job_in vs events controls shape firsts stop (saved_of text opening));
    events = legal;
    controls = fit;
    firsts = first;
    controls_count = count;
    stop = stops;
    saved = fits_as_saved shape.bins opening opens;
  }
