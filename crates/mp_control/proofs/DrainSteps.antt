-- The records of a drain, and the owners that are kept for it.
use Rattle.std.proofs.Common.{◌≡◌, ◌+◌, ◌-◌, ◌*◌, ◌<◌, ◌≤◌, ◌==◌, ◌++◌, ◌||◌, ◌&&◌, ◌∙◌, ℕ, zero, suc, Bool, Option, true, false, Some, List, [], get_or, length, ap, arith, length-append, refl, subst, sym, zero-mul}
use Rattle.std.specs.Prelude.{All, nat_le, nat_lt}
use Rattle.std.specs.List.{list_all, range_with_len, slice_get}
use Rattle.std.proofs.Math.Bool.{and-false}
use Rattle.std.proofs.Math.Nat.{mod-lt}
use Rattle.std.proofs.lemmas.Bool.{and_parts, le-leb, leb-true, lt-leb}
use Rattle.std.proofs.lemmas.Bool.Decides.{nat_tests}
use Rattle.std.proofs.lemmas.List.{map-id}
use Rattle.std.proofs.lemmas.List.Elements.{All-append, All-filter, All-get_or}
use Rattle.std.proofs.lemmas.List.Sums.{list_all-from_AllPass}
use Rattle.std.proofs.Math.ListN.{get_or-append}
use Rattle.mp_bins.proofs.Placing.{noted_with}
use Rattle.mp_bins.specs.declared.owners.Note.{Note}
use Rattle.mp_bins.specs.Laws.{AreNotesOf}
use Rattle.mp_bins.specs.Notes.{Layout, Notes, is_noted, with_note}
use Rattle.mp_control.specs.declared.drains.DrainLine.{DrainLine}
use Rattle.mp_control.specs.declared.list_owners.ListOwners.{ListOwners}
use Rattle.mp_control.specs.Controls.{is_in_time}
use Rattle.mp_control.specs.declared.refused.ControlReason.{ControlReason}
use Rattle.mp_control.specs.declared.refused.ControlReason.TheVariants.{Count, Range}
use Rattle.mp_control.specs.Drains.{AreListOwners, MayBeKept, failures_of_drained, records_by_drain}
use Rattle.mp_control.specs.Read.{refusal_of}
use Rattle.mp_control.proofs.Made.{all_made, one_late, timely_at}
use Rattle.mp_job.specs.Legal.{ControlFits, ControlsFit}
use Rattle.mp_lines.specs.Checks.{check}
use Rattle.mp_lines.proofs.Starts.{empty_parts, passes}
use Rattle.mp_lines.specs.Refusals.{IfBad}
use Rattle.mp_names.specs.Controls.{no_control}
use Rattle.mp_names.specs.declared.controls.Control.{Control}
use Rattle.mp_names.specs.declared.controls.Shape.{Shape}
use Rattle.mp_names.specs.Limits.{greatest_time, most_controls}
use Rattle.mp_plans.proofs.Times.{more_gaps}
use Rattle.mp_plans.specs.declared.refused.PlanRefused.{PlanRefused}
use Rattle.mp_plans.specs.declared.refused.PlanRefused.TheVariants as plan
use Rattle.mp_plans.specs.Refusals.{IsTooMany}
use Rattle.mp_plans.specs.Drains.{bins_of, drained, last_turn, owner_in, spread, worker_of_turn}

-- bins that a worker owns are bins of the shape
bins_below : (owner_of : ℕ → ℕ) (bins worker : ℕ) → All (λ bin. bin < bins) (bins_of owner_of bins worker)
bins_below owner_of bins worker =
    All-filter (λ bin. owner_of bin == worker) (λ bin. bin < bins) (range_with_len 0 bins)
    (subst (All (λ bin. bin < bins)) (map-id (range_with_len 0 bins)) (all_made (λ bin. bin < bins) (λ bin. bin) 0 bins (λ k _ low. omega (arith, low))))

-- a number is this or smaller where it is smaller than the next
lt_more : (i n : ℕ) → (n == i || nat_lt i n) ≡ nat_lt i (n + 1)
lt_more i n = grind (arith, nat_tests)

module _ (shape : Shape) (time gap stage worker : ℕ) (bins : List ℕ) where
  -- the record of a turn
  abbrev record_of : ℕ → Control
  record_of turn = record { time = time + turn * gap; stage = stage; bin = get_or bins turn 0; worker = worker_of_turn shape worker turn }

  -- all are in time where the last one is
  pub all_in_time : last_turn time gap (length bins) ≤ greatest_time → list_all is_in_time (spread shape time gap stage worker bins) ≡ true
  all_in_time last =
      list_all-from_AllPass is_in_time _ (all_made (λ c. is_in_time c ≡ true) record_of 0 (length bins) (λ turn _ low.
      let le = more_gaps time gap turn (length bins - 1) (omega (arith, low)) in le-leb _ _ (omega (arith, le, last))))

  -- and not all where it isn't
  pub last_late : time ≤ greatest_time → greatest_time < last_turn time gap (length bins) → list_all is_in_time (spread shape time gap stage worker bins) ≡ false
  last_late first late = one_late record_of (length bins) (length bins - 1) (some (length bins) late) late
    where
      some : (n : ℕ) → greatest_time < last_turn time gap n → n - 1 < n
      some zero beyond = absurd (omega (arith, beyond, first, zero-mul gap))
      some (suc n) beyond = omega arith

  -- those that are in time are within the limits of the shape
  all_fit : 0 < shape.workers → stage < shape.stages → All (λ bin. bin < shape.bins) bins → list_all is_in_time (spread shape time gap stage worker bins) ≡ true
      → All (ControlFits shape) (spread shape time gap stage worker bins)
  all_fit some low below timely =
      all_made (ControlFits shape) record_of 0 (length bins) (λ turn _ inside. record {
        in_time = leb-true _ _ (timely_at record_of (length bins) turn (omega (arith, inside)) timely);
        within = (mod-lt _ some, All-get_or (λ bin. bin < shape.bins) bins turn 0 (omega (arith, inside)) below, low);
      })

-- no number is smaller than itself
pub lt_itself : (n : ℕ) → nat_lt n n ≡ false
lt_itself n = grind (arith, nat_tests)

-- where the first so many are noted and then the next, one more are
pub one_noted : (ns new : List Note) (note : Note) → ((i : ℕ) → is_noted ns i ≡ nat_lt i note.index) → new ≡ with_note ns note → (i : ℕ) → is_noted new i ≡ nat_lt i (note.index + 1)
one_noted ns new note before grew i =
    ap (λ l. is_noted l i) grew ∙ noted_with ns note i ∙ ap (λ b. note.index == i || b) (before i) ∙ lt_more i note.index

-- notes of a list are notes of a longer one
notes_of_more : (controls more : List Control) (notes : Notes) → AreNotesOf controls notes → AreNotesOf (controls ++ more) notes
notes_of_more controls more notes are = record {
  in_order = are.in_order;
  each = λ k d low.
      let is = are.each k d low in (omega (arith, is.0, length-append controls more), get_or-append controls more no_control (get_or notes.noted k d).index is.0 ∙ is.1);
}

-- owners by the first so many of a list are so of a longer one
pub kept_longer : (layout : Layout) (controls more : List Control) (kept : ListOwners) → AreListOwners layout controls kept → AreListOwners layout (controls ++ more) kept
kept_longer layout controls more kept are = record {
  of_layout = are.of_layout;
  notes = notes_of_more controls more kept.owners are.notes;
  noted = are.noted;
  listed = omega (arith, length-append controls more, are.listed);
}

module _ (shape : Shape) (before : ℕ) (records : List Control) where
  -- records fail no check where there is another worker, none is too late and there are not too many
  pub passes_drained : 2 ≤ shape.workers → list_all is_in_time records ≡ true → before + length records ≤ most_controls → failures_of_drained shape before records ≡ []
  passes_drained others timely few = rw (le-leb _ _ others, timely, le-leb _ _ few) refl

  -- where there is no other worker, or one is too late, they fail that check
  pub fails_alone : shape.workers < 2 → slice_get (failures_of_drained shape before records) 0 ≡ Some Range
  fails_alone alone = rw (lt-leb _ _ alone) refl

  pub fails_late : list_all is_in_time records ≡ false → slice_get (failures_of_drained shape before records) 0 ≡ Some Range
  fails_late late = rw (late, and-false (nat_le 2 shape.workers)) refl

  -- where only the number is wrong, they fail that check
  pub fails_count : 2 ≤ shape.workers → list_all is_in_time records ≡ true → most_controls < before + length records → slice_get (failures_of_drained shape before records) 0 ≡ Some Count
  fails_count others timely many = rw (le-leb _ _ others, timely, lt-leb _ _ many) refl

-- and so they are kept
pub may_be_kept_longer : (layout : Layout) (controls more new : List Control) (late : Bool) (kept : Option ListOwners) → MayBeKept layout controls late kept → new ≡ controls ++ more
    → MayBeKept layout new true kept
may_be_kept_longer layout controls more new late kept may is owners e =
    (refl, subst (λ cs. AreListOwners layout cs owners) (sym is) (kept_longer layout controls more owners (may owners e).1))

-- with records that fail no check, control records still fit
pub with_drained : (layout : Layout) (controls : List Control) (drain : DrainLine) → 0 < layout.shape.workers → drain.stage < layout.shape.stages → ControlsFit layout.shape controls
    → failures_of_drained layout.shape (length controls) (records_by_drain layout controls drain) ≡ [] → ControlsFit layout.shape (controls ++ records_by_drain layout controls drain)
with_drained layout controls drain some low fit e =
    let its = bins_of (owner_in layout controls drain.stage drain.time) layout.shape.bins drain.worker in
    let records = records_by_drain layout controls drain in
    let parts = empty_parts (check (nat_le 2 layout.shape.workers && list_all is_in_time records) Range) (check (nat_le (length controls + length records) most_controls) Count) e in
    let timely = (and_parts (nat_le 2 layout.shape.workers) (list_all is_in_time records) (passes _ Range parts.0)).1 in
    let few : length controls + length records ≤ most_controls = leb-true _ _ (passes _ Count parts.1) in record {
      few = omega (arith, few, length-append controls records);
      each = All-append (ControlFits layout.shape) controls records fit.each
          (all_fit layout.shape drain.time drain.gap drain.stage drain.worker its some low (bins_below (owner_in layout controls drain.stage drain.time) layout.shape.bins drain.worker) timely);
    }

-- a plan that is refused for the number of records is refused for that check
pub bad_count : (failures : List ControlReason) (count : ℕ) (refused : PlanRefused) → IsTooMany count refused → (most_controls < count → slice_get failures 0 ≡ Some Count)
    → IfBad (refusal_of refused) (λ why. slice_get failures 0 ≡ Some why)
bad_count failures count (plan.TooMany n) many fails = fails many.1
bad_count failures count plan.NoMemory many fails = tt

-- of a drain by a list, whose bins are these
module _ (layout : Layout) (shape : Shape) (controls : List Control) (drain : DrainLine) (its : List ℕ) (of_shape : layout.shape ≡ shape)
    (told : its ≡ bins_of (owner_in layout controls drain.stage drain.time) shape.bins drain.worker) where
  -- its records
  abbrev records : List Control
  records = records_by_drain layout controls drain

  same_shape : drained (owner_in layout controls drain.stage drain.time) shape drain.time drain.gap drain.stage drain.worker ≡ records
  same_shape =
      ap (λ (s : Shape). drained (owner_in layout controls drain.stage drain.time) s drain.time drain.gap drain.stage drain.worker) (sym of_shape)

  its_records : spread shape drain.time drain.gap drain.stage drain.worker its ≡ records
  its_records = ap (spread shape drain.time drain.gap drain.stage drain.worker) told ∙ same_shape

  its_in_time : last_turn drain.time drain.gap (length its) ≤ greatest_time → list_all is_in_time records ≡ true
  its_in_time last = ap (list_all is_in_time) (sym its_records) ∙ all_in_time shape drain.time drain.gap drain.stage drain.worker its last

  -- the last one is too late
  pub drain_late : drain.time ≤ greatest_time → greatest_time < last_turn drain.time drain.gap (length its) → slice_get (failures_of_drained shape (length controls) records) 0 ≡ Some Range
  drain_late first late =
      fails_late shape (length controls) records (ap (list_all is_in_time) (sym its_records) ∙ last_late shape drain.time drain.gap drain.stage drain.worker its first late)

  module _ (others : 2 ≤ shape.workers) (last : last_turn drain.time drain.gap (length its) ≤ greatest_time) where
    -- the records are appended
    pub drain_passes : (new : List Control) → new ≡ controls ++ drained (owner_in layout controls drain.stage drain.time) shape drain.time drain.gap drain.stage drain.worker
        → length new ≤ most_controls → (failures_of_drained shape (length controls) records ≡ []) × (new ≡ controls ++ records)
    drain_passes new appended few =
        let is = appended ∙ ap (λ rs. controls ++ rs) same_shape in
        let count = ap (λ (l : List Control). length l) is in
        (passes_drained shape (length controls) records others (its_in_time last) (omega (arith, count, few, length-append controls records)), is)

    -- or there are too many
    pub drain_refused : (refused : PlanRefused) → IsTooMany (length (controls ++ drained (owner_in layout controls drain.stage drain.time) shape drain.time drain.gap drain.stage drain.worker)) refused
        → IfBad (refusal_of refused) (λ why. slice_get (failures_of_drained shape (length controls) records) 0 ≡ Some why)
    drain_refused refused many =
        bad_count (failures_of_drained shape (length controls) records) _ refused many
        (λ beyond. fails_count shape (length controls) records others (its_in_time last)
        (omega (arith, beyond, ap (λ (rs : List Control). length (controls ++ rs)) same_shape, length-append controls records)))
