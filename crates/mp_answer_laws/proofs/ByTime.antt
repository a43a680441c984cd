-- The one-thread answer is made of the lines of each of its times, one time after the other.
use Rattle.std.proofs.Common.{◌≡◌, ◌⊎◌, ℕ, ◌<◌, ◌≤◌, false, List, [], ◌∷◌, flat_map, fold, Contains, refl, sym, ap, ⊎_elim, arith}
use Rattle.std.specs.declared.cmp.Ordering.{Ordering}
use Rattle.std.specs.declared.cmp.Ordering.TheVariants as answers
use Rattle.mp_names.specs.declared.names.Name.{Name}
use Rattle.mp_names.specs.declared.names.Name.TheVariants.{Written}
use Rattle.mp_names.specs.Names.{In, Less}
use Rattle.mp_names.specs.Outlines.{answer_times}
use Rattle.mp_names.proofs.Listed.{answer_time_In, answer_times_ascend}
use Rattle.mp_model.specs.declared.record.Output.{Output}
use Rattle.mp_model.specs.declared.record.Place.{Place}
use Rattle.mp_model.specs.declared.value.Value.{Value}
use Rattle.mp_model.specs.Answers.{in_order, line_of, one_thread_answer, with_row}
use Rattle.mp_model.specs.Facts.{JobFacts, QueryFacts}
use Rattle.mp_model.specs.Stages.{answer_rows}
use Rattle.mp_job.proofs.Members.{nothing_in_nil, Contains-here, Contains-later}
use Rattle.mp_outline.specs.JobOutline.{name_of_row, outline_of}
use Rattle.mp_outline.proofs.Named.{named_In}
use Rattle.mp_output.specs.Unwritten.{place_of}
use Rattle.mp_output.proofs.ByTime.{IsByTime, Rows, put_by_time, put_places}
use Rattle.mp_answer_laws.specs.Lines.{lines_of_time}
use Rattle.mp_answer_laws.proofs.ByName.{StandByName, by_names, filter_none, of_name}

all_by_time : (outputs : List Output) (es : Rows) → IsByTime es → IsByTime (fold with_row es outputs)
all_by_time [] es h = h
all_by_time (o ∷ os) es h = all_by_time os (with_row es o) (put_by_time (place_of o) o.value es h)

-- what is true of the place of each output is true of the places of all rows
all_placed : (P : Place → Type 0) (outputs : List Output) (es : Rows) → ((e : Place × Value) → Contains es e → P e.0) → ((o : Output) → Contains outputs o → P (place_of o)) → (e : Place × Value) → Contains (fold with_row es outputs) e → P e.0
all_placed P [] es a h = a
all_placed P (o ∷ os) es a h =
    all_placed P os (with_row es o) (put_places P (place_of o) o.value es (h o (Contains-here o os)) a) (λ p i. h p (Contains-later o p os i))

-- a row's time, as the name of a written time
abbrev time_name : Place × Value → Name
time_name e = Written e.0.time

not_before : (s t : ℕ) → s ≤ t → Less (Written t) (Written s) → ⊥
not_before s t l h =
    ⊎_elim
    (λ (a : 6 < 6). omega arith)
    (λ (a : (6 ≡ 6) × ((t < s) ⊎ ((t ≡ s) × ⊥))). ⊎_elim (λ (b : t < s). omega arith) (λ (b : (t ≡ s) × ⊥). b.1) a.1)
    h

stand_by_name : (es : Rows) → IsByTime es → StandByName time_name es
stand_by_name [] h = tt
stand_by_name (d ∷ es) h = ((λ e i. not_before d.0.time e.0.time (h.0 e i)), stand_by_name es h.1)

module _ {Cell : Type 0} (q : QueryFacts Cell) (job : JobFacts) where
  -- the lines of a time are those of its rows, and no other name has any
  lines_of_name : (n : Name) → lines_of_time q job.events n ≡ flat_map line_of (of_name time_name n (in_order (answer_rows q job.events)))
  lines_of_name (Written t) = refl
  lines_of_name n = ap (flat_map line_of) (sym (filter_none (λ (e : Place × Value). false) (in_order (answer_rows q job.events)) (λ e i. refl)))

  -- the time of each row is one of the outline's
  rows_named : (e : Place × Value) → Contains (in_order (answer_rows q job.events)) e → In (time_name e) (answer_times (outline_of q job))
  rows_named e i =
      let outputs = answer_rows q job.events in
      let o = outline_of q job in
      all_placed (λ p. In (Written p.time) (answer_times o)) outputs [] (λ f k. absurd (nothing_in_nil f k)) (λ row j. answer_time_In o row.time row.tag (named_In name_of_row outputs row j)) e i

  pub answer_by_times : flat_map (lines_of_time q job.events) (answer_times (outline_of q job)) ≡ one_thread_answer q job.events
  answer_by_times =
      by_names
      time_name
      line_of
      (lines_of_time q job.events)
      (answer_times (outline_of q job))
      (in_order (answer_rows q job.events))
      (answer_times_ascend (outline_of q job))
      (stand_by_name (in_order (answer_rows q job.events)) (all_by_time (answer_rows q job.events) [] tt))
      rows_named
      (λ n i. lines_of_name n)
