-- Once no row of a time can come any more, the rows of that time are all that the answer has.
use Rattle.std.proofs.Common.{◌≡◌, ◌⊎◌, ℕ, ◌-◌, ◌<◌, ◌==◌, false, List, [], ◌∷◌, All, map, Contains, refl, sym, ap, ◌∙◌, subst, inl, inr, ⊎_elim, arith}
use Rattle.std.proofs.lemmas.Bool.{both_ways, cases_order, eq-eqb, eqb-true}
use Rattle.std.proofs.lemmas.List.Elements.{All-contains}
use Rattle.mp_names.specs.declared.locations.Frontier.{Frontier}
use Rattle.mp_names.specs.declared.locations.Loc.TheVariants.{OutMail}
use Rattle.mp_names.specs.declared.names.Name.{Name}
use Rattle.mp_names.specs.declared.names.Name.TheVariants.{Row, Written}
use Rattle.mp_names.specs.declared.names.Tag.{Tag}
use Rattle.mp_names.specs.Frontiers.{IsClosedForOne}
use Rattle.mp_names.specs.Locations.{stays}
use Rattle.mp_names.specs.Logs.{Log}
use Rattle.mp_names.specs.Names.{Distinct, In, has, is_before}
use Rattle.mp_names.proofs.Lists.{same_tag}
use Rattle.mp_names.proofs.Orders.{is_before-from}
use Rattle.mp_model.specs.declared.record.Output.{Output}
use Rattle.mp_model.specs.Facts.{JobFacts, QueryFacts}
use Rattle.mp_model.specs.Stages.{answer_rows, stage_records}
use Rattle.mp_msg.specs.Below.{Contains-filter, filter-Contains}
use Rattle.mp_msg.specs.Below.{name_of_row, outline_of}
use Rattle.mp_msg.specs.Below.{OutputsInOrder, TagIsBefore}
use Rattle.mp_msg.specs.Below.{In_named, named_In}
use Rattle.mp_msg.specs.Below.{stage_outputs_in_order}
use Rattle.mp_msg.specs.Below.{Pairs, Pairs-filter, Pairs-within}
use Rattle.mp_ordered.specs.InOrder.{IsInOrder}
use Rattle.mp_ordered.proofs.Placing.{pairs_head, pairs_tail}
use Rattle.mp_msg.proofs.Telling.{same_output}
use Rattle.mp_msg.proofs.Ordered.{same_ordered}
use Rattle.mp_output.specs.Holding.{HoldsUnwritten, answer_at}
use Rattle.mp_output.specs.Unwritten.{IsDue, lines_of, place_rank, rows_at}
use Rattle.mp_output.proofs.AnswerLines.{lines_at}
use Rattle.mp_output.proofs.Held.{same_row_tag, same_time}
use Rattle.mp_output.proofs.Times.{NotAfter}
use Rattle.mp_output.proofs.Writing.{due_unwritten}

-- The rows in the order of their tags

-- of two rows of one time, with two names, the first has the lesser tag
in_order : (x y : Output) → NotAfter x y → (name_of_row x ≡ name_of_row y → ⊥) → OutputsInOrder x y
in_order x y h other same =
    ⊎_elim
    (λ (e : x.tag.0 ≡ y.tag.0).
    ⊎_elim
    (λ (f : x.tag.1 ≡ y.tag.1). absurd (other (ap (λ (t : ℕ). Row t x.tag) same ∙ ap (λ (g : Tag). Row y.time g) (same_tag x.tag y.tag e f))))
    (λ (f : (x.tag.1 < y.tag.1) ⊎ (y.tag.1 < x.tag.1)). ⊎_elim (λ (l : x.tag.1 < y.tag.1). inr (e, l)) (λ (l : y.tag.1 < x.tag.1). absurd (both_ways (is_before (place_rank y) (place_rank x)) h (is_before-from (place_rank y) (place_rank x) (inr (sym same, inr (sym e, inl l)))))) f)
    (cases_order x.tag.1 y.tag.1))
    (λ (e : (x.tag.0 < y.tag.0) ⊎ (y.tag.0 < x.tag.0)). ⊎_elim (λ (l : x.tag.0 < y.tag.0). inl l) (λ (l : y.tag.0 < x.tag.0). absurd (both_ways (is_before (place_rank y) (place_rank x)) h (is_before-from (place_rank y) (place_rank x) (inr (sym same, inl l))))) e)
    (cases_order x.tag.0 y.tag.0)

rows_in_order : (rows : List Output) → IsInOrder place_rank rows → Distinct (map name_of_row rows) → Pairs OutputsInOrder rows
rows_in_order [] h d = tt
rows_in_order (x ∷ xs) h d = (
  (λ y i. in_order x y (All-contains (NotAfter x) xs y (pairs_head NotAfter x xs h) i) (λ e. both_ways (has (map name_of_row xs) (name_of_row x)) d.0 (subst (λ (n : Name). In n (map name_of_row xs)) (sym e) (named_In name_of_row xs y i)))),
  rows_in_order xs (pairs_tail NotAfter x xs h) d.1,
)

abbrev TagsInOrder : Output → Output → Type 0
TagsInOrder x y = TagIsBefore x.tag y.tag

tags_one_way : (x y : Output) → TagsInOrder x y → TagsInOrder y x → ⊥
tags_one_way x y h k =
    ⊎_elim
    (λ (l : x.tag.0 < y.tag.0). ⊎_elim (λ (m : y.tag.0 < x.tag.0). omega arith) (λ (m : (y.tag.0 ≡ x.tag.0) × (y.tag.1 < x.tag.1)). let e : y.tag.0 ≡ x.tag.0 = m.0 in omega arith) k)
    (λ (l : (x.tag.0 ≡ y.tag.0) × (x.tag.1 < y.tag.1)). let e : x.tag.0 ≡ y.tag.0 = l.0 in let f : x.tag.1 < y.tag.1 = l.1 in ⊎_elim (λ (m : y.tag.0 < x.tag.0). omega arith) (λ (m : (y.tag.0 ≡ x.tag.0) × (y.tag.1 < x.tag.1)). let n : y.tag.1 < x.tag.1 = m.1 in omega arith) k)
    h

of_time : (t : ℕ) (rows : List Output) (x : Output) → Contains (rows_at t rows) x → Contains rows x × (x.time ≡ t)
of_time t rows x i = let a = Contains-filter (λ (row : Output). row.time == t) rows x i in (a.0, eqb-true x.time t a.1)

at_time : (t : ℕ) (rows : List Output) (x : Output) → Contains rows x → x.time ≡ t → Contains (rows_at t rows) x
at_time t rows x i e = filter-Contains (λ (row : Output). row.time == t) rows x i (eq-eqb x.time t e)

-- the rows of one time stand in the order of their tags
time_in_order : (t : ℕ) (rows : List Output) → Pairs OutputsInOrder rows → Pairs TagsInOrder (rows_at t rows)
time_in_order t rows h =
    Pairs-within
    OutputsInOrder
    TagsInOrder
    (rows_at t rows)
    (λ x y i j o. o ((of_time t rows x i).1 ∙ sym (of_time t rows y j).1))
    (Pairs-filter OutputsInOrder (λ row. row.time == t) rows h)

module _ {Cell : Type 0} (q : QueryFacts Cell) (job : JobFacts) where
  answer_in_order : Pairs OutputsInOrder (answer_rows q job.events)
  answer_in_order = stage_outputs_in_order q (q.stages - 1) (stage_records q job.events (q.stages - 1))

  -- each row of the answer of a time that is held, and of which no more can come, is held
  all_held : (log : Log) (rows : List Output) (t : ℕ) → All (Contains (answer_rows q job.events)) rows → HoldsUnwritten log rows → IsClosedForOne (outline_of q job) 0 log OutMail t → has log.settled (Written t) ≡ false → (x : Output) → Contains (rows_at t (answer_rows q job.events)) x → Contains (rows_at t rows) x
  all_held log rows t ours h closed unwritten x i =
      let a = of_time t (answer_rows q job.events) x i in
      let owed = named_In name_of_row (answer_rows q job.events) x a.0 in
      let took = closed OutMail t stays (omega arith) (name_of_row x) (owed, refl) refl a.1 in
      let timed = subst (λ (s : ℕ). In (Row s x.tag) log.took) a.1 took in
      let b = In_named name_of_row rows (Row t x.tag) ((h.held t x.tag).1 (timed, unwritten)) in
      let time = same_time b.0 t x.tag b.2 in
      let one = same_output q job b.0 x (All-contains (Contains (answer_rows q job.events)) rows b.0 ours b.1) a.0 (time ∙ sym a.1) (same_row_tag b.0 t x.tag b.2) in
      subst (Contains (rows_at t rows)) one (at_time t rows b.0 b.1 time)

  pub time_is_whole : (log : Log) (f : Frontier) (rows : List Output) (t : ℕ) → IsInOrder place_rank rows → All (Contains (answer_rows q job.events)) rows → IsDue f rows t → HoldsUnwritten log rows → IsClosedForOne (outline_of q job) 0 log OutMail t → lines_of (rows_at t rows) ≡ answer_at q job.events t
  time_is_whole log f rows t o ours due h closed =
      let answer = answer_rows q job.events in
      let unwritten = due_unwritten log f rows t due h in
      let same =
      same_ordered
      TagsInOrder
      tags_one_way
      (rows_at t rows)
      (rows_at t answer)
      (time_in_order t rows (rows_in_order rows o h.once))
      (time_in_order t answer answer_in_order)
      (λ x i. let a = of_time t rows x i in at_time t answer x (All-contains (Contains answer) rows x ours a.0) a.1)
      (all_held log rows t ours h closed unwritten) in
      ap lines_of same ∙ sym (lines_at t answer answer_in_order)
