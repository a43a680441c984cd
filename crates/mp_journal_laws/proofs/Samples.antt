-- The sample journals.
use Rattle.std.proofs.Common.{◌≡◌, ℕ, zero, suc, ◌<◌, ◌==◌, true, false, List, [], ◌∷◌, map, filter, refl, sym, ap, ◌∙◌, subst, ⊎_elim, arith}
use Rattle.std.proofs.lemmas.Bool.{false≢true, cases_Bool, cases_eq, ne_eqb, cond-true, cond-false}
use Rattle.mp_names.specs.declared.names.Name.{Name}
use Rattle.mp_names.specs.declared.names.Name.TheVariants.{Rec, Row, Group, Written}
use Rattle.mp_names.specs.declared.names.Tag.{Tag}
use Rattle.mp_names.specs.declared.locations.Loc.{Loc}
use Rattle.mp_names.specs.declared.locations.Loc.TheVariants.{OutMail}
use Rattle.mp_names.specs.declared.locations.Frontier.{Frontier}
use Rattle.mp_names.specs.declared.locations.Frontier.TheVariants.{Done}
use Rattle.mp_names.specs.Names.{In, Distinct, is_rec, is_row, ascending}
use Rattle.mp_names.specs.Outlines.{OutlineIsSound, owner_before, packets_of, groups_of, control_times, answer_times, owed_names}
use Rattle.mp_names.specs.Logs.{Log, LogsAreLegal}
use Rattle.mp_names.specs.Frontiers.{IsFrontier, frontier_of, IsClosed}
use Rattle.mp_names.specs.Samples.{tag}
use Rattle.mp_names.proofs.Lists.{In_cases}
use Rattle.mp_names.proofs.NameParts.{key_in}
use Rattle.mp_names.proofs.Reach.{reach_on}
use Rattle.mp_names.proofs.Exact.{closed_from_passed, passed_from_closed, done_from_passed}
use Rattle.mp_names.proofs.Exists.{frontier_is}
use Rattle.mp_machine.specs.Worlds.{World, posted_logs, start_of_machine}
use Rattle.mp_machine.specs.Runs.{turn_of_machine, step_of_machine, run_of_machine}
use Rattle.mp_machine.proofs.Feeders.{to_the_end}
use Rattle.mp_machine.proofs.Worlds.{run_right}
use Rattle.mp_names.specs.declared.kinds.Kept.{Kept}
use Rattle.mp_journal_laws.specs.Journals.{steps_of, places_of}
use Rattle.mp_journal_laws.specs.Merges.{IsMade, AreMade, end_of}
use Rattle.mp_journal_laws.specs.Searches.{MayBeTaken, left_behind, MayBeTakenInTurn, left_after}
use Rattle.mp_journal_laws.specs.Samples.{one_record, one_bid, step, exchange, of_worker_0, recorded, without_exchange, with_other_version, IsLegal}
use Rattle.mp_journal_laws.proofs.Versions.{cons_same, not_empty}
use Rattle.mp_journal_laws.proofs.Searches.{no_run}
use Rattle.mp_machine.specs.Steps.{rest_of}
use Rattle.mp_machine.proofs.Puts.{put_other}
use Rattle.mp_names.specs.declared.kinds.Kind.TheVariants.{Ingest, Route, Receive, Apply, SendRow, Write}

-- the outline is sound

first_bid : Name
first_bid = Rec 0 5 7 (tag 0 0)

none : (P : Name → Type 0) (x : Name) → In x [] → P x
none P x h = absurd (false≢true h)

only : (P : Name → Type 0) (y : Name) → P y → (x : Name) → In x (y ∷ []) → P x
only P y p x i = ⊎_elim (λ (e : y ≡ x). subst P e p) (λ (j : In x []). none P x j) (In_cases x y [] i)

records_are : (j : ℕ) (x : Name) → In x (one_record j) → (j < 1) × (is_rec j x ≡ true)
records_are zero = only (λ x. (0 < 1) × (is_rec 0 x ≡ true)) (Rec 0 5 7 (tag 0 0)) (omega arith, refl)
records_are (suc j) = none (λ x. (suc j < 1) × (is_rec (suc j) x ≡ true))

records_once : (j : ℕ) → Distinct (one_record j)
records_once zero = (refl, tt)
records_once (suc j) = tt

tags_tell : (j t k l : ℕ) (g : Tag) → In (Rec j t k g) (one_record j) → In (Rec j t l g) (one_record j) → k ≡ l
tags_tell zero t k l g h i =
    ⊎_elim
    (λ (e : Rec 0 5 7 (tag 0 0) ≡ Rec 0 t k g).
    ⊎_elim (λ (f : Rec 0 5 7 (tag 0 0) ≡ Rec 0 t l g). ap key_in (sym e ∙ f)) (λ (f : In (Rec 0 t l g) []). absurd (false≢true f)) (In_cases (Rec 0 t l g) (Rec 0 5 7 (tag 0 0)) [] i))
    (λ (e : In (Rec 0 t k g) []). absurd (false≢true e))
    (In_cases (Rec 0 t k g) (Rec 0 5 7 (tag 0 0)) [] h)
tags_tell (suc j) t k l g h i = absurd (false≢true h)

abbrev RowGiven : Name → Type 0
RowGiven (Row t g) = In (Group 0 t g.0) (groups_of one_bid 0)
RowGiven _ = Unit {0}

rows_given : (x : Name) → In x one_bid.rows → RowGiven x
unfolding groups_of ascending
rows_given = only RowGiven (Row 5 (tag 7 0)) refl

one_bid_sound : OutlineIsSound one_bid
one_bid_sound =
    record {
      some_worker = omega arith;
      some_stage = omega arith;
      some_bundle = omega arith;
      controls_fit = λ i l. absurd (omega arith);
      first_owners_fit = λ j b l m. omega arith;
      bins_fit = λ k. omega arith;
      records_are = records_are;
      records_once = records_once;
      records_by_index = ((λ y i. absurd (false≢true i)), tt);
      tags_tell = tags_tell;
      posts_later = λ j x u i h. absurd (false≢true h);
      records_given = λ j t k g i. absurd (false≢true i);
      rows_are = only (λ x. is_row x ≡ true) (Row 5 (tag 7 0)) refl;
      rows_once = (refl, tt);
      rows_given = λ t g i. rows_given (Row t g) i;
      controls_stop = λ i l. tt;
      records_stop = λ j x i. tt;
      rows_stop = λ x i. tt;
      opening_are = λ j x i. absurd (false≢true i);
      opening_first = λ j x i. absurd (false≢true i);
    }

-- the steps of one worker

abbrev listed : List Kept → List (ℕ × Kept)
listed [] = []
listed (s ∷ steps) = (0, s) ∷ listed steps

order : (steps : List Kept) (w : ℕ) → steps_of w (listed steps) ≡ of_worker_0 steps w
order steps w = ⊎_elim (λ (e : 0 == w ≡ true). own steps e ∙ sym (cond-true (0 == w) steps [] e)) (λ (e : 0 == w ≡ false). other steps e ∙ sym (cond-false (0 == w) steps [] e)) (cases_Bool (0 == w))
  where
    own : (steps : List Kept) → 0 == w ≡ true → steps_of w (listed steps) ≡ steps
    own [] e = refl
    own (s ∷ steps) e = ap (map (λ (s : ℕ × Kept). s.1)) (cond-true (0 == w) ((0, s) ∷ filter (λ (s : ℕ × Kept). s.0 == w) (listed steps)) (filter (λ (s : ℕ × Kept). s.0 == w) (listed steps)) e) ∙ ap (λ (l : List Kept). s ∷ l) (own steps e)

    other : (steps : List Kept) → 0 == w ≡ false → steps_of w (listed steps) ≡ []
    other [] e = refl
    other (s ∷ steps) e = ap (map (λ (s : ℕ × Kept). s.1)) (cond-false (0 == w) ((0, s) ∷ filter (λ (s : ℕ × Kept). s.0 == w) (listed steps)) (filter (λ (s : ℕ × Kept). s.0 == w) (listed steps)) e) ∙ other steps e

-- the recorded run

all_made : AreMade one_bid 64 (start_of_machine one_bid) (listed recorded)
unfolding ascending owner_before packets_of groups_of control_times answer_times owed_names turn_of_machine step_of_machine
all_made = (tt, (tt, (tt, (refl, (tt, (tt, (tt, (refl, (tt, tt)))))))))

abbrev last_world : World
last_world = run_of_machine one_bid 64 (places_of (listed recorded))

abbrev board : ℕ → Log
board = posted_logs last_world

legal_board : LogsAreLegal one_bid (posted_logs (run_of_machine one_bid 64 (places_of (listed recorded))))
legal_board = (run_right one_bid one_bid_sound 64 (places_of (listed recorded))).posted

nothing_left : frontier_of one_bid (posted_logs (run_of_machine one_bid 64 (places_of (listed recorded)))) OutMail ≡ Done
unfolding ascending owner_before packets_of groups_of control_times answer_times owed_names turn_of_machine step_of_machine
nothing_left = refl

closed : (t : ℕ) → IsClosed one_bid board OutMail t
closed t = closed_from_passed one_bid board one_bid_sound legal_board OutMail Done t (subst (λ (f : Frontier). IsFrontier one_bid board OutMail f) nothing_left (frontier_is one_bid board one_bid_sound legal_board OutMail)) tt

all_done : (at : Loc) → frontier_of one_bid board at ≡ Done
all_done at =
    done_from_passed (frontier_of one_bid board at) (λ t.
    passed_from_closed one_bid board one_bid_sound legal_board at (frontier_of one_bid board at) t (frontier_is one_bid board one_bid_sound legal_board at) (λ w l a u r h. closed t w l a u (reach_on a at OutMail r (to_the_end at)) h))

abbrev IsWrittenRow : Name → Type 0
IsWrittenRow (Row t g) = In (Written t) (last_world.worker 0).log.settled
IsWrittenRow _ = Unit {0}

row_written : IsWrittenRow (Row 5 (tag 7 0))
unfolding ascending owner_before packets_of groups_of control_times answer_times owed_names turn_of_machine step_of_machine
row_written = refl

pub recorded_is_legal : IsLegal recorded
recorded_is_legal = (
  listed recorded,
  record {
    merge = record { order = order recorded; made = all_made };
    finished = record {
      done = λ at l. (frontier_of one_bid board at, frontier_is one_bid board one_bid_sound legal_board at, all_done at);
      written = λ t g i. only IsWrittenRow (Row 5 (tag 7 0)) row_written (Row t g) i;
    };
  },
)

-- the other two: a search stops at the fourth step

abbrev begun : List Kept
begun = step Ingest ∷ step (Route 0) ∷ step (Receive 0) ∷ []

abbrev taken : List (ℕ × Kept)
taken = listed begun

module _ (next : Kept) (more : List Kept) where
  abbrev steps : List Kept
  steps = step Ingest ∷ step (Route 0) ∷ step (Receive 0) ∷ next ∷ more

  may : MayBeTakenInTurn one_bid 64 (start_of_machine one_bid) (of_worker_0 (step Ingest ∷ step (Route 0) ∷ step (Receive 0) ∷ next ∷ more)) taken
  unfolding ascending owner_before packets_of groups_of control_times answer_times owed_names turn_of_machine step_of_machine
  may = (record { next = refl; made = tt; alone = λ x. absurd (cc) }, (record { next = refl; made = tt; alone = λ x. absurd (cc) }, (record { next = refl; made = tt; alone = λ x. absurd (cc) }, tt)))

  left_of_others : (w : ℕ) → (w ≡ 0 → ⊥) → left_after (of_worker_0 steps) taken w ≡ []
  left_of_others w n =
      let first = of_worker_0 steps in
      let second = left_behind first 0 in
      let third = left_behind second 0 in
      put_other 0 w (rest_of (third 0)) third n ∙ put_other 0 w (rest_of (second 0)) second n ∙ put_other 0 w (rest_of (first 0)) first n ∙ cond-false (0 == w) steps [] (ne_eqb 0 w (λ e. n (sym e)))

  stops : (IsMade one_bid 64 (end_of one_bid 64 (start_of_machine one_bid) taken) 0 next → ⊥) → IsLegal (step Ingest ∷ step (Route 0) ∷ step (Receive 0) ∷ next ∷ more) → ⊥
  stops none legal =
      no_run one_bid 64 taken (start_of_machine one_bid) (of_worker_0 steps) may
      (λ w s m.
      ⊎_elim
      (λ (e : w ≡ 0).
      let m' = subst (λ (v : ℕ). MayBeTaken one_bid 64 (end_of one_bid 64 (start_of_machine one_bid) taken) (left_after (of_worker_0 steps) taken) v s) e m in
      none (subst (λ (k : Kept). IsMade one_bid 64 (end_of one_bid 64 (start_of_machine one_bid) taken) 0 k) (sym (cons_same next s more _ m'.next).0) m'.made))
      (λ (e : w ≡ 0 → ⊥). not_empty s _ (sym (left_of_others w e) ∙ m.next))
      (cases_eq w 0))
      (λ all over. not_empty next more (sym (all 0)))
      legal.0 legal.1.merge legal.1.finished

pub too_early : IsLegal without_exchange → ⊥
unfolding ascending owner_before packets_of groups_of control_times answer_times owed_names turn_of_machine step_of_machine
too_early = stops (step (Apply 0)) (step SendRow ∷ step (Receive 0) ∷ exchange 2 ∷ step Write ∷ []) (λ h. h)

pub other_version : IsLegal with_other_version → ⊥
unfolding ascending owner_before packets_of groups_of control_times answer_times owed_names turn_of_machine step_of_machine
other_version = stops (exchange 2) (step (Apply 0) ∷ step SendRow ∷ step (Receive 0) ∷ exchange 2 ∷ step Write ∷ []) (λ h. two_one h)
  where
    two_one : ◌≡◌ {A = ℕ} 2 1 → ⊥
    two_one h = omega arith
