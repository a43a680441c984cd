-- When all is over, as the player sees it and as the machine does.
use Rattle.std.proofs.Common.{◌≡◌, ◌↔◌, ℕ, ◌<◌, ◌≤◌, Bool, true, List, [], ◌∷◌, ◌++◌, length, filter, get_or, sym, ap, ◌∙◌, subst, ⊎_elim, arith}
use Rattle.std.proofs.lemmas.Bool.{both_ways, cases_lt}
use Rattle.std.proofs.lemmas.List.{length-map, take_all}
use Rattle.std.proofs.lemmas.Option.{slice_get-get_or}
use Rattle.std.specs.Prelude.{IsTrue}
use Rattle.mp_names.specs.declared.names.Name.{Name}
use Rattle.mp_names.specs.declared.names.Name.TheVariants.{Written}
use Rattle.mp_names.specs.declared.locations.Loc.{Loc}
use Rattle.mp_names.specs.Names.{In, has, is_written}
use Rattle.mp_names.specs.Outlines.{Outline, OutlineIsSound, IsBeforeStop, answer_times}
use Rattle.mp_names.specs.Logs.{Log, LogIsLegal}
use Rattle.mp_names.proofs.Lists.{In_here, In_right, In_prefix, In_filter, filter_In}
use Rattle.mp_names.proofs.Orders.{ascending_once}
use Rattle.mp_names.proofs.Listed.{answer_times_ascend, answer_time_is}
use Rattle.mp_machine.specs.Worlds.{World}
use Rattle.mp_machine.specs.Runs.{IsFinished}
use Rattle.mp_player_laws.proofs.Remaining.{no_work_at_end, end_from_no_work}
use Rattle.mp_player_laws.proofs.Places.{beginning_is, stands_next}
use Rattle.mp_chart.specs.Left.{left_in}
use Rattle.mp_chart.specs.Entries.{entries_of, entry_of}
use Rattle.mp_standing.proofs.Giving.{fresh}
use Rattle.mp_standing.proofs.Advanced.{reached_right}
use Rattle.mp_player.specs.declared.state.State.{State}
use Rattle.mp_player.specs.Shows.{Shows}

module _ (o : Outline) (ok : OutlineIsSound o) (log : Log) (good : LogIsLegal o 0 log) where
  abbrev written : List Name
  written = filter is_written log.settled

  abbrev pub AllWritten : Type 0
  AllWritten = (x : Name) → In x (answer_times o) → In x log.settled

  enough_written : length (answer_times o) ≤ length written → AllWritten
  enough_written l x i =
      let all : written ≡ answer_times o = beginning_is written (answer_times o) good.written_in_order ∙ take_all (length written) (answer_times o) l in
      (In_filter is_written x log.settled (subst (In x) (sym all) i)).0

  all_written : AllWritten → length (answer_times o) ≤ length written
  all_written all =
      ⊎_elim
      (λ (l : length written < length (answer_times o)).
      let x : Name = get_or (answer_times o) (length written) (Written 0) in
      let next = stands_next written (answer_times o) x good.written_in_order (slice_get-get_or (answer_times o) (length written) (Written 0) l) in
      let i = In_prefix x (written ++ x ∷ []) (answer_times o) next (In_right x written (x ∷ []) (In_here x [])) in
      let new = fresh written (answer_times o) x next (ascending_once (answer_times o) (answer_times_ascend o)) in
      absurd (both_ways (has written x) new (filter_In is_written x log.settled (all x i) (is_time x i))))
      (λ (l : length (answer_times o) ≤ length written). l)
      (cases_lt (length written) (length (answer_times o)))
    where
      is_time : (x : Name) → In x (answer_times o) → is_written x ≡ true
      is_time x i = let t = answer_time_is o ok x i in ap is_written t.2

  pub written_tells : (n least : ℕ) → n ≡ length written → least ≡ length (entries_of o (answer_times o)) → (least ≤ n) ↔ AllWritten
  written_tells n least e f =
      let long : least ≡ length (answer_times o) = f ∙ length-map (answer_times o) (entry_of o) in (
        (λ l. enough_written (subst (λ (m : ℕ). m ≤ length written) long (subst (λ (m : ℕ). least ≤ m) e l))),
        (λ all. let l = all_written all in omega arith),
      )

pub all_over : (o : Outline) (depth : ℕ) (world : World) (state : State) → Shows o depth state world → (done wrote : Bool) → (IsTrue done ↔ ((a : Loc) (t : ℕ) → IsBeforeStop o.until t → left_in state.left.counts a t ≡ 0)) → (IsTrue wrote ↔ ((x : Name) → In x (answer_times o) → In x (world.worker 0).log.settled)) → (b : Bool) → (IsTrue b ↔ (IsTrue done × IsTrue wrote)) → IsTrue b ↔ IsFinished o world
all_over o depth world state shows done wrote is_done is_written b both =
    let ok = shows.reached.sound in
    let legal = (reached_right o depth world shows.reached).posted in (
      (λ h. let p = both.0 h in end_from_no_work o ok world legal ((λ a t before. sym (shows.left a t) ∙ is_done.0 p.0 a t before), is_written.0 p.1)),
      (λ f. let n = no_work_at_end o ok world legal f in both.1 (is_done.1 (λ a t before. shows.left a t ∙ n.0 a t before), is_written.1 n.1)),
    )
