-- A schedule that is followed, step by step, and how many steps it has.
use Rattle.std.proofs.Common.{◌≡◌, ℕ, ◌+◌, ◌*◌, ◌≤◌, List, [], ◌∷◌, ◌++◌, Some, length, refl, sym, ◌∙◌, ap, subst, arith, length-append}
use Rattle.std.proofs.lemmas.List.{append-nil}
use Rattle.mp_names.specs.declared.kinds.Kind.{Kind}
use Rattle.mp_names.specs.Outlines.{Outline, OutlineIsSound, name_count}
use Rattle.mp_machine.specs.Worlds.{World, start_of_machine}
use Rattle.mp_machine.specs.Runs.{Turn, made_count, run_of_machine, turns_of, world_after}
use Rattle.mp_machine.proofs.Bounds.{steps_bounded}
use Rattle.mp_machine.proofs.Worlds.{turns_more}
use Rattle.mp_worker_refinement.specs.SystemState.{SystemState}
use Rattle.mp_draws.specs.Draws.{draw_of}
use Rattle.mp_plain.specs.Driven.{AllKnowTheEnd, AreAfter, AreReached, Driven, LeadsOn}
use Rattle.mp_schedule.specs.Schedule.{AreFinished, AreScheduled, FollowsSchedule, MakesPick, pick}
use Rattle.mp_plain.proofs.Leading.{leads_further, run_more, still_there}
use Rattle.mp_plain.proofs.Made.{made_more, one_made}
use Rattle.mp_schedule.proofs.Picked.{one_more_scheduled}
use Rattle.mp_schedule.proofs.Tried.{know_where_finished}

-- the first n steps of a seed's schedule lead on, and each is made
pub record LeadsBy (o : Outline) (seed n : ℕ) (old new : SystemState) : Type 0 where
  pub steps : List (ℕ × Kind)
  pub turns : List Turn
  pub scheduled : (before : List (ℕ × Kind)) → AreAfter o before old → AreScheduled o old.post.depth seed (run_of_machine o old.post.depth before) steps
  pub lead : LeadsOn o steps turns old new
  pub count : length steps ≡ n
  pub made : made_count turns ≡ n

module _ (o : Outline) (seed : ℕ) where
  pub begins_by_none : (t : SystemState) → LeadsBy o seed 0 t t
  begins_by_none t = record {
    steps = [];
    turns = [];
    scheduled = λ before are n step is. absurd (cc);
    lead = still_there o t;
    count = refl;
    made = refl;
  }

  pub leads_by_one_more : (n : ℕ) (old : SystemState) (mid new : Driven) → LeadsBy o seed n old mid.state → (AllKnowTheEnd o mid.state → ⊥) → MakesPick o (draw_of seed n) mid new → LeadsBy o seed (n + 1) old new.state
  leads_by_one_more n old mid new by unfinished makes = record {
    steps = by.steps ++ makes.step ∷ [];
    turns = by.turns ++ makes.turn ∷ [];
    scheduled = λ before are.
        let d = old.post.depth in
        let there : AreAfter o (before ++ by.steps) mid.state = by.lead.state_is before are in
        let level : mid.state.post.depth ≡ d = by.lead.depth in
        let same : run_of_machine o d (before ++ by.steps) ≡ world_after o d (run_of_machine o d before) by.steps = sym (run_more o d before by.steps) in
        one_more_scheduled o d seed (run_of_machine o d before) by.steps makes.step (by.scheduled before are)
        (subst (λ (w : World). AreFinished o w → ⊥) same
        (subst (λ (k : ℕ). AreFinished o (run_of_machine o k (before ++ by.steps)) → ⊥) level (λ f. unfinished (know_where_finished o mid.state (before ++ by.steps) there f))))
        (subst (λ (k : ℕ). pick o d (world_after o d (run_of_machine o d before) by.steps) (draw_of seed k) ≡ Some makes.step) (sym by.count)
        (subst (λ (w : World). pick o d w (draw_of seed n) ≡ Some makes.step) same
        (subst (λ (k : ℕ). pick o k (run_of_machine o k (before ++ by.steps)) (draw_of seed n) ≡ Some makes.step) level (makes.picked (before ++ by.steps) there))));
    lead = leads_further o by.steps (makes.step ∷ []) by.turns (makes.turn ∷ []) old mid.state new.state by.lead makes.lead;
    count = let e = length-append by.steps (makes.step ∷ []) in let k = by.count in omega arith;
    made =
        let m = made_more by.turns (makes.turn ∷ []) in
        let k = one_made makes.turn makes.made in
        let e = by.made in
        omega arith;
  }

  -- no more steps of it
  abbrev pub stays_by : (n : ℕ) (old mid new : SystemState) → LeadsBy o seed n old mid → LeadsOn o [] [] mid new → LeadsBy o seed n old new
  stays_by n old mid new by still = record {
    steps = by.steps;
    turns = by.turns;
    scheduled = by.scheduled;
    lead = subst (λ (steps : List (ℕ × Kind)). LeadsOn o steps by.turns old new) (append-nil by.steps)
        (subst (λ (turns : List Turn). LeadsOn o (by.steps ++ []) turns old new) (append-nil by.turns) (leads_further o by.steps [] by.turns [] old mid new by.lead still));
    count = by.count;
    made = by.made;
  }

  -- what is made from here on is a part of what is made from the start
  pub few : (n : ℕ) (old new : SystemState) → OutlineIsSound o → AreReached o old → LeadsBy o seed n old new → n ≤ (o.workers + 2) * name_count o
  few n old new ok reached by =
      let d = old.post.depth in
      let before = reached.0 in
      let later = turns_of o d (run_of_machine o d before) by.steps in
      let all : made_count (turns_of o d (start_of_machine o) (before ++ by.steps)) ≤ (o.workers + 1) * name_count o = steps_bounded o ok d (before ++ by.steps) in
      let parts : made_count (turns_of o d (start_of_machine o) (before ++ by.steps)) ≡ made_count (turns_of o d (start_of_machine o) before) + made_count later = ap made_count (turns_more o d before by.steps (start_of_machine o)) ∙ made_more (turns_of o d (start_of_machine o) before) later in
      let same : n ≡ made_count later = sym by.made ∙ ap made_count (by.lead.turns_are before reached.1) in
      looser o.workers (name_count o) n (omega arith)
    where
      looser : (w m n : ℕ) → n ≤ (w + 1) * m → n ≤ (w + 2) * m
      looser w m n h = grind arith

  abbrev pub follows : (n : ℕ) (old new : SystemState) → OutlineIsSound o → AreReached o old → LeadsBy o seed n old new → FollowsSchedule o seed n old new
  follows n old new ok reached by = record {
    steps = by.steps;
    turns = by.turns;
    scheduled = by.scheduled;
    lead = by.lead;
    count = by.count;
    made = by.made;
    few = few n old new ok reached by;
  }
