-- Steps that lead on, one after another.
use Rattle.std.proofs.Common.{◌≡◌, ℕ, ◌==◌, List, [], ◌∷◌, ◌++◌, Option, refl, sym, ◌∙◌, ap, subst}
use Rattle.std.proofs.lemmas.List.{append-nil, append_assoc}
use Rattle.mp_names.specs.declared.kinds.Kept.{Kept}
use Rattle.mp_names.specs.declared.kinds.Kind.{Kind}
use Rattle.mp_names.specs.Outlines.{Outline}
use Rattle.mp_machine.specs.Worlds.{World, start_of_machine}
use Rattle.mp_machine.specs.Runs.{Turn, NotNow, after_turn, run_of_machine, step_of_machine, turn_of_machine, turns_of, world_after}
use Rattle.mp_machine.proofs.Worlds.{after_more, turns_more}
use Rattle.mp_journal_laws.specs.Kept.{kept_of}
use Rattle.mp_journal_laws.proofs.Keeping.{kept_more}
use Rattle.mp_worker_refinement.specs.SystemState.{Refines, SystemState}
use Rattle.mp_plain.specs.Driven.{AreAfter, LeadsOn}
use Rattle.mp_plain.specs.Journals.{journal_at, with_more}
use Rattle.mp_plain.proofs.Journaled.{more_none, more_twice}
use Rattle.mp_plain.proofs.Unmade.{kept_one, none_of}

module _ (o : Outline) where
  -- the state of a run, at the depth that the workers' mailboxes had before
  at_depth : (t : SystemState) (depth : ℕ) (world : World) → t.post.depth ≡ depth → Refines o t.post.depth t world → Refines o depth t world
  at_depth t depth world e are = subst (λ (d : ℕ). Refines o d t world) e are

  pub still_there : (t : SystemState) → LeadsOn o [] [] t t
  still_there t = record {
    turns_are = λ before are. refl;
    state_is = λ before are. subst (λ (steps : List (ℕ × Kind)). AreAfter o steps t) (sym (append-nil before)) are;
    depth = refl;
    journals = λ before are w. more_none (journal_at t w);
  }

  pub run_more : (depth : ℕ) (before steps : List (ℕ × Kind)) → world_after o depth (run_of_machine o depth before) steps ≡ run_of_machine o depth (before ++ steps)
  run_more depth before steps = sym (after_more o depth before steps (start_of_machine o))

  pub leads_further : (a b : List (ℕ × Kind)) (t u : List Turn) (old mid new : SystemState) → LeadsOn o a t old mid → LeadsOn o b u mid new → LeadsOn o (a ++ b) (t ++ u) old new
  leads_further a b t u old mid new first second = record {
    turns_are = λ before are.
        let d = old.post.depth in
        let world = run_of_machine o d before in
        let here : t ≡ turns_of o d world a = first.turns_are before are in
        let there : u ≡ turns_of o mid.post.depth (run_of_machine o mid.post.depth (before ++ a)) b = second.turns_are (before ++ a) (first.state_is before are) in
        let level : u ≡ turns_of o d (run_of_machine o d (before ++ a)) b = there ∙ ap (λ (n : ℕ). turns_of o n (run_of_machine o n (before ++ a)) b) first.depth in
        let behind : u ≡ turns_of o d (world_after o d world a) b = level ∙ ap (λ (w : World). turns_of o d w b) (sym (run_more d before a)) in
        both t (turns_of o d world a) u (turns_of o d (world_after o d world a) b) here behind ∙ sym (turns_more o d a b world);
    state_is = λ before are. subst (λ (steps : List (ℕ × Kind)). AreAfter o steps new) (append_assoc before a b) (second.state_is (before ++ a) (first.state_is before are));
    depth = second.depth ∙ first.depth;
    journals = λ before are w.
        let d = old.post.depth in
        let world = run_of_machine o d before in
        let kept = λ (n : ℕ) (z : World). kept_of o n z b w in
        let later : kept mid.post.depth (run_of_machine o mid.post.depth (before ++ a)) ≡ kept d (world_after o d world a) = ap (λ (n : ℕ). kept n (run_of_machine o n (before ++ a))) first.depth ∙ ap (kept d) (sym (run_more d before a)) in
        second.journals (before ++ a) (first.state_is before are) w
        ∙ ap (λ (j : Option (List Kept)). with_more j (kept mid.post.depth (run_of_machine o mid.post.depth (before ++ a)))) (first.journals before are w)
        ∙ more_twice (journal_at old w) (kept_of o d world a w) (kept mid.post.depth (run_of_machine o mid.post.depth (before ++ a)))
        ∙ ap (λ (more : List Kept). with_more (journal_at old w) (kept_of o d world a w ++ more)) later
        ∙ ap (with_more (journal_at old w)) (sym (kept_more o d world a b w));
  }
    where
      both : (a b c d : List Turn) → a ≡ b → c ≡ d → a ++ c ≡ b ++ d
      both a b c d e f = cc

  -- the turn of one step
  pub turn_is : (s : ℕ × Kind) (turn : Turn) (old new : SystemState) → LeadsOn o (s ∷ []) (turn ∷ []) old new → (before : List (ℕ × Kind)) → AreAfter o before old → turn_of_machine o old.post.depth (run_of_machine o old.post.depth before) s.0 s.1 ≡ turn
  turn_is s turn old new lead before are = let e = lead.turns_are before are in cc

  -- a step that can't be made now leads nowhere else
  module _ (s : ℕ × Kind) (old new : SystemState) (lead : LeadsOn o (s ∷ []) (NotNow ∷ []) old new) where
    pub was_not_now : (before : List (ℕ × Kind)) → AreAfter o before old → turn_of_machine o old.post.depth (run_of_machine o old.post.depth before) s.0 s.1 ≡ NotNow
    was_not_now before are = turn_is s NotNow old new lead before are

    same_world : (depth : ℕ) (world : World) → turn_of_machine o depth world s.0 s.1 ≡ NotNow → step_of_machine o depth world s.0 s.1 ≡ world
    unfolding step_of_machine
    same_world depth world e = ap (after_turn o world s.0 s.1) e

    pub leads_nowhere : LeadsOn o [] [] old new
    leads_nowhere = record {
      turns_are = λ before are. refl;
      state_is = λ before are.
          let d = old.post.depth in
          let world = run_of_machine o d before in
          let same : run_of_machine o d (before ++ s ∷ []) ≡ world = sym (run_more d before (s ∷ [])) ∙ same_world d world (was_not_now before are) in
          let after : Refines o d new (run_of_machine o d (before ++ s ∷ [])) = level d (before ++ s ∷ []) lead.depth (lead.state_is before are) in
          let here : Refines o d new world = subst (Refines o d new) same after in
          subst (λ (steps : List (ℕ × Kind)). AreAfter o steps new) (sym (append-nil before)) (back d before (sym lead.depth) here);
      depth = lead.depth;
      journals = λ before are w.
          lead.journals before are w
          ∙ ap (with_more (journal_at old w)) (kept_one o old.post.depth (run_of_machine o old.post.depth before) s.0 s.1 NotNow (was_not_now before are) w ∙ none_of (s.0 == w));
    }
      where
        level : (d : ℕ) (steps : List (ℕ × Kind)) → new.post.depth ≡ d → AreAfter o steps new → Refines o d new (run_of_machine o d steps)
        level d steps e are = subst (λ (n : ℕ). Refines o n new (run_of_machine o n steps)) e are

        back : (d : ℕ) (steps : List (ℕ × Kind)) → d ≡ new.post.depth → Refines o d new (run_of_machine o d steps) → AreAfter o steps new
        back d steps e are = subst (λ (n : ℕ). Refines o n new (run_of_machine o n steps)) e are
