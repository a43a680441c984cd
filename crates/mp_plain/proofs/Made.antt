-- How many steps are made, over several calls.
use Rattle.std.proofs.Common.{◌≡◌, ℕ, ◌+◌, ◌*◌, ◌≤◌, cond, Bool, true, List, [], ◌∷◌, ◌++◌, Ok, Err, map, refl, sym, ◌∙◌, ap, subst, arith}
use Rattle.std.specs.Prelude.{IfOk, OnErr}
use Rattle.std.specs.declared.result.Result.{Result}
use Rattle.std.proofs.lemmas.List.{map-append}
use Rattle.std.proofs.lemmas.List.Sums.{sum_by-append}
use Rattle.mp_names.specs.declared.kinds.Kind.{Kind}
use Rattle.mp_names.specs.Outlines.{Outline, OutlineIsSound, name_count}
use Rattle.mp_machine.specs.Runs.{Turn, is_made, made_count, run_of_machine, turns_of}
use Rattle.mp_machine.specs.Worlds.{start_of_machine}
use Rattle.mp_machine.proofs.Bounds.{steps_bounded}
use Rattle.mp_machine.proofs.Worlds.{turns_more}
use Rattle.mp_worker_refinement.specs.SystemState.{SystemState}
use Rattle.mp_worker.specs.Below.{Turn as Answered}
use Rattle.mp_board.specs.declared.causes.Cause.{Cause}
use Rattle.mp_plain.specs.Driven.{AreReachedBy, LeadsOn, made_by, turn_in}
use Rattle.mp_plain.proofs.Journaled.{kept_further}

pub made_more : (a b : List Turn) → made_count (a ++ b) ≡ made_count a + made_count b
made_more a b = sum_by-append (λ t. cond (is_made t) 1 0) a b

pub one_made : (t : Turn) → is_made t ≡ true → made_count (t ∷ []) ≡ 1
one_made t e = let here : made_count (t ∷ []) ≡ 0 + cond (is_made t) 1 0 = refl in here ∙ ap (λ (made : Bool). 0 + cond made 1 0) e

-- one more answer of a list
pub counted_more : (before after : List Answered) (turn : Answered) (old mid new : ℕ) → after ≡ before ++ turn ∷ [] → mid ≡ old + made_count (map turn_in before) → new ≡ mid + made_count (turn_in turn ∷ []) → new ≡ old + made_count (map turn_in after)
counted_more before after turn old mid new grown had more =
    let parts = made_more (map turn_in before) (turn_in turn ∷ []) in
    rw (grown, map-append) (omega arith)

module _ (o : Outline) where
  -- what was made before, and what is made then
  pub counted_further : (steps : List (ℕ × Kind)) (turns : List Turn) (n : ℕ) (old new : SystemState) → AreReachedBy o old n → LeadsOn o steps turns old new → AreReachedBy o new (n + made_count turns)
  counted_further steps turns n old new by lead =
      let d = old.post.depth in
      let later = turns_of o d (run_of_machine o d by.0) steps in
      let parts : made_count (turns_of o d (start_of_machine o) (by.0 ++ steps)) ≡ made_count (turns_of o d (start_of_machine o) by.0) + made_count later = ap made_count (turns_more o d by.0 steps (start_of_machine o)) ∙ made_more (turns_of o d (start_of_machine o) by.0) later in
      let same : made_count turns ≡ made_count later = ap made_count (lead.turns_are by.0 by.1) in
      let early : made_count (turns_of o d (start_of_machine o) by.0) ≡ n = by.2 in
      let all : made_count (turns_of o d (start_of_machine o) (by.0 ++ steps)) ≡ n + made_count turns = omega arith in
      (by.0 ++ steps, lead.state_is by.0 by.1, subst (λ (k : ℕ). made_count (turns_of o k (start_of_machine o) (by.0 ++ steps)) ≡ n + made_count turns) (sym lead.depth) all, kept_further o by.0 steps old new lead.depth by.3 (lead.journals by.0 by.1))

  -- what one step answers, or why it was refused
  pub counted_by : (w n : ℕ) (kind : Kind) (answered : Result Answered Cause) (old new : SystemState) → AreReachedBy o old n → IfOk answered (λ turn. LeadsOn o ((w, kind) ∷ []) (turn_in turn ∷ []) old new) → OnErr answered (LeadsOn o [] [] old new) → AreReachedBy o new (n + made_by answered)
  counted_by w n kind (Ok turn) old new by lead still = counted_further ((w, kind) ∷ []) (turn_in turn ∷ []) n old new by lead
  counted_by w n kind (Err why) old new by lead still = counted_further [] [] n old new by still

  -- whatever steps were made, there are no more than the machine can make
  pub made_few : (n : ℕ) (t : SystemState) → OutlineIsSound o → AreReachedBy o t n → n ≤ (o.workers + 2) * name_count o
  made_few n t ok by =
      let all = steps_bounded o ok t.post.depth by.0 in
      let is = by.2 in
      looser o.workers (name_count o) n (omega arith)
    where
      looser : (w m n : ℕ) → n ≤ (w + 1) * m → n ≤ (w + 2) * m
      looser w m n h = grind arith
