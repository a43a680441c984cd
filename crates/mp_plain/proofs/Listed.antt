-- What leads on by some steps and then by others leads on by both, so a list of steps leads on by all of them.
use Rattle.std.proofs.Common.{◌≡◌, ℕ, ◌+◌, ◌<◌, ◌≤◌, List, [], ◌∷◌, ◌++◌, arith, get_or, length, map, refl, subst, sym, take}
use Rattle.std.proofs.lemmas.List.{map-append, take_all, take_more}
use Rattle.std.proofs.lemmas.List.Elements.{All-nil}
use Rattle.mp_names.specs.declared.kinds.Kind.{Kind}
use Rattle.mp_names.specs.Outlines.{Outline}
use Rattle.mp_machine.specs.Runs.{Turn, made_count}
use Rattle.mp_worker_refinement.specs.SystemState.{SystemState}
use Rattle.mp_worker.specs.Below.{Turn as Answered}
use Rattle.mp_plain.specs.Driven.{Driven, LeadsOn, turn_in}
use Rattle.mp_plain.specs.Driving.{MakesSteps}
use Rattle.mp_plain.proofs.Leading.{leads_further, still_there}

module _ (o : Outline) where
  -- no step of a list
  pub makes_none : (turns : List Answered) (p : Driven) → turns ≡ [] → MakesSteps o [] turns p p
  makes_none turns p none =
      let uncounted : made_count [] ≡ 0 = refl in
      subst (λ (some : List Answered). MakesSteps o [] some p p) (sym none) (record { lead = still_there o p.state; counted = omega (arith, uncounted); not_busy = All-nil _ })

  -- one more step of a list
  pub one_more : (a b c : SystemState) (steps : List (ℕ × Kind)) (i : ℕ) (d : ℕ × Kind) (before after : List Answered) (answered : Answered) → i < length steps → after ≡ before ++ answered ∷ []
      → LeadsOn o (take i steps) (map turn_in before) a b → LeadsOn o (get_or steps i d ∷ []) (turn_in answered ∷ []) b c → LeadsOn o (take (i + 1) steps) (map turn_in after) a c
  one_more a b c steps i d before after answered l grown first then_on =
      rw (take_more steps i d l, grown, map-append) (leads_further o (take i steps) (get_or steps i d ∷ []) (map turn_in before) (turn_in answered ∷ []) a b c first then_on)

  -- all steps of it
  pub whole : (a b : SystemState) (steps : List (ℕ × Kind)) (i : ℕ) (turns : List Turn) → length steps ≤ i → LeadsOn o (take i steps) turns a b → LeadsOn o steps turns a b
  whole a b steps i turns l lead = subst (λ (s : List (ℕ × Kind)). LeadsOn o s turns a b) (take_all i steps l) lead
