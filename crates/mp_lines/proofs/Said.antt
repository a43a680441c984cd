-- What holds of what a file says, where each line that fails no check keeps to it.
use Rattle.std.proofs.Common.{◌≡◌, ◌++◌, ℕ, Ok, List, [], ◌∷◌, map, refl, subst}
use Rattle.mp_lines.specs.Files.{failures_from, file_of, filled, said_after, unless_failed}
use Rattle.mp_lines.specs.Rules.{LineRules}
use Rattle.mp_lines.proofs.Starts.{empty_map, empty_parts}
use Rattle.mp_text.specs.Fields.{fields_of}
use Rattle.mp_text.specs.Lines.{numbered_lines_of}

module _ {State Reason : Type 0} (rules : LineRules State Reason) where
  -- what is said comes from
  from_ok : (fails : List (ℕ × Reason)) (said given : State) → unless_failed fails said ≡ Ok given → (fails ≡ []) × (said ≡ given)
  from_ok [] said given e = (refl, cc)
  from_ok (fail ∷ more) said given e = absurd (cc)

  -- where lines fail no check, neither the first of them nor those after it do
  first_passes : (before : State) (line : ℕ × List ℕ) (more : List (ℕ × List ℕ)) → failures_from rules before (line ∷ more) ≡ []
      → (rules.failures before (fields_of line.1) ≡ []) × (failures_from rules (rules.after before (fields_of line.1)) more ≡ [])
  first_passes before line more e =
      let parts = empty_parts (map (λ why. (line.0, why)) (rules.failures before (fields_of line.1))) _ e in (empty_map _ _ parts.0, parts.1)

  kept_on : (P : State → Type 0) → ((before : State) (fields : List (List ℕ)) → P before → rules.failures before fields ≡ [] → P (rules.after before fields))
      → (before : State) (lines : List (ℕ × List ℕ)) → P before → failures_from rules before lines ≡ [] → P (said_after rules before lines)
  kept_on P each before [] first e = first
  kept_on P each before (line ∷ more) first e =
      let parts = first_passes before line more e in
      kept_on P each (rules.after before (fields_of line.1)) more (each before (fields_of line.1) first parts.0) parts.1

  -- a fact that holds at first, and that each line which fails no check keeps, holds of what a file says
  pub kept_in_file : (P : State → Type 0) → ((before : State) (fields : List (List ℕ)) → P before → rules.failures before fields ≡ [] → P (rules.after before fields))
      → (start : State) (text : List ℕ) (said : State) → P start → file_of rules start text ≡ Ok said → P said
  kept_in_file P each start text said first e =
      let lines : List (ℕ × List ℕ) = filled (numbered_lines_of text) in
      let parts = from_ok (failures_from rules start lines) (said_after rules start lines) said e in
      subst P parts.1 (kept_on P each start lines first parts.0)
