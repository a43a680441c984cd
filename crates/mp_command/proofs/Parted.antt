-- Files that are written one after the other, and such as are written in part.
use Rattle.std.proofs.Common.{◌≡◌, ◌++◌, inl, inr, Option, None, Some, List, [], ◌∷◌, ℕ, Result, Ok, Err, refl, subst}
use Rattle.std.specs.Prelude.{IsSome, OnErr, OnOk}
use Rattle.mp_outside.specs.Files.{Files, with_file}
use Rattle.mp_command_files.specs.EventFile.{HoldsPart}
use Rattle.mp_command.specs.Writing.{Purpose, Target, WritesAll, WritesSome, target_in}

-- one file alone was written in part
part_alone : (text : List ℕ) (target : Target) (old new : Option Files) → HoldsPart target.name text old new → WritesSome (λ _ written. written ≡ text) (target ∷ []) old new
part_alone text target old new (inl same) = inl same
part_alone text target old new (inr part) = inr (text, refl, inl part)

-- what is written of one file alone, by the answer of the call that writes it: all of the text
pub whole_answered : {A E : Type 0} (result : Result A E) (text : List ℕ) (target : Target) (old new : Option Files) → OnOk result (new ≡ with_file old target.name text)
    → OnOk result (WritesAll (λ _ written. written ≡ text) (target ∷ []) old new)
whole_answered (Ok a) text target old new whole = (text, refl, whole)
whole_answered (Err e) text target old new whole = tt

-- or a part
pub part_answered : {A E : Type 0} (result : Result A E) (text : List ℕ) (target : Target) (old new : Option Files) → OnErr result (HoldsPart target.name text old new)
    → OnErr result (WritesSome (λ _ written. written ≡ text) (target ∷ []) old new)
part_answered (Ok a) text target old new part = tt
part_answered (Err e) text target old new part = part_alone text target old new part

module _ (IsText : Purpose → List ℕ → Type 0) where
  -- nothing was written
  pub none_of : (targets : List Target) (old new : Option Files) → new ≡ old → WritesSome IsText targets old new
  none_of [] old new same = same
  none_of (target ∷ more) old new same = inl same

  -- a part of the first ones
  pub some_first : (first second : List Target) (old new : Option Files) → WritesSome IsText first old new → WritesSome IsText (first ++ second) old new
  some_first [] second old new same = none_of second old new same
  some_first (target ∷ more) second old new (inl same) = inl same
  some_first (target ∷ more) second old new (inr (text, is, inl part)) = inr (text, is, inl part)
  some_first (target ∷ more) second old new (inr (text, is, inr later)) = inr (text, is, inr (some_first more second _ new later))

  -- the first ones, and a part of the second
  pub some_second : (first second : List Target) (old between new : Option Files) → WritesAll IsText first old between → WritesSome IsText second between new → WritesSome IsText (first ++ second) old new
  some_second [] second old between new same part = subst (λ (files : Option Files). WritesSome IsText second files new) same part
  some_second (target ∷ more) second old between new (text, is, later) part = inr (text, is, inr (some_second more second _ between new later part))

  -- the first ones, and then the second
  pub all_both : (first second : List Target) (old between new : Option Files) → WritesAll IsText first old between → WritesAll IsText second between new → WritesAll IsText (first ++ second) old new
  all_both [] second old between new same rest = subst (λ (files : Option Files). WritesAll IsText second files new) same rest
  all_both (target ∷ more) second old between new (text, is, later) rest = (text, is, all_both more second _ between new later rest)

  module _ (T : List ℕ → Type 0) (purpose : Purpose) where
    -- a file for one purpose with a text like this holds a text for its purpose
    pub one_as : (name : Option (List ℕ)) (old new : Option Files) → (IsSome name → (text : List ℕ) → T text → IsText purpose text) → WritesAll (λ _. T) (target_in purpose name) old new → WritesAll IsText (target_in purpose name) old new
    one_as None old new is w = w
    one_as (Some name) old new is (text, has, rest) = (text, is refl text has, rest)

    pub part_as : (name : Option (List ℕ)) (old new : Option Files) → (IsSome name → (text : List ℕ) → T text → IsText purpose text) → WritesSome (λ _. T) (target_in purpose name) old new → WritesSome IsText (target_in purpose name) old new
    part_as None old new is w = w
    part_as (Some name) old new is (inl same) = inl same
    part_as (Some name) old new is (inr (text, has, part)) = inr (text, is refl text has, part)

module _ (IsText IsOther : Purpose → List ℕ → Type 0) (turns : (purpose : Purpose) (text : List ℕ) → IsText purpose text → IsOther purpose text) where
  -- what is written with texts of one kind is written with those of the other
  pub all_as : (targets : List Target) (old new : Option Files) → WritesAll IsText targets old new → WritesAll IsOther targets old new
  all_as [] old new same = same
  all_as (target ∷ more) old new (text, is, later) = (text, turns target.purpose text is, all_as more _ new later)

  pub some_as : (targets : List Target) (old new : Option Files) → WritesSome IsText targets old new → WritesSome IsOther targets old new
  some_as [] old new same = same
  some_as (target ∷ more) old new (inl same) = inl same
  some_as (target ∷ more) old new (inr (text, is, inl part)) = inr (text, turns target.purpose text is, inl part)
  some_as (target ∷ more) old new (inr (text, is, inr later)) = inr (text, turns target.purpose text is, inr (some_as more _ new later))
