-- Files that are read behind others.
use Rattle.std.proofs.Common.{ℕ, ◌++◌, inl, inr, Option, List, [], ◌∷◌, subst}
use Rattle.mp_outside.specs.Files.{Files}
use Rattle.mp_command.specs.Calls.{IsNamedIn}
use Rattle.mp_command.specs.Inputs.{Found, Input}
use Rattle.mp_command_files.specs.Outcome.{Outcome}
use Rattle.mp_command.specs.Reading.{ReadsAll, RefusesOne}

module _ (told : Option Files) where
  -- all of both lists were read
  pub reads_both : (first second : List (Input × List ℕ)) (before between after : Found) → ReadsAll told first before between → ReadsAll told second between after → ReadsAll told (first ++ second) before after
  reads_both [] second before between after r s = subst (λ (found : Found). ReadsAll told second found after) r s
  reads_both (input ∷ more) second before between after r s = (r.0, r.1, reads_both more second r.0 between after r.2 s)

  -- one of the first was refused
  pub refuses_first : (first second : List (Input × List ℕ)) (before : Found) (o : Outcome) → RefusesOne told first before o → RefusesOne told (first ++ second) before o
  refuses_first [] second before o r = absurd r
  refuses_first (input ∷ more) second before o (inl refuses) = inl refuses
  refuses_first (input ∷ more) second before o (inr later) = inr (later.0, later.1, refuses_first more second later.0 o later.2)

  -- one of the second was
  pub refuses_second : (first second : List (Input × List ℕ)) (before between : Found) (o : Outcome) → ReadsAll told first before between → RefusesOne told second between o → RefusesOne told (first ++ second) before o
  refuses_second [] second before between o r s = subst (λ (found : Found). RefusesOne told second found o) r s
  refuses_second (input ∷ more) second before between o r s = inr (r.0, r.1, refuses_second more second r.0 between o r.2 s)

-- a name of one of the lists is one of both
pub named_first : (first second : List (Input × List ℕ)) (name : List ℕ) → IsNamedIn first name → IsNamedIn (first ++ second) name
named_first [] second name is = absurd is
named_first (input ∷ more) second name (inl is) = inl is
named_first (input ∷ more) second name (inr later) = inr (named_first more second name later)

pub named_second : (first second : List (Input × List ℕ)) (name : List ℕ) → IsNamedIn second name → IsNamedIn (first ++ second) name
named_second [] second name is = is
named_second (input ∷ more) second name is = inr (named_second more second name is)
