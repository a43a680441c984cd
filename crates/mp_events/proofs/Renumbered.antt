-- What lines say under other numbers: the numbers are greater by as much, and nothing else changes.
use Rattle.std.proofs.Common.{◌≡◌, ◌+◌, ◌<◌, ℕ, true, false, Ok, Err, List, [], ◌∷◌, ◌++◌, length, map, refl, ap, ⊎_elim, arith}
use Rattle.std.specs.List.{enumerate_from}
use Rattle.std.proofs.lemmas.Bool.{cases_Bool}
use Rattle.mp_lines.specs.Files.{failures_from, filled, said_after, unless_failed}
use Rattle.mp_lines.specs.Rules.{LineRules}
use Rattle.mp_text.specs.Fields.{fields_of}
use Rattle.mp_text.specs.Lines.{is_blank}

-- one line, and those behind it

module _ {State Reason : Type 0} (said : State) (later : List (ℕ × Reason)) (n : ℕ) where
  first_below : (fails : List Reason) (number : ℕ) (why : Reason) (most : ℕ) → (unless_failed later said ≡ Err (number, why) → number < most) → n < most
      → unless_failed (map (λ w. (n, w)) fails ++ later) said ≡ Err (number, why) → number < most
  first_below [] number why most rest low e = rest e
  first_below (w ∷ fails) number why most rest low e =
      let pair : ◌≡◌ {A = ℕ × Reason} (n, w) (number, why) = cc in
      let same : n ≡ number = ap {A = ℕ × Reason} {B = ℕ} (λ p. p.0) pair in
      omega (arith, same, low)

  module _ (other : State) (other_later : List (ℕ × Reason)) (m : ℕ) where
    first_again : (fails : List Reason) (number : ℕ) (why : Reason)
        → (unless_failed later said ≡ Err (number, why) → unless_failed other_later other ≡ Err (number + m, why))
        → unless_failed (map (λ w. (n, w)) fails ++ later) said ≡ Err (number, why)
        → unless_failed (map (λ w. (n + m, w)) fails ++ other_later) other ≡ Err (number + m, why)
    first_again [] number why rest e = rest e
    first_again (w ∷ fails) number why rest e =
        let pair : (n, w) ≡ (number, why) = cc in
        ap (λ (p : ℕ × Reason). Err (p.0 + m, p.1)) pair

    none_again : (fails : List Reason) (all : State) → (unless_failed later said ≡ Ok all → unless_failed other_later other ≡ Ok other)
        → unless_failed (map (λ w. (n, w)) fails ++ later) said ≡ Ok all → unless_failed (map (λ w. (m, w)) fails ++ other_later) other ≡ Ok other
    none_again [] all rest e = rest e
    none_again (w ∷ fails) all rest e = absurd (cc)

module _ {State Reason : Type 0} (rules : LineRules State Reason) where
  -- the same is said
  pub said_again : (lines : List (List ℕ)) (m n : ℕ) (state : State) → said_after rules state (filled (enumerate_from m lines)) ≡ said_after rules state (filled (enumerate_from n lines))
  said_again [] m n state = refl
  said_again (line ∷ more) m n state =
      ⊎_elim
      (λ (e : is_blank line ≡ true). rw e (said_again more (m + 1) (n + 1) state))
      (λ (e : is_blank line ≡ false). rw e (said_again more (m + 1) (n + 1) (rules.after state (fields_of line))))
      (cases_Bool (is_blank line))

  -- the first line that fails a check is one of them
  pub number_within : (lines : List (List ℕ)) (n : ℕ) (state said : State) (number : ℕ) (why : Reason)
      → unless_failed (failures_from rules state (filled (enumerate_from n lines))) said ≡ Err (number, why) → number < n + length lines
  number_within [] n state said number why e = absurd (cc)
  number_within (line ∷ more) n state said number why e =
      ⊎_elim
      (λ (f : is_blank line ≡ true).
      let later = number_within more (n + 1) state said number why (rw f at e) in
      omega (arith, later))
      (λ (f : is_blank line ≡ false).
      let next : State = rules.after state (fields_of line) in
      first_below said (failures_from rules next (filled (enumerate_from (n + 1) more))) n (rules.failures state (fields_of line)) number why (n + length (line ∷ more))
      (λ g. let later = number_within more (n + 1) next said number why g in omega (arith, later))
      (omega arith)
      (rw f at e))
      (cases_Bool (is_blank line))

  -- the same line fails the same check first
  pub fails_again : (lines : List (List ℕ)) (m n : ℕ) (state said other : State) (number : ℕ) (why : Reason)
      → unless_failed (failures_from rules state (filled (enumerate_from n lines))) said ≡ Err (number, why)
      → unless_failed (failures_from rules state (filled (enumerate_from (n + m) lines))) other ≡ Err (number + m, why)
  fails_again [] m n state said other number why e = absurd (cc)
  fails_again (line ∷ more) m n state said other number why e =
      let next : State = rules.after state (fields_of line) in
      let up : n + m + 1 ≡ n + 1 + m = omega arith in
      ⊎_elim
      (λ (f : is_blank line ≡ true). rw (f, up) (fails_again more m (n + 1) state said other number why (rw f at e)))
      (λ (f : is_blank line ≡ false).
      rw (f, up)
      (first_again said (failures_from rules next (filled (enumerate_from (n + 1) more))) n other (failures_from rules next (filled (enumerate_from (n + 1 + m) more))) m (rules.failures state (fields_of line)) number why (λ g. fails_again more m (n + 1) next said other number why g) (rw f at e)))
      (cases_Bool (is_blank line))

  -- and where none fails one, none does
  pub passes_again : (lines : List (List ℕ)) (m n : ℕ) (state said other all : State)
      → unless_failed (failures_from rules state (filled (enumerate_from n lines))) said ≡ Ok all
      → unless_failed (failures_from rules state (filled (enumerate_from m lines))) other ≡ Ok other
  passes_again [] m n state said other all e = refl
  passes_again (line ∷ more) m n state said other all e =
      let next : State = rules.after state (fields_of line) in
      ⊎_elim
      (λ (f : is_blank line ≡ true). rw f (passes_again more (m + 1) (n + 1) state said other all (rw f at e)))
      (λ (f : is_blank line ≡ false).
      rw f
      (none_again said (failures_from rules next (filled (enumerate_from (n + 1) more))) n other (failures_from rules next (filled (enumerate_from (m + 1) more))) m (rules.failures state (fields_of line)) all (λ g. passes_again more (m + 1) (n + 1) next said other all g) (rw f at e)))
      (cases_Bool (is_blank line))

-- what is said where none fails
pub said_is : {State Reason : Type 0} (fails : List (ℕ × Reason)) (said all : State) → unless_failed fails said ≡ Ok all → said ≡ all
said_is [] said all e = cc
said_is (fail ∷ more) said all e = absurd (cc)
