-- Settled values are within their rules.
use Rattle.std.specs.Prelude.{ℕ, ◌≡◌, ◌≤◌, Bool, true, false, List, [], ◌∷◌, get_or, nat_le, refl}
use Rattle.std.proofs.Common.{cond}
use Rattle.std.proofs.lemmas.Bool.{and_parts, false≢true, leb-true}
use Rattle.mp_model.specs.Rules.{RuleFacts, are_within, given_values, is_within, settled}

-- a value is within its rule
abbrev pub IsWithin : RuleFacts → ℕ → Type 0
IsWithin rule value = (rule.least ≤ value) × (value ≤ rule.greatest)

-- they are, where the given ones are
pub settled_within : (rules : List RuleFacts) (vs : List ℕ) → are_within rules (given_values rules) ≡ true → are_within rules (settled rules vs) ≡ true
settled_within rules vs given = cases (are_within rules vs) refl
  where
    cases : (b : Bool) → are_within rules vs ≡ b → are_within rules (cond b vs (given_values rules)) ≡ true
    cases true e = e
    cases false e = given

-- the first of values is then within the first of rules
pub first_within : (rule : RuleFacts) (rules : List RuleFacts) (vs : List ℕ) (d : ℕ) → are_within (rule ∷ rules) vs ≡ true → IsWithin rule (get_or vs 0 d)
first_within rule rules [] d e = absurd (false≢true e)
first_within rule rules (v ∷ vs) d e =
    let within = and_parts (nat_le rule.least v) (nat_le v rule.greatest) (and_parts (is_within rule v) (are_within rules vs) e).0 in
    (leb-true rule.least v within.0, leb-true v rule.greatest within.1)

-- and the second within the second
pub second_within : (first second : RuleFacts) (vs : List ℕ) (d : ℕ) → are_within (first ∷ second ∷ []) vs ≡ true → IsWithin second (get_or vs 1 d)
second_within first second [] d e = absurd (false≢true e)
second_within first second (v ∷ vs) d e = first_within second [] vs d (and_parts (is_within first v) (are_within (second ∷ []) vs) e).1
