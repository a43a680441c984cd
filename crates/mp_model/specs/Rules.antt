-- The rules of a query: its constants that a configuration may set.
use Rattle.std.specs.Prelude.{ℕ, ◌&&◌, Bool, true, false, List, [], ◌∷◌, map, nat_le, if◌then◌else◌}

-- a rule: its name, its least and its greatest value, and the one where a configuration says none
pub record RuleFacts : Type 0 where
  pub name : List ℕ
  pub least : ℕ
  pub greatest : ℕ
  pub given : ℕ

-- a value is within its rule
abbrev pub is_within : RuleFacts → ℕ → Bool
is_within rule value = nat_le rule.least value && nat_le value rule.greatest

-- there is one value for each rule, and each is within it
abbrev pub are_within : List RuleFacts → List ℕ → Bool
are_within [] [] = true
are_within (rule ∷ rules) (value ∷ values) = is_within rule value && are_within rules values
are_within _ _ = false

-- the values where a configuration says none
abbrev pub given_values : List RuleFacts → List ℕ
given_values rules = map (λ rule. rule.given) rules

-- the values, where they are allowed; else those that the rules give
abbrev pub settled : List RuleFacts → List ℕ → List ℕ
settled rules values = if are_within rules values then values else given_values rules

-- the numbers of a query that is given these values: they, where it has rules, else those that it had
abbrev pub numbers_with : List RuleFacts → List ℕ → List ℕ → List ℕ
numbers_with [] own given = own
numbers_with (rule ∷ rules) own given = given
