-- The values that were said of rules.
use Rattle.std.proofs.Common.{◌≡◌, ◌+◌, ◌<◌, ◌∷◌, ◌∙◌, ℕ, Bool, true, false, not, None, Some, List, [], cond, get_or, length, map, ap, refl, arith}
use Rattle.std.specs.Prelude.{nat_lt}
use Rattle.std.specs.List.{position, position_or_len, prefix_len}
use Rattle.std.specs.Str.{bytes_eq}
use Rattle.std.proofs.lemmas.Bool.{eq-eqb, ltb-true}
use Rattle.std.proofs.lemmas.List.{get_or-map, length-map}
use Rattle.mp_control.specs.Reasons.{reason_of}
use Rattle.mp_control.specs.Values.{failures_of_rule_fields, limit_at, no_rule, place_of, values_by}
use Rattle.mp_lines.specs.Checks.{field_at}
use Rattle.mp_lines.specs.Limits.{failures_of_number}
use Rattle.mp_lines.specs.declared.limits.NumberLimit.{NumberLimit}
use Rattle.mp_lines.specs.declared.limits.NumberLimit.TheVariants.{Between}
use Rattle.mp_model.specs.declared.rules.Rule.{Rule}
use Rattle.mp_model.specs.Rules.{RuleFacts, given_values}

-- what contracts see of a rule, and of rules
abbrev pub fact_of : Rule → RuleFacts
fact_of r = record { name = r.name.now; least = r.least; greatest = r.greatest; given = r.given }

abbrev pub facts_of : List Rule → List RuleFacts
facts_of rules = map fact_of rules

prefix_len-map : {X Y : Type 0} (p : Y → Bool) (f : X → Y) (xs : List X) → prefix_len p (map f xs) ≡ prefix_len (λ x. p (f x)) xs
prefix_len-map p f [] = refl
prefix_len-map p f (x ∷ xs) = ap (λ (n : ℕ). cond (p (f x)) (1 + n) 0) (prefix_len-map p f xs)

-- the place of a name among what contracts see
pub place_of-facts : (rules : List Rule) (name : List ℕ) → place_of (facts_of rules) name ≡ position (λ r. bytes_eq r.name.now name) rules
place_of-facts rules name = rw (prefix_len-map (λ (r : RuleFacts). not (bytes_eq r.name name)) fact_of rules, length-map rules fact_of) refl

-- it is the place of a rule
pub place_below : (rules : List RuleFacts) (name : List ℕ) (k : ℕ) → place_of rules name ≡ Some k → k < length rules
place_below rules name k e = cases (nat_lt (position_or_len (λ r. bytes_eq r.name name) rules) (length rules)) refl e
  where
    cases : (b : Bool) → nat_lt (position_or_len (λ r. bytes_eq r.name name) rules) (length rules) ≡ b → cond b (Some (position_or_len (λ r. bytes_eq r.name name) rules)) None ≡ Some k
        → k < length rules
    cases true is e = let same : position_or_len (λ r. bytes_eq r.name name) rules ≡ k = cc in omega (arith, same, ltb-true _ _ is)
    cases false is e = absurd (cc)

-- the fields of a rule's line pass where there are three, the name is that of a rule and the value is within it
pub passes_rule : (rules : List Rule) (fields : List (List ℕ)) (k : ℕ) (d : Rule) → length fields ≡ 3 → place_of (facts_of rules) (field_at fields 1) ≡ Some k
    → failures_of_number (Between (get_or rules k d).least (get_or rules k d).greatest) (field_at fields 2) ≡ [] → failures_of_rule_fields (facts_of rules) fields ≡ []
passes_rule rules fields k d count there pass =
    let low : k < length rules = omega (arith, place_below (facts_of rules) (field_at fields 1) k there, length-map rules fact_of) in
    let limit : limit_at (facts_of rules) k ≡ Between (get_or rules k d).least (get_or rules k d).greatest = ap (λ (r : RuleFacts). Between r.least r.greatest) (get_or-map fact_of rules k d no_rule low) in
    rw (eq-eqb _ _ count, there) (ap (map reason_of) (ap (λ (l : NumberLimit). failures_of_number l (field_at fields 2)) limit ∙ pass))

-- with nothing said, the values are the given ones
by_nothing : (rules : List RuleFacts) → values_by rules [] ≡ given_values rules
by_nothing [] = refl
by_nothing (rule ∷ rules) = ap (λ ns. rule.given ∷ ns) (by_nothing rules)

pub by_none : (rules : List RuleFacts) → values_by rules (None ∷ None ∷ []) ≡ given_values rules
by_none [] = refl
by_none (rule ∷ []) = refl
by_none (rule ∷ next ∷ rules) = ap (λ ns. rule.given ∷ next.given ∷ ns) (by_nothing rules)
