-- The values of rules that lines say.
use Rattle.std.specs.Prelude.{◌==◌, ◌++◌, ◌∷◌, ℕ, Bool, false, not, Option, None, Some, List, [], length, map, slice_index_or, slice_set}
use Rattle.std.specs.List.{position}
use Rattle.std.specs.Option.{is_some, unwrap_or}
use Rattle.std.specs.Str.{bytes_eq}
use Rattle.mp_control.specs.declared.refused.ControlReason.{ControlReason}
use Rattle.mp_control.specs.declared.refused.ControlReason.TheVariants.{Fields, Name, Late, Twice}
use Rattle.mp_control.specs.Reasons.{reason_of}
use Rattle.mp_lines.specs.Checks.{check, field_at}
use Rattle.mp_lines.specs.Limits.{failures_of_number}
use Rattle.mp_lines.specs.declared.limits.NumberLimit.{NumberLimit}
use Rattle.mp_lines.specs.declared.limits.NumberLimit.TheVariants.{Between}
use Rattle.mp_model.specs.Rules.{RuleFacts}

-- the place of the rule of this name, the first of them if there are more
abbrev pub place_of : List RuleFacts → List ℕ → Option ℕ
place_of rules name = position (λ rule. bytes_eq rule.name name) rules

-- what stands where there is no rule
abbrev pub no_rule : RuleFacts
no_rule = record { name = []; least = 0; greatest = 0; given = 0 }

-- the limit of the value of the rule at a place
abbrev pub limit_at : List RuleFacts → ℕ → NumberLimit
limit_at rules place = let rule = slice_index_or rules place no_rule in Between rule.least rule.greatest

-- the checks that the value of the rule at a place fails; there has to be such a rule
abbrev pub failures_of_value : List RuleFacts → Option ℕ → List ℕ → List ControlReason
failures_of_value rules None field = Name ∷ []
failures_of_value rules (Some place) field = map reason_of (failures_of_number (limit_at rules place) field)

-- the checks that the fields of a rule's line fail: there are three, the name is that of a rule, and the value is within it
abbrev pub failures_of_rule_fields : List RuleFacts → List (List ℕ) → List ControlReason
failures_of_rule_fields rules fields =
    check (length fields == 3) Fields ++ failures_of_value rules (place_of rules (field_at fields 1)) (field_at fields 2)

-- a value was said of the rule at this place
abbrev pub is_said : List (Option ℕ) → Option ℕ → Bool
is_said values None = false
is_said values (Some place) = is_some (slice_index_or values place None)

-- the checks that a rule's line fails, in order: its fields, that no control line stands before it, and that none of this name does
abbrev pub failures_of_rule : List RuleFacts → Bool → List (Option ℕ) → List (List ℕ) → List ControlReason
failures_of_rule rules late values fields =
    failures_of_rule_fields rules fields
    ++ check (not late) Late
    ++ check (not (is_said values (place_of rules (field_at fields 1)))) Twice

-- the values that were said, with that of the rule at this place
abbrev pub with_value : List (Option ℕ) → Option ℕ → ℕ → List (Option ℕ)
with_value values None value = values
with_value values (Some place) value = slice_set values place (Some value)

-- for each rule the value that was said, else the given one
abbrev pub values_by : List RuleFacts → List (Option ℕ) → List ℕ
values_by [] values = []
values_by (rule ∷ rules) [] = rule.given ∷ values_by rules []
values_by (rule ∷ rules) (value ∷ values) = unwrap_or value rule.given ∷ values_by rules values
