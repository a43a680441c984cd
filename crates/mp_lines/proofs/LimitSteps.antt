-- A field that should be a number within a limit, or a name.
use Rattle.std.proofs.Common.{◌≡◌, ◌<◌, ◌≤◌, ℕ, Bool, true, false, List, [], ◌++◌, Some, Ok, Err, cond, length, refl, sym, ◌∙◌, ap, arith}
use Rattle.std.specs.Prelude.{nat_le, ◌&&◌}
use Rattle.std.specs.List.{slice_get}
use Rattle.std.proofs.lemmas.Bool.{and_parts, le-ltb, leb-false, leb-true, ltb-true}
use Rattle.mp_lines.specs.declared.fields.FieldLimit.TheVariants.{NumberWithin, NameUpTo}
use Rattle.mp_lines.specs.declared.limits.NumberLimit.{NumberLimit}
use Rattle.mp_lines.specs.declared.limits.NumberLimit.TheVariants.{UpTo, Below, Between}
use Rattle.mp_lines.specs.Checks.{AnswersChecks, check}
use Rattle.mp_lines.specs.Limits.{bound_of, failures_of_field, failures_of_number, is_within}
use Rattle.mp_lines.proofs.Starts.{empty_map, empty_parts, passes}
use Rattle.mp_text.specs.declared.numbers.BadNumber.{BadNumber}
use Rattle.mp_text.specs.declared.numbers.BadNumber.TheVariants.{Digits, Range}
use Rattle.mp_text.specs.Numbers.{is_number, number_of, value_of}

and_false : (b : Bool) → (b && false) ≡ false
and_false true = refl
and_false false = refl

-- a number above the limit's own is outside
outside : (limit : NumberLimit) (n : ℕ) → nat_le n (bound_of limit) ≡ false → is_within limit n ≡ false
outside (UpTo max) n above = above
outside (Below bound) n above = let high : bound < n = leb-false _ _ above in le-ltb _ _ (omega (arith, high))
outside (Between least most) n above = rw above (and_false (nat_le least n))

-- what was read as a number that isn't above the limit's own
pub is_read : (limit : NumberLimit) (field : List ℕ) (n : ℕ) → Ok n ≡ number_of field (bound_of limit) → (is_number field ≡ true) × (n ≡ value_of field)
unfolding number_of
is_read limit field n e = cases (is_number field) (nat_le (value_of field) (bound_of limit)) e
  where
    cases : (digits low : Bool) → Ok n ≡ cond digits (cond low (Ok (value_of field)) (Err Range)) (Err Digits) → (digits ≡ true) × (n ≡ value_of field)
    cases true true e = (refl, cc)
    cases true false e = absurd (cc)
    cases false low e = absurd (cc)

-- the number that was read isn't above it
pub is_read-low : (limit : NumberLimit) (field : List ℕ) (n : ℕ) → Ok n ≡ number_of field (bound_of limit) → n ≤ bound_of limit
unfolding number_of
is_read-low limit field n e = cases (is_number field) (nat_le (value_of field) (bound_of limit)) refl e
  where
    cases : (digits low : Bool) → nat_le (value_of field) (bound_of limit) ≡ low → Ok n ≡ cond digits (cond low (Ok (value_of field)) (Err Range)) (Err Digits) → n ≤ bound_of limit
    cases true true is e = let same : n ≡ value_of field = cc in omega (arith, same, leb-true _ _ is)
    cases true false is e = absurd (cc)
    cases false low is e = absurd (cc)

-- and is within the limit
pub within_limit : (limit : NumberLimit) (field : List ℕ) (n : ℕ) → Ok n ≡ number_of field (bound_of limit) → is_within limit n ≡ true
    → AnswersChecks (Ok n) (failures_of_number limit field) (λ m. m ≡ value_of field)
within_limit limit field n e inside =
    let read = is_read limit field n e in
    let same : is_within limit (value_of field) ≡ true = ap (is_within limit) (sym read.1) ∙ inside in
    (rw (read.0, same) refl, read.1)

-- or isn't
pub past_limit : (limit : NumberLimit) (field : List ℕ) (n : ℕ) → Ok n ≡ number_of field (bound_of limit) → is_within limit n ≡ false
    → slice_get (failures_of_number limit field) 0 ≡ Some Range
past_limit limit field n e out =
    let read = is_read limit field n e in
    let same : is_within limit (value_of field) ≡ false = ap (is_within limit) (sym read.1) ∙ out in
    rw (read.0, same) refl

-- what was not read fails the check for which it was refused
pub not_read : (limit : NumberLimit) (field : List ℕ) (why : BadNumber) → Err why ≡ number_of field (bound_of limit)
    → slice_get (failures_of_number limit field) 0 ≡ Some why
unfolding number_of
not_read limit field why e = cases (is_number field) (nat_le (value_of field) (bound_of limit)) refl e
  where
    cases : (digits low : Bool) → nat_le (value_of field) (bound_of limit) ≡ low → Err why ≡ cond digits (cond low (Ok (value_of field)) (Err Range)) (Err Digits)
        → slice_get (check digits Digits ++ check (is_within limit (value_of field)) Range) 0 ≡ Some why
    cases true true is e = absurd (cc)
    cases true false is e = let same : Range ≡ why = cc in rw (outside limit (value_of field) is) (ap Some same)
    cases false low is e = let same : Digits ≡ why = cc in ap Some same

-- a field that fails no check is within the limit
pub passes_limit : (limit : NumberLimit) (field : List ℕ) → failures_of_number limit field ≡ [] → is_within limit (value_of field) ≡ true
passes_limit limit field e = passes _ _ (empty_parts (check (is_number field) Digits) _ e).1

-- a number's field that fails no check says a number within the limit
pub number_within : (limit : NumberLimit) (field : List ℕ) → failures_of_field (NumberWithin limit) field ≡ [] → is_within limit (value_of field) ≡ true
number_within limit field e = passes_limit limit field (empty_map _ _ e)

-- a name's field that fails none has one byte at least and at most so many
pub name_within : (most : ℕ) (field : List ℕ) → failures_of_field (NameUpTo most) field ≡ [] → (0 < length field) × (length field ≤ most)
name_within most field e = let both = and_parts _ _ (passes _ _ e) in (ltb-true _ _ both.0, leb-true _ _ both.1)
