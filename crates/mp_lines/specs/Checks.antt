-- Checks, and the fields of a line.
use Rattle.std.specs.Prelude.{◌≡◌, ℕ, ◌+◌, Bool, List, [], ◌∷◌, drop, length, map, Some, Result, Ok, Err, if◌then◌else◌}
use Rattle.std.specs.List.{flat_map, slice_get, slice_index_or, zip}
use Rattle.mp_text.specs.Numbers.{value_of}

-- the field at a place of a line, from 0, or no bytes where there is none
abbrev pub field_at : List (List ℕ) → ℕ → List ℕ
field_at fields place = slice_index_or fields place []

-- the number that this field says
abbrev pub number_at : List (List ℕ) → ℕ → ℕ
number_at fields place = value_of (field_at fields place)

module _ {Reason : Type 0} where
  -- a check: the reason, where it fails
  abbrev pub check : Bool → Reason → List Reason
  check passes why = if passes then [] else why ∷ []

module _ {T Reason : Type 0} where
  -- an answer after checks: where none fails a value for which P holds, else the first that fails
  abbrev pub AnswersChecks : Result T Reason → List Reason → (T → Type 0) → Type 0
  AnswersChecks (Ok x) failures P = (failures ≡ []) × P x
  AnswersChecks (Err why) failures P = slice_get failures 0 ≡ Some why

module _ {Check Reason : Type 0} where
  -- the checks that fields fail, from left to right
  abbrev pub failures_of_fields : (Check → List ℕ → List Reason) → List Check → List (List ℕ) → List Reason
  failures_of_fields failures checks fields = flat_map (λ c. failures c.0 c.1) (zip checks fields)

  -- a line has a field for each check after the first, and each passes its check
  pub record FieldsPass (failures : Check → List ℕ → List Reason) (checks : List Check) (fields : List (List ℕ)) : Type 0 where
    pub count : length fields ≡ length checks + 1
    pub pass : failures_of_fields failures checks (drop 1 fields) ≡ []

module _ {Check : Type 0} where
  -- the numbers of fields, from left to right, each by its check
  abbrev pub numbers_of : (Check → List ℕ → ℕ) → List Check → List (List ℕ) → List ℕ
  numbers_of number checks fields = map (λ c. number c.0 c.1) (zip checks fields)
