-- The fields of a line that pass their checks, one by one.
use Rattle.std.proofs.Common.{◌≡◌, ◌+◌, ◌<◌, ℕ, zero, suc, List, [], ◌∷◌, drop, get_or, length, take, ap, sym, ◌∙◌, arith, length-drop}
use Rattle.std.specs.List.{zip}
use Rattle.std.proofs.lemmas.Grind.{get_or_after_one}
use Rattle.std.proofs.lemmas.List.{get_or-map, get_or-take}
use Rattle.std.proofs.lemmas.Slice.Zip.{get_or-zip, length-zip}
use Rattle.mp_lines.specs.Checks.{FieldsPass, failures_of_fields, field_at, numbers_of}
use Rattle.mp_lines.proofs.Starts.{empty_parts}

module _ {Check Reason : Type 0} (failures : Check → List ℕ → List Reason) where
  -- where no field fails its check, the one at a place does not
  field_passes : (checks : List Check) (fields : List (List ℕ)) (k : ℕ) (c : Check) → failures_of_fields failures checks fields ≡ []
      → k < length checks → k < length fields → failures (get_or checks k c) (get_or fields k []) ≡ []
  field_passes [] fields k c e low there = absurd (omega (arith, low))
  field_passes (d ∷ checks) [] k c e low there = absurd (omega (arith, there))
  field_passes (d ∷ checks) (f ∷ fields) zero c e low there = (empty_parts (failures d f) (failures_of_fields failures checks fields) e).0
  field_passes (d ∷ checks) (f ∷ fields) (suc k) c e low there =
      field_passes checks fields k c (empty_parts (failures d f) (failures_of_fields failures checks fields) e).1 (omega (arith, low)) (omega (arith, there))

  -- so where those of a line pass, the one at a place after the first does
  pub passes_at : (checks : List Check) (fields : List (List ℕ)) (k : ℕ) (c : Check) → FieldsPass failures checks fields → k < length checks
      → get_or checks k c ≡ c → failures c (field_at fields (1 + k)) ≡ []
  passes_at checks fields k c h low is =
      let there : k < length (drop 1 fields) = omega (arith, length-drop 1 fields, h.count) in
      rw (is, get_or_after_one fields k []) at (field_passes checks (drop 1 fields) k c h.pass low there)

module _ {Check : Type 0} (number : Check → List ℕ → ℕ) where
  -- one of the numbers, by its check
  get_or-numbers_of : (checks : List Check) (fields : List (List ℕ)) (k : ℕ) (c : Check) → k < length checks → k < length fields
      → get_or (numbers_of number checks fields) k 0 ≡ number (get_or checks k c) (get_or fields k [])
  get_or-numbers_of checks fields k c low there =
      let both : k < length (zip checks fields) = omega (arith, length-zip checks fields) in
      get_or-map (λ (p : Check × List ℕ). number p.0 p.1) (zip checks fields) k (c, []) 0 both
      ∙ ap (λ (p : Check × List ℕ). number p.0 p.1) (get_or-zip checks fields k (c, []) low there)

  -- of the numbers that were read, one is that of the field at its place after the first
  pub number_read : (checks : List Check) (fields : List (List ℕ)) (numbers : List ℕ) (k : ℕ) (c : Check) → length fields ≡ length checks + 1
      → take (length checks) numbers ≡ numbers_of number checks (drop 1 fields) → k < length checks → get_or checks k c ≡ c
      → get_or numbers k 0 ≡ number c (field_at fields (1 + k))
  number_read checks fields numbers k c count read low is =
      let there : k < length (drop 1 fields) = omega (arith, length-drop 1 fields, count) in
      sym (get_or-take (length checks) numbers k 0 low)
      ∙ ap (λ ns. get_or ns k 0) read
      ∙ get_or-numbers_of checks (drop 1 fields) k c low there
      ∙ ap (λ d. number d (get_or (drop 1 fields) k [])) is
      ∙ ap (number c) (get_or_after_one fields k [])
