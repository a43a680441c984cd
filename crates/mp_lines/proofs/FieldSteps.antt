-- How far the fields of a line are read.
use Rattle.std.proofs.Common.{◌≡◌, ◌+◌, ◌<◌, ◌≤◌, ℕ, List, [], ◌∷◌, ◌++◌, Some, length, drop, take, set, refl, ap, ◌∙◌, arith, append_assoc}
use Rattle.std.proofs.Math.ListN.{length-set}
use Rattle.std.proofs.lemmas.Option.{slice_get_within}
use Rattle.std.specs.List.{slice_get}
use Rattle.std.proofs.lemmas.List.{take_more_set}
use Rattle.mp_lines.specs.Checks.{failures_of_fields, numbers_of}
use Rattle.mp_lines.proofs.Starts.{slice_get-append}
use Rattle.mp_text.proofs.FieldLemmas.{drop-from_slice_get}

module _ {Check Reason : Type 0} (failures : Check → List ℕ → List Reason) (number : Check → List ℕ → ℕ) where
  -- the fields before a place pass their checks, their numbers stand, and there is room for all of them
  pub record IsReadUpTo (checks : List Check) (fields : List (List ℕ)) (place : ℕ) (numbers : List ℕ) : Type 0 where
    pub passed : failures_of_fields failures checks (drop 1 fields) ≡ failures_of_fields failures (drop place checks) (drop (place + 1) fields)
    pub read : take place numbers ++ numbers_of number (drop place checks) (drop (place + 1) fields) ≡ numbers_of number checks (drop 1 fields)
    pub room : length checks ≤ length numbers

  -- one field that passes its check
  pub past_field : (checks : List Check) (fields : List (List ℕ)) (place : ℕ) (numbers : List ℕ) (c : Check) (field : List ℕ) (n : ℕ)
      → IsReadUpTo checks fields place numbers → slice_get checks place ≡ Some c → slice_get fields (place + 1) ≡ Some field
      → failures c field ≡ [] → n ≡ number c field → IsReadUpTo checks fields (place + 1) (set numbers place n)
  past_field checks fields place numbers c field n h here there passes is =
      let low : place < length numbers = omega (arith, slice_get_within checks place c here, h.room) in
      let cs = drop-from_slice_get checks place c here in
      let fs = drop-from_slice_get fields (place + 1) field there in
      let later : List ℕ = numbers_of number (drop (place + 1) checks) (drop (place + 1 + 1) fields) in
      let before = rw (cs, fs) at h.read in record {
        passed = h.passed ∙ rw (cs, fs, passes) refl;
        read =
            ap (λ ns. ns ++ later) (take_more_set numbers place n low)
            ∙ append_assoc (take place numbers) (n ∷ []) later
            ∙ ap (λ m. take place numbers ++ m ∷ later) is
            ∙ before;
        room = omega (arith, h.room, length-set {A = ℕ});
      }

  -- the first field that fails its check
  pub fails_field : (checks : List Check) (fields : List (List ℕ)) (place : ℕ) (numbers : List ℕ) (c : Check) (field : List ℕ) (why : Reason)
      → IsReadUpTo checks fields place numbers → slice_get checks place ≡ Some c → slice_get fields (place + 1) ≡ Some field
      → slice_get (failures c field) 0 ≡ Some why → slice_get (failures_of_fields failures checks (drop 1 fields)) 0 ≡ Some why
  fails_field checks fields place numbers c field why h here there fails =
      let cs = drop-from_slice_get checks place c here in
      let fs = drop-from_slice_get fields (place + 1) field there in
      rw (h.passed, cs, fs) (slice_get-append (failures c field) _ why fails)
