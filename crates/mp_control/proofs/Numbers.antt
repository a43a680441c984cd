-- The numbers that were read are those of the line, and within their limits.
use Rattle.std.proofs.Common.{◌≡◌, ◌+◌, ◌<◌, ◌≤◌, ◌^◌, lit<, ℕ, true, List, [], ◌∷◌, length, drop, get_or, map, take, refl, ap, sym, ◌∙◌, arith, length-drop}
use Rattle.std.specs.Prelude.{nat_le}
use Rattle.std.proofs.lemmas.Bool.{and_parts, eqb-true, leb-true, ltb-true}
use Rattle.std.proofs.lemmas.Grind.{get_or_after_one}
use Rattle.std.proofs.lemmas.List.{get_or-map, get_or-take}
use Rattle.mp_control.specs.declared.kinds.LineKind.{LineKind}
use Rattle.mp_control.specs.declared.kinds.LineKind.TheVariants.{Record, AllAtOnce, Fluid, Batched}
use Rattle.mp_control.specs.Controls.{numbers_in}
use Rattle.mp_control.specs.Kinds.{FitsWords, failures_within, limits_of, line_of}
use Rattle.mp_control.specs.Read.{HasSize, IsPassed, IsSmall, StageFits}
use Rattle.mp_lines.specs.declared.limits.NumberLimit.{NumberLimit}
use Rattle.mp_lines.specs.declared.limits.NumberLimit.TheVariants.{UpTo, Below, Between}
use Rattle.mp_lines.specs.Checks.{FieldsPass, field_at, numbers_of}
use Rattle.mp_lines.specs.Limits.{failures_of_number, is_within}
use Rattle.mp_lines.proofs.FieldsRead.{passes_at}
use Rattle.mp_lines.proofs.LimitSteps.{passes_limit}
use Rattle.mp_lines.proofs.Starts.{empty_map, empty_parts, passes}
use Rattle.mp_names.specs.Limits.{greatest_time}
use Rattle.mp_names.specs.declared.controls.Shape.{Shape}
use Rattle.mp_text.specs.Numbers.{value_of}

-- the numbers that limits and as many fields give are those of the fields
pub values : (limits : List NumberLimit) (fields : List (List ℕ)) → length fields ≡ length limits → numbers_of (λ _ field. value_of field) limits fields ≡ map value_of fields
values [] [] e = refl
values [] (f ∷ fields) e = absurd (omega (arith, e))
values (l ∷ limits) [] e = absurd (omega (arith, e))
values (l ∷ limits) (f ∷ fields) e = ap (λ ns. value_of f ∷ ns) (values limits fields (omega (arith, e)))

-- fields that fail none of their checks pass
pub fields_pass : (limits : List NumberLimit) (fields : List (List ℕ)) → failures_within limits fields ≡ [] → FieldsPass failures_of_number limits fields
fields_pass limits fields e =
    let parts = empty_parts _ _ e in record { count = eqb-true _ _ (passes _ _ parts.0); pass = empty_map _ _ parts.1 }

-- where they pass, the number of one is within its limit
pub number_passes : (limits : List NumberLimit) (fields : List (List ℕ)) (k : ℕ) (limit : NumberLimit) → FieldsPass failures_of_number limits fields → k < length limits
    → get_or limits k limit ≡ limit → is_within limit (get_or (numbers_in fields) k 0) ≡ true
number_passes limits fields k limit h low is =
    let there : k < length (drop 1 fields) = omega (arith, length-drop 1 fields, h.count, low) in
    let pass = passes_at failures_of_number limits fields k limit h low is in
    ap (is_within limit) (get_or-map value_of (drop 1 fields) k [] 0 there ∙ ap value_of (get_or_after_one fields k [])) ∙ passes_limit limit (field_at fields (1 + k)) pass

number_within : (shape : Shape) (kind : LineKind) (fields : List (List ℕ)) (k : ℕ) (limit : NumberLimit) → IsPassed shape kind fields → k < length (limits_of shape kind)
    → get_or (limits_of shape kind) k limit ≡ limit → is_within limit (get_or (numbers_in fields) k 0) ≡ true
number_within shape kind fields k limit h low is = number_passes (limits_of shape kind) fields k limit h low is

-- a number between 1 and 4096 is at least the one and at most the other
between : (n : ℕ) → is_within (Between 1 4096) n ≡ true → (1 ≤ n) × (n ≤ 4096)
between n e = let both = and_parts (nat_le 1 n) (nat_le n 4096) e in (leb-true 1 n both.0, leb-true n 4096 both.1)

-- so what it says is within the limits of the shape
pub stage_fits : (shape : Shape) (kind : LineKind) (fields : List (List ℕ)) → IsPassed shape kind fields → StageFits shape (line_of kind (numbers_in fields))
stage_fits shape Record fields h =
    let number = number_within shape Record fields in record {
      in_time = leb-true _ _ (number 0 (UpTo greatest_time) h (lit< tt) refl);
      within = (ltb-true _ _ (number 3 (Below shape.workers) h (lit< tt) refl), ltb-true _ _ (number 2 (Below shape.bins) h (lit< tt) refl), ltb-true _ _ (number 1 (Below shape.stages) h (lit< tt) refl));
    }
stage_fits shape AllAtOnce fields h = ltb-true _ _ (number_within shape AllAtOnce fields 1 (Below shape.stages) h (lit< tt) refl)
stage_fits shape Fluid fields h = ltb-true _ _ (number_within shape Fluid fields 2 (Below shape.stages) h (lit< tt) refl)
stage_fits shape Batched fields h = ltb-true _ _ (number_within shape Batched fields 3 (Below shape.stages) h (lit< tt) refl)

-- and a batch has a bin
pub has_size : (shape : Shape) (kind : LineKind) (fields : List (List ℕ)) → IsPassed shape kind fields → HasSize (line_of kind (numbers_in fields))
has_size shape Record fields h = tt
has_size shape AllAtOnce fields h = tt
has_size shape Fluid fields h = tt
has_size shape Batched fields h =
    (between _ (number_within shape Batched fields 2 (Between 1 4096) h (lit< tt) refl)).0

-- the numbers that were read say what those of the line do
pub line_of-read : (shape : Shape) (kind : LineKind) (fields : List (List ℕ)) (ns : List ℕ) → take (length (limits_of shape kind)) ns ≡ numbers_in fields → line_of kind ns ≡ line_of kind (numbers_in fields)
line_of-read shape Record fields ns e =
    rw (← e, get_or-take 4 ns 0 0 (lit< tt), get_or-take 4 ns 1 0 (lit< tt), get_or-take 4 ns 2 0 (lit< tt), get_or-take 4 ns 3 0 (lit< tt)) refl
line_of-read shape AllAtOnce fields ns e =
    rw (← e, get_or-take 3 ns 0 0 (lit< tt), get_or-take 3 ns 1 0 (lit< tt), get_or-take 3 ns 2 0 (lit< tt)) refl
line_of-read shape Fluid fields ns e =
    rw (← e, get_or-take 4 ns 0 0 (lit< tt), get_or-take 4 ns 1 0 (lit< tt), get_or-take 4 ns 2 0 (lit< tt), get_or-take 4 ns 3 0 (lit< tt)) refl
line_of-read shape Batched fields ns e =
    rw (← e, get_or-take 5 ns 0 0 (lit< tt), get_or-take 5 ns 1 0 (lit< tt), get_or-take 5 ns 2 0 (lit< tt), get_or-take 5 ns 3 0 (lit< tt), get_or-take 5 ns 4 0 (lit< tt)) refl

-- a number up to 255, or below one that fits 32 bits, fits these
short : (n : ℕ) → n ≤ 255 → n < 2 ^ 32
short n low = let small : 255 < 2 ^ 32 = lit< tt in omega (arith, low, small)

-- the numbers that are no times do
pub small_numbers : (shape : Shape) (kind : LineKind) (fields : List (List ℕ)) (ns : List ℕ) → IsPassed shape kind fields → take (length (limits_of shape kind)) ns ≡ numbers_in fields
    → FitsWords shape → IsSmall kind ns
small_numbers shape Record fields ns h e words =
    let fits = stage_fits shape Record fields h in
    let read : (k : ℕ) → k < 4 → get_or ns k 0 ≡ get_or (numbers_in fields) k 0 = λ k low. sym (get_or-take 4 ns k 0 low) ∙ ap (λ l. get_or l k 0) e in (
      rw (read 1 (lit< tt)) (omega (arith, fits.within.2, words.stages)),
      rw (read 2 (lit< tt)) (omega (arith, fits.within.1, words.bins)),
      rw (read 3 (lit< tt)) (omega (arith, fits.within.0, words.workers)),
    )
small_numbers shape AllAtOnce fields ns h e words =
    let read : (k : ℕ) → k < 3 → get_or ns k 0 ≡ get_or (numbers_in fields) k 0 = λ k low. sym (get_or-take 3 ns k 0 low) ∙ ap (λ l. get_or l k 0) e in (
      rw (read 1 (lit< tt)) (omega (arith, stage_fits shape AllAtOnce fields h, words.stages)),
      rw (read 2 (lit< tt)) (short _ (leb-true _ _ (number_within shape AllAtOnce fields 2 (UpTo 255) h (lit< tt) refl))),
    )
small_numbers shape Fluid fields ns h e words =
    let read : (k : ℕ) → k < 4 → get_or ns k 0 ≡ get_or (numbers_in fields) k 0 = λ k low. sym (get_or-take 4 ns k 0 low) ∙ ap (λ l. get_or l k 0) e in (
      rw (read 2 (lit< tt)) (omega (arith, stage_fits shape Fluid fields h, words.stages)),
      rw (read 3 (lit< tt)) (short _ (leb-true _ _ (number_within shape Fluid fields 3 (UpTo 255) h (lit< tt) refl))),
    )
small_numbers shape Batched fields ns h e words =
    let read : (k : ℕ) → k < 5 → get_or ns k 0 ≡ get_or (numbers_in fields) k 0 = λ k low. sym (get_or-take 5 ns k 0 low) ∙ ap (λ l. get_or l k 0) e in
    let most : get_or (numbers_in fields) 2 0 ≤ 4096 = (between (get_or (numbers_in fields) 2 0) (number_within shape Batched fields 2 (Between 1 4096) h (lit< tt) refl)).1 in
    let small : 4096 < 2 ^ 32 = lit< tt in (
      rw (read 2 (lit< tt)) (omega (arith, most, small)),
      rw (read 3 (lit< tt)) (omega (arith, stage_fits shape Batched fields h, words.stages)),
      rw (read 4 (lit< tt)) (short _ (leb-true _ _ (number_within shape Batched fields 4 (UpTo 255) h (lit< tt) refl))),
    )
