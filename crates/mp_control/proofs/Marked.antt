-- The marks of bins that have a first owner.
use Rattle.std.proofs.Common.{◌≡◌, ◌≢◌, ◌+◌, ◌*◌, ◌<◌, ◌/◌, ◌%◌, ◌==◌, ◌&&◌, ◌||◌, ◌++◌, ◌∷◌, ◌∙◌, ℕ, Bool, true, false, List, [], ap, sym, subst, ⊎_elim, arith}
use Rattle.std.specs.Prelude.{slice_index_or, slice_set}
use Rattle.std.proofs.Math.Bool.{or-false, or-true}
use Rattle.std.proofs.lemmas.Bool.{and_from, and_parts, cases_eq, eq-eqb, eqb-true, false_from_ne_true}
use Rattle.std.proofs.lemmas.List.{get_or-set_other, get_or-set_same, length-set}
use Rattle.std.proofs.lemmas.List.Folds.{list_any-append}
use Rattle.std.proofs.lemmas.Nat.{div-mul-add, mod-mul-add, row_fits_turned}
use Rattle.mp_bins.specs.Notes.{FirstFits}
use Rattle.mp_control.specs.Firsts.{AreMarked, has_first}
use Rattle.mp_names.specs.declared.controls.First.{First}
use Rattle.mp_names.specs.declared.controls.Shape.{Shape}

-- with one more, a bin has a first owner if it had one or this is its
has_first-push : (firsts : List First) (first : First) (stage bin : ℕ)
    → has_first (firsts ++ first ∷ []) stage bin ≡ (has_first firsts stage bin || (first.stage == stage && first.bin == bin))
has_first-push firsts first stage bin =
    list_any-append (λ f. f.stage == stage && f.bin == bin) firsts (first ∷ [])
    ∙ ap (λ (b : Bool). has_first firsts stage bin || b) (or-false (first.stage == stage && first.bin == bin))

module _ (shape : Shape) (firsts : List First) (marks : List Bool) (first : First) (fits : FirstFits shape first) (are : AreMarked shape firsts marks) where
  abbrev place : ℕ
  place = first.stage * shape.bins + first.bin

  place_below : place < shape.stages * shape.bins
  place_below = let rows = row_fits_turned first.stage shape.bins shape.bins shape.stages fits.2 (omega arith) in let low = fits.1 in omega arith

  its_own : (stage bin : ℕ) → bin < shape.bins → stage * shape.bins + bin ≡ place → (first.stage == stage && first.bin == bin) ≡ true
  its_own stage bin low e =
      and_from (first.stage == stage) (first.bin == bin)
      (eq-eqb first.stage stage (sym (div-mul-add first.stage shape.bins first.bin fits.1) ∙ ap (λ (n : ℕ). n / shape.bins) (sym e) ∙ div-mul-add stage shape.bins bin low))
      (eq-eqb first.bin bin (sym (mod-mul-add first.stage shape.bins first.bin fits.1) ∙ ap (λ (n : ℕ). n % shape.bins) (sym e) ∙ mod-mul-add stage shape.bins bin low))

  not_another : (stage bin : ℕ) → stage * shape.bins + bin ≢ place → (first.stage == stage && first.bin == bin) ≡ false
  not_another stage bin other = false_from_ne_true _ (λ e.
      let both = and_parts (first.stage == stage) (first.bin == bin) e in
      other (ap (λ (n : ℕ). n * shape.bins + bin) (sym (eqb-true first.stage stage both.0)) ∙ ap (λ (n : ℕ). first.stage * shape.bins + n) (sym (eqb-true first.bin bin both.1))))

  marked_at : (stage bin : ℕ) → stage < shape.stages → bin < shape.bins
      → slice_index_or (slice_set marks place true) (stage * shape.bins + bin) false ≡ has_first (firsts ++ first ∷ []) stage bin
  marked_at stage bin l m =
      ⊎_elim
      (λ (e : stage * shape.bins + bin ≡ place).
      ap (λ (n : ℕ). slice_index_or (slice_set marks place true) n false) e
      ∙ get_or-set_same marks place true false (subst (λ (n : ℕ). place < n) (sym are.count) place_below)
      ∙ sym (has_first-push firsts first stage bin ∙ ap (λ (b : Bool). has_first firsts stage bin || b) (its_own stage bin m e) ∙ or-true (has_first firsts stage bin)))
      (λ (other : stage * shape.bins + bin ≢ place).
      get_or-set_other marks place (stage * shape.bins + bin) true false other
      ∙ are.each stage bin l m
      ∙ sym (has_first-push firsts first stage bin ∙ ap (λ (b : Bool). has_first firsts stage bin || b) (not_another stage bin other) ∙ or-false (has_first firsts stage bin)))
      (cases_eq (stage * shape.bins + bin) place)

  -- with a mark at the place of one more, these and it are marked
  pub one_more_marked : AreMarked shape (firsts ++ first ∷ []) (slice_set marks place true)
  one_more_marked = record { count = length-set marks place true ∙ are.count; each = marked_at }
