-- The table of first owners.
use Rattle.std.proofs.Common.{◌≡◌, ◌≢◌, ℕ, ◌<◌, ◌*◌, ◌+◌, ◌%◌, ◌/◌, ◌==◌, ◌&&◌, Bool, true, false, cond, List, [], ◌∷◌, ◌∙◌, ap, ap₂, sym, subst, refl, ⊎_elim, arith}
use Rattle.std.specs.Prelude.{All, slice_index_or, slice_set}
use Rattle.std.proofs.Math.Nat.{add_comm, mod-add-div, mul_comm}
use Rattle.std.proofs.lemmas.Bool.{and_from, and_parts, cases_eq, cond_both, eq-eqb, eqb-true, false_from_ne_true}
use Rattle.std.proofs.lemmas.Grind.{get_or_default_zero}
use Rattle.std.proofs.lemmas.List.{get_or-set_other, get_or-set_same, length-set}
use Rattle.std.proofs.lemmas.List.Elements.{All-head, All-tail}
use Rattle.std.proofs.lemmas.Nat.{div-mul-add, mod-mul-add, row_fits_turned}
use Rattle.mp_names.specs.declared.controls.First.{First}
use Rattle.mp_names.specs.declared.controls.Shape.{Shape}
use Rattle.mp_layout.specs.FirstTable.{AreOwnersBy}
use Rattle.mp_layout.specs.Layouts.{FirstFits, first_among, first_owner}

module _ (shape : Shape) where
  -- a first owner is a worker of the job
  pub among_is_worker : (fs : List First) → All (FirstFits shape) fs → (j b usual : ℕ) → usual < shape.workers → first_among fs j b usual < shape.workers
  among_is_worker [] h j b usual l = l
  among_is_worker (f ∷ fs) h j b usual l =
      cond_both (f.stage == j && f.bin == b) f.worker (first_among fs j b usual) (λ (w : ℕ). w < shape.workers)
      (λ _. (All-head (FirstFits shape) f fs h).0) (λ _. among_is_worker fs (All-tail (FirstFits shape) f fs h) j b usual l)

  -- past the last bin and the last stage there is only the usual owner
  pub none_outside : (fs : List First) → All (FirstFits shape) fs → (j b usual : ℕ) → ((j < shape.stages) × (b < shape.bins) → ⊥) → first_among fs j b usual ≡ usual
  none_outside [] h j b usual out = refl
  none_outside (f ∷ fs) h j b usual out =
      let fits = All-head (FirstFits shape) f fs h in
      cond_both (f.stage == j && f.bin == b) f.worker (first_among fs j b usual) (λ (w : ℕ). w ≡ usual)
      (λ e.
      let p = and_parts (f.stage == j) (f.bin == b) e in
      absurd (out (subst (λ (n : ℕ). n < shape.stages) (eqb-true f.stage j p.0) fits.2, subst (λ (n : ℕ). n < shape.bins) (eqb-true f.bin b p.1) fits.1)))
      (λ _. none_outside fs (All-tail (FirstFits shape) f fs h) j b usual out)

  place_below : (j b : ℕ) → j < shape.stages → b < shape.bins → j * shape.bins + b < shape.stages * shape.bins
  place_below j b l m = let rows = row_fits_turned j shape.bins shape.bins shape.stages l (omega arith) in omega arith

  -- what stands in the table for a bin of a stage
  pub owner_there : (fs : List First) (owners : List ℕ) → AreOwnersBy shape fs owners → (j b d : ℕ) → j < shape.stages → b < shape.bins
      → slice_index_or owners (j * shape.bins + b) d ≡ first_owner (record { shape = shape; firsts = fs }) j b
  owner_there fs owners are j b d l m =
      get_or_default_zero owners (j * shape.bins + b) d (subst (λ (n : ℕ). j * shape.bins + b < n) (sym are.0) (place_below j b l m))
      ∙ are.1 (j * shape.bins + b) (place_below j b l m)
      ∙ ap₂ (λ (s n : ℕ). first_owner (record { shape = shape; firsts = fs }) s n) (div-mul-add j shape.bins b m) (mod-mul-add j shape.bins b m)

  module _ (f : First) (fs : List First) (fits : FirstFits shape f) (owners : List ℕ) (are : AreOwnersBy shape fs owners) where
    abbrev place : ℕ
    place = f.stage * shape.bins + f.bin

    stage_there : place / shape.bins ≡ f.stage
    stage_there = div-mul-add f.stage shape.bins f.bin fits.1

    bin_there : place % shape.bins ≡ f.bin
    bin_there = mod-mul-add f.stage shape.bins f.bin fits.1

    -- the first owner that stands before all others counts at its place, and no other
    counts_there : (i : ℕ) → i ≡ place → (f.stage == i / shape.bins && f.bin == i % shape.bins) ≡ true
    counts_there i e =
        and_from (f.stage == i / shape.bins) (f.bin == i % shape.bins)
        (eq-eqb f.stage (i / shape.bins) (sym (ap (λ (n : ℕ). n / shape.bins) e ∙ stage_there))) (eq-eqb f.bin (i % shape.bins) (sym (ap (λ (n : ℕ). n % shape.bins) e ∙ bin_there)))

    not_elsewhere : (i : ℕ) → i ≢ place → (f.stage == i / shape.bins && f.bin == i % shape.bins) ≡ false
    not_elsewhere i other = false_from_ne_true _ (λ e.
        let p = and_parts (f.stage == i / shape.bins) (f.bin == i % shape.bins) e in
        let stage = eqb-true f.stage (i / shape.bins) p.0 in
        let bin = eqb-true f.bin (i % shape.bins) p.1 in
        let whole = mod-add-div i shape.bins in
        other (sym whole ∙ ap₂ (λ (b j : ℕ). b + shape.bins * j) (sym bin) (sym stage) ∙ turned))
      where
        turned : f.bin + shape.bins * f.stage ≡ place
        turned = add_comm f.bin (shape.bins * f.stage) ∙ ap (λ (n : ℕ). n + f.bin) (mul_comm shape.bins f.stage)

    owner_at_place : (i : ℕ) → i < shape.stages * shape.bins → slice_index_or (slice_set owners place f.worker) i 0 ≡ first_owner (record { shape = shape; firsts = f ∷ fs }) (i / shape.bins) (i % shape.bins)
    owner_at_place i l =
        ⊎_elim
        (λ (e : i ≡ place). subst (λ (n : ℕ). slice_index_or (slice_set owners place f.worker) n 0 ≡ f.worker) (sym e) (get_or-set_same owners place f.worker 0 (subst (λ (n : ℕ). place < n) (sym are.0) (place_below f.stage f.bin fits.2 fits.1)))
        ∙ sym (ap (λ (b : Bool). cond b f.worker (first_among fs (i / shape.bins) (i % shape.bins) (i % shape.bins % shape.workers))) (counts_there i e)))
        (λ (other : i ≢ place). get_or-set_other owners place i f.worker 0 other ∙ are.1 i l
        ∙ sym (ap (λ (b : Bool). cond b f.worker (first_among fs (i / shape.bins) (i % shape.bins) (i % shape.bins % shape.workers))) (not_elsewhere i other)))
        (cases_eq i place)

    -- the table of these, with one more before them put down
    pub put_down : AreOwnersBy shape (f ∷ fs) (slice_set owners place f.worker)
    put_down = (length-set owners place f.worker ∙ are.0, owner_at_place)
