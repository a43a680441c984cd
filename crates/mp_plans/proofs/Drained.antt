-- The bins that are drained, and their owners by the notes of a list.
use Rattle.std.proofs.Common.{◌≡◌, ◌+◌, ◌-◌, ◌*◌, ◌++◌, ◌==◌, ◌<◌, ◌≤◌, ℕ, suc, [], ◌∷◌, List, Bool, cond, ap, arith, ◌∙◌, ◌≢◌, append-nil, eq-eqb, sym}
use Rattle.std.specs.Prelude.{filter, length}
use Rattle.std.specs.List.{range_with_len}
use Rattle.std.proofs.Math.Path.{fun_ext}
use Rattle.std.proofs.lemmas.Bool.{eqb-true, false_from_ne_true}
use Rattle.std.proofs.lemmas.List.{map-id}
use Rattle.std.proofs.lemmas.List.FromFn.{filter_of_map_range_with_len_more, length-map-range_with_len}
use Rattle.mp_bins.proofs.Told.{told}
use Rattle.mp_bins.specs.Laws.{AreAllNoted, AreNotesOf}
use Rattle.mp_bins.specs.Notes.{Notes, owner_at}
use Rattle.mp_names.specs.declared.controls.Control.{Control}
use Rattle.mp_names.specs.declared.controls.Shape.{Shape}
use Rattle.mp_names.specs.Limits.{greatest_time}
use Rattle.mp_plans.specs.Drains.{bins_of, last_turn, owner_in, spread}
use Rattle.mp_plans.proofs.Times.{more_gaps}

-- of one bin more
bins_of-more : (owner_of : ℕ → ℕ) (bins worker : ℕ) → bins_of owner_of (bins + 1) worker ≡ bins_of owner_of bins worker ++ cond (owner_of bins == worker) (bins ∷ []) []
bins_of-more owner_of bins worker =
    let test : ℕ → Bool = λ bin. owner_of bin == worker in
    ap (filter test) (sym (map-id (range_with_len 0 (bins + 1))))
    ∙ filter_of_map_range_with_len_more test (λ bin. bin) 0 bins bins (omega arith)
    ∙ ap (λ l. filter test l ++ cond (test bins) (bins ∷ []) []) (map-id (range_with_len 0 bins))

-- with a bin that the worker owns, and with one that it doesn't
pub found : (owner_of : ℕ → ℕ) (bin worker : ℕ) (old new : List ℕ) → old ≡ bins_of owner_of bin worker → owner_of bin ≡ worker → new ≡ old ++ bin ∷ []
    → new ≡ bins_of owner_of (bin + 1) worker
found owner_of bin worker old new before its is =
    is ∙ ap (λ l. l ++ bin ∷ []) before
    ∙ sym (bins_of-more owner_of bin worker ∙ ap (λ b. bins_of owner_of bin worker ++ cond b (bin ∷ []) []) (eq-eqb (owner_of bin) worker its))

pub not_found : (owner_of : ℕ → ℕ) (bin worker : ℕ) (old : List ℕ) → old ≡ bins_of owner_of bin worker → owner_of bin ≢ worker → old ≡ bins_of owner_of (bin + 1) worker
not_found owner_of bin worker old before other =
    before ∙ sym (append-nil (bins_of owner_of bin worker))
    ∙ sym (bins_of-more owner_of bin worker ∙ ap (λ b. bins_of owner_of bin worker ++ cond b (bin ∷ []) []) (false_from_ne_true _ (λ e. other (eqb-true (owner_of bin) worker e))))

-- where all records of a list are noted, the owners by the notes are those by the list
pub owners_told : (controls : List Control) (notes : Notes) → AreNotesOf controls notes → AreAllNoted controls notes → (stage time : ℕ)
    → (λ bin. owner_at notes stage bin time) ≡ owner_in notes.layout controls stage time
owners_told controls notes are all stage time =
    fun_ext (λ bin. told controls notes (suc time) are (λ i low below. all i low) stage bin (suc time) (omega arith))

-- so are the bins that the worker owns
pub bins_told : (controls : List Control) (notes : Notes) → AreNotesOf controls notes → AreAllNoted controls notes → (stage time bins worker : ℕ) (its : List ℕ)
    → its ≡ bins_of (λ bin. owner_at notes stage bin time) bins worker → its ≡ bins_of (owner_in notes.layout controls stage time) bins worker
bins_told controls notes are all stage time bins worker its e =
    e ∙ ap (λ owner_of. bins_of owner_of bins worker) (owners_told controls notes are all stage time)

-- there is a record for each of the bins
pub one_each_turn : (shape : Shape) (time gap stage worker : ℕ) (bins : List ℕ) → length (spread shape time gap stage worker bins) ≡ length bins
one_each_turn shape time gap stage worker bins = length-map-range_with_len _ 0 (length bins)

-- no turn is later than the last one
turn_in_time : (time gap turn bins : ℕ) → turn < bins → last_turn time gap bins ≤ greatest_time → time + turn * gap ≤ greatest_time
turn_in_time time gap turn bins low last =
    let le = more_gaps time gap turn (bins - 1) (omega (arith, low)) in omega (arith, le, last)

-- so it is with the bins by the notes, where the last one of those by the list isn't too late
pub told_in_time : (controls : List Control) (notes : Notes) → AreNotesOf controls notes → AreAllNoted controls notes → (stage time gap bins worker turn : ℕ) (its : List ℕ)
    → its ≡ bins_of (λ bin. owner_at notes stage bin time) bins worker → turn < length its
    → last_turn time gap (length (bins_of (owner_in notes.layout controls stage time) bins worker)) ≤ greatest_time → time + turn * gap ≤ greatest_time
told_in_time controls notes are all stage time gap bins worker turn its e low last =
    let told = bins_told controls notes are all stage time bins worker its e in
    let last_of : last_turn time gap (length its) ≤ greatest_time = rw told last in
    turn_in_time time gap turn (length its) low last_of
