-- The fields of a line, one by one.
use Rattle.std.proofs.Common.{◌≡◌, ◌+◌, ◌<◌, ℕ, List, ◌∷◌, Some, length, ap, ◌∙◌, arith, drop}
use Rattle.std.specs.List.{slice_get}
use Rattle.std.proofs.lemmas.List.{drop_more}
use Rattle.std.proofs.lemmas.List.Splits.{length-slice_split}
use Rattle.std.proofs.lemmas.Option.{slice_get_within, get_or_from_slice_get}
use Rattle.mp_text.specs.Fields.{is_separator, fields_of}

-- a line has a field at least
pub fields_of-nonempty : (line : List ℕ) → 0 < length (fields_of line)
unfolding fields_of
fields_of-nonempty line = omega (arith, length-slice_split is_separator line)

-- what is left from a field on begins with it: the fields of a line one by one
pub drop-from_slice_get : {X : Type 0} (xs : List X) (i : ℕ) (x : X) → slice_get xs i ≡ Some x → drop i xs ≡ x ∷ drop (i + 1) xs
drop-from_slice_get xs i x found =
    drop_more xs i x (slice_get_within xs i x found) ∙ ap (λ y. y ∷ drop (i + 1) xs) (get_or_from_slice_get xs i x x found)
