-- The words of a text, the first of them cut off.
use Rattle.std.proofs.Common.{◌≡◌, ◌+◌, ℕ, List, [], ◌∷◌, Some, None, length, take, drop, ap, ◌∙◌, arith}
use Rattle.std.specs.List.{position_or_len}
use Rattle.std.proofs.lemmas.Bool.{false_from_ne_true}
use Rattle.std.proofs.lemmas.List.Sums.{fails_before_first, position_or_len_is}
use Rattle.std.proofs.lemmas.List.Splits.{slice_split_first, slice_split_none}
use Rattle.memchr.specs.Find.{IsFirstByte}
use Rattle.mp_text.specs.Fields.{fields_of, is_separator}

-- where there is no `|` the text is one word
pub one_word : (text : List ℕ) → IsFirstByte is_separator text None → fields_of text ≡ text ∷ []
unfolding fields_of
one_word text h =
    let e : position_or_len is_separator text ≡ length text = position_or_len_is is_separator text (length text) 0 (omega arith) (λ j low. false_from_ne_true _ (h j (omega arith) low)) (λ low. absurd (omega (arith, low))) in
    slice_split_none is_separator text (λ k d low. fails_before_first is_separator text k d (omega (arith, low, e)))

-- else the first word stands before the first one
pub first_word : (text : List ℕ) (end : ℕ) → IsFirstByte is_separator text (Some end) → fields_of text ≡ take end text ∷ fields_of (drop (end + 1) text)
unfolding fields_of
first_word text end h =
    let e : position_or_len is_separator text ≡ end = position_or_len_is is_separator text end 0 (omega (arith, h.0.high)) (λ j low. false_from_ne_true _ (h.0.before j (omega arith) low)) (λ _. h.1) in
    slice_split_first is_separator text 0 (omega (arith, e, h.0.high)) ∙ ap (λ n. take n text ∷ fields_of (drop (n + 1) text)) e
