-- The lines of a text, one by one: what a loop over `Lines` needs.
use Rattle.std.proofs.Common.{◌≡◌, ◌<◌, ◌≤◌, ◌+◌, ℕ, zero, suc, Bool, List, [], ◌∷◌, length, refl, ap, sym, ◌∙◌, arith, map, ⊎_elim, length-drop}
use Rattle.std.specs.List.{position_or_len, before_first, after_first, slice_split}
use Rattle.std.specs.Str.Lines.{strip_carriage_return}
use Rattle.std.proofs.lemmas.Bool.{cases_lt}
use Rattle.std.proofs.lemmas.List.{take_all, drop_all}
use Rattle.std.proofs.lemmas.List.Sums.{fails_before_first}
use Rattle.std.proofs.lemmas.List.Splits.{slice_split_first, slice_split_none, length-slice_split}
use Rattle.mp_text.specs.Lines.{is_line_feed, without_empty_last, lines_of}

-- a part with another part after it stays
without_empty_last-cons : (part : List ℕ) (more : List (List ℕ)) → 0 < length more → without_empty_last (part ∷ more) ≡ part ∷ without_empty_last more
without_empty_last-cons part [] some = absurd (omega (arith, some))
without_empty_last-cons [] (next ∷ more) some = refl
without_empty_last-cons (b ∷ bs) (next ∷ more) some = refl

-- a last part with bytes stays
without_empty_last-one : (part : List ℕ) → 0 < length part → without_empty_last (part ∷ []) ≡ part ∷ []
without_empty_last-one [] some = absurd (omega (arith, some))
without_empty_last-one (b ∷ bs) some = refl

-- the empty text has no line
pub lines_of-nil : lines_of [] ≡ []
unfolding lines_of
lines_of-nil = refl

-- where no element passes, a split is the list alone
slice_split-alone : (p : ℕ → Bool) (xs : List ℕ) → length xs ≤ position_or_len p xs → slice_split p xs ≡ xs ∷ []
slice_split-alone p xs none = slice_split_none p xs (λ k d low. fails_before_first p xs k d (omega (arith, low, none)))

-- the first line of a text with bytes ends at its first line feed, and the others are those of what follows
pub lines_of-step : (text : List ℕ) → 0 < length text
    → lines_of text ≡ strip_carriage_return (before_first is_line_feed text) ∷ lines_of (after_first is_line_feed text)
unfolding lines_of
lines_of-step text some =
    let parts : List ℕ → List (List ℕ) = slice_split is_line_feed in
    ⊎_elim
    (λ within.
    ap (λ cut. map strip_carriage_return (without_empty_last cut)) (slice_split_first is_line_feed text 0 within)
    ∙ ap (map strip_carriage_return) (without_empty_last-cons _ _ (omega (arith, length-slice_split is_line_feed (after_first is_line_feed text)))))
    (λ past.
    let all : before_first is_line_feed text ≡ text = take_all _ text past in
    let none : after_first is_line_feed text ≡ [] = drop_all _ text (omega (arith, past)) in
    ap (λ cut. map strip_carriage_return (without_empty_last cut)) (slice_split-alone is_line_feed text past)
    ∙ ap (map strip_carriage_return) (without_empty_last-one text some)
    ∙ ap (λ line. strip_carriage_return line ∷ []) (sym all)
    ∙ ap (λ left. strip_carriage_return (before_first is_line_feed text) ∷ map strip_carriage_return (without_empty_last (parts left))) (sym none))
    (cases_lt (position_or_len is_line_feed text) (length text))

-- what follows the first line feed is shorter
pub length-after_first-lt : (text : List ℕ) → 0 < length text → length (after_first is_line_feed text) + 1 ≤ length text
length-after_first-lt text some = simp length-drop (omega arith)

-- a text has no more lines than bytes
pub length-lines_of : (text : List ℕ) → length (lines_of text) ≤ length text
length-lines_of text = length-lines_of-within (length text) text (omega arith)
  where
    length-lines_of-within : (n : ℕ) (left : List ℕ) → length left ≤ n → length (lines_of left) ≤ length left
    length-lines_of-within n [] short = omega (arith, ap length lines_of-nil)
    length-lines_of-within zero (b ∷ bs) short = absurd (omega (arith, short))
    length-lines_of-within (suc n) (b ∷ bs) short =
        let shorter = length-after_first-lt (b ∷ bs) (omega arith) in
        let later = length-lines_of-within n (after_first is_line_feed (b ∷ bs)) (omega (arith, shorter, short)) in
        omega (arith, ap length (lines_of-step (b ∷ bs) (omega arith)), shorter, later)
