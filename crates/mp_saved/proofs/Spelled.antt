-- Words that are joined are cut into these words again, and numbers are read as themselves.
use Rattle.std.proofs.Common.{◌≡◌, ◌≢◌, ◌-◌, ◌^◌, ◌<◌, ◌≤◌, ◌==◌, ℕ, nat_le, true, false, List, [], ◌∷◌, Some, length, ◌++◌, flat_map, map, refl, sym, append-nil, ap, ◌∙◌, arith}
use Rattle.std.specs.Prelude.{All}
use Rattle.std.specs.Fmt.{decimal}
use Rattle.std.specs.List.{join_with_byte}
use Rattle.std.proofs.lemmas.Bool.{both_ways, eq-eqb, leb-true}
use Rattle.std.proofs.lemmas.List.Elements.{All-append, All-cons, All-head, All-nil, All-tail}
use Rattle.std.proofs.lemmas.List.Splits.{slice_split_at, slice_split_none}
use Rattle.mp_model.specs.Plain.{IsPlain}
use Rattle.mp_model.proofs.PlainNumbers.{plain_number}
use Rattle.mp_text.proofs.NumberLemmas.{number_of-decimal}
use Rattle.mp_text.specs.Fields.{fields_of, is_separator}
use Rattle.mp_saved.specs.Numbers.{if_number, numbers_in, numbers_said, numbers_text, with_first}

-- none of the words holds a bar or a line feed
abbrev pub ArePlain : List (List ℕ) → Type 0
ArePlain [] = Unit {0}
ArePlain (word ∷ words) = IsPlain word × ArePlain words

-- words, cut again
pub cut_again : (word : List ℕ) (words : List (List ℕ)) → IsPlain word → ArePlain words → fields_of (join_with_byte 124 (word ∷ words)) ≡ word ∷ words
unfolding fields_of
cut_again w [] plain each = slice_split_none is_separator w (λ k d low. (plain k d low).0)
cut_again w (v ∷ vs) plain each =
    slice_split_at is_separator w 124 (join_with_byte 124 (v ∷ vs)) (λ k d low. (plain k d low).0) refl
    ∙ ap (λ l. w ∷ l) (cut_again v vs each.0 each.1)

no_feed : (b : ℕ) → (b == 10) ≡ false → b ≢ 10
no_feed b h e = both_ways (b == 10) h (eq-eqb b 10 e)

-- no line feed stands in them
pub stay_plain : (word : List ℕ) (words : List (List ℕ)) → IsPlain word → ArePlain words → All (λ b. b ≢ 10) (join_with_byte 124 (word ∷ words))
stay_plain w [] plain each = λ k d low. no_feed _ (plain k d low).1
stay_plain w (v ∷ vs) plain each =
    All-append (λ b. b ≢ 10) w (124 ∷ join_with_byte 124 (v ∷ vs)) (λ k d low. no_feed _ (plain k d low).1)
    (All-cons (λ b. b ≢ 10) 124 (join_with_byte 124 (v ∷ vs)) (λ e. omega (arith, e)) (stay_plain v vs each.0 each.1))

-- Numbers of 64 bits

abbrev pub AreSmall : List ℕ → Type 0
AreSmall ns = All (λ n. n < 2 ^ 64) ns

pub none_small : AreSmall []
none_small = All-nil (λ n. n < 2 ^ 64)

-- a number in front that is at most a limit of 64 bits
pub one_small : (n most : ℕ) (ns : List ℕ) → nat_le n most ≡ true → most < 2 ^ 64 → AreSmall ns → AreSmall (n ∷ ns)
one_small n most ns within low small = let l : n ≤ most = leb-true n most within in All-cons (λ n. n < 2 ^ 64) n ns (omega arith) small

pub numbers_plain : (ns : List ℕ) → AreSmall ns → ArePlain (map decimal ns)
numbers_plain [] h = tt
numbers_plain (n ∷ ns) h = (plain_number n (All-head (λ n. n < 2 ^ 64) n ns h), numbers_plain ns (All-tail (λ n. n < 2 ^ 64) n ns h))

-- words that are numbers say them
pub said_again : (ns : List ℕ) → AreSmall ns → numbers_said (map decimal ns) ≡ Some ns
said_again [] h = refl
said_again (n ∷ ns) h =
    let low : n < 2 ^ 64 = All-head (λ n. n < 2 ^ 64) n ns h in
    let first = number_of-decimal n (2 ^ 64 - 1) low (omega arith) in
    let rest = said_again ns (All-tail (λ n. n < 2 ^ 64) n ns h) in
    λ i. with_first (if_number (first i)) (rest i)

-- a word and numbers are the word, and the numbers behind bars
pub word_joined : (word : List ℕ) (ns : List ℕ) → join_with_byte 124 (word ∷ map decimal ns) ≡ word ++ flat_map (λ m. 124 ∷ decimal m) ns
word_joined word [] = sym (append-nil word)
word_joined word (m ∷ ms) = ap (λ (text : List ℕ). word ++ 124 ∷ text) (word_joined (decimal m) ms)

-- numbers, read again
pub numbers_again : (n : ℕ) (ns : List ℕ) → AreSmall (n ∷ ns) → numbers_in (numbers_text (n ∷ ns)) ≡ Some (n ∷ ns)
numbers_again n ns h =
    let plain = numbers_plain (n ∷ ns) h in
    ap numbers_said (cut_again (decimal n) (map decimal ns) plain.0 plain.1) ∙ said_again (n ∷ ns) h

-- no line feed stands in their text
pub numbers_are_plain : (n : ℕ) (ns : List ℕ) → AreSmall (n ∷ ns) → All (λ b. b ≢ 10) (numbers_text (n ∷ ns))
numbers_are_plain n ns h = let plain = numbers_plain (n ∷ ns) h in stay_plain (decimal n) (map decimal ns) plain.0 plain.1

-- the same of numbers that are some
pub some_again : (ns : List ℕ) → 0 < length ns → AreSmall ns → numbers_in (numbers_text ns) ≡ Some ns
some_again [] some h = absurd (omega (arith, some))
some_again (n ∷ ns) some h = numbers_again n ns h

pub some_are_plain : (ns : List ℕ) → 0 < length ns → AreSmall ns → All (λ b. b ≢ 10) (numbers_text ns)
some_are_plain [] some h = absurd (omega (arith, some))
some_are_plain (n ∷ ns) some h = numbers_are_plain n ns h
