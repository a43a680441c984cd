-- The numbers below n.
use Rattle.std.proofs.Common.{◌≡◌, ℕ, zero, suc, ◌+◌, ◌<◌, List, [], ◌∷◌, ◌++◌, length, get_or, refl, ap, ◌∙◌, sym, arith, length-append}
use mathlib.Core.Logic.{dite}
use native.Mathlib.Decide.{ℕ_discrete}
use mathlib.Core.List.{IsPrefix}
use Rattle.std.proofs.lemmas.List.{append-nil, nil_from_length, get_or_append_left, get_or_push}
use Rattle.std.proofs.lemmas.Grind.{flat_map-append}
use Rattle.mp_thread_examples.specs.declared.numbers.Number.{Number}
use Rattle.mp_mailbox.specs.Names.{Distinct}
use Rattle.mp_thread_examples.specs.Numbers.{numbers_below, values_of}

pub length-numbers_below : (n : ℕ) → length (numbers_below n) ≡ n
length-numbers_below zero = refl
length-numbers_below (suc n) = let h = length-numbers_below n in omega (arith, length-append (numbers_below n) (n ∷ []))

at_below : (n i d : ℕ) → i < n → get_or (numbers_below n) i d ≡ i
at_below zero i d low = absurd (omega arith)
at_below (suc n) i d low =
    let long = length-numbers_below n in
    dite (ℕ_discrete i n)
    (λ last. get_or_push (numbers_below n) n d i (long ∙ sym last) ∙ sym last)
    (λ not. let near : i < n = omega arith in get_or_append_left (numbers_below n) (n ∷ []) d i (omega arith) ∙ at_below n i d near)

-- each number stands once
pub distinct_below : (n : ℕ) → Distinct (numbers_below n)
distinct_below n i j d before inside same =
    let long = length-numbers_below n in
    let low : j < n = omega arith in
    let a = at_below n i d (omega arith) in
    let b = at_below n j d low in
    absurd (omega arith)

pub one_more : (n : ℕ) → numbers_below (n + 1) ≡ numbers_below n ++ n ∷ []
one_more n = let next : n + 1 ≡ suc n = omega arith in ap numbers_below next

-- a beginning that is as long as the whole
pub whole_prefix : {A : Type 0} (xs ys zs : List A) → xs ++ ys ≡ zs → length xs ≡ length zs → xs ≡ zs
whole_prefix xs ys zs begins long =
    let none : length ys ≡ 0 = omega (arith, ap length begins, length-append xs ys) in
    sym (append-nil xs) ∙ (ap (λ l. xs ++ l) (sym (nil_from_length ys none)) ∙ begins)

-- of messages of which a beginning was popped, as many as were pushed
pub all_popped : (sent got : List Number) (n : ℕ) → IsPrefix got sent → values_of sent ≡ numbers_below n → length (values_of got) ≡ n → values_of got ≡ numbers_below n
all_popped sent got n (left, whole) pushed many =
    whole_prefix (values_of got) (values_of left) (numbers_below n) (sym (flat_map-append (λ m. m.value ∷ []) got left) ∙ (ap values_of whole ∙ pushed)) (many ∙ sym (length-numbers_below n))
