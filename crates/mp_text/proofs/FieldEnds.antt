-- Where the fields of a line end, and where they stand in it.
use Rattle.std.proofs.Common.{◌≡◌, ◌<◌, ◌≤◌, ◌+◌, ◌-◌, ◌≢◌, ℕ, zero, suc, Bool, true, false, List, [], ◌∷◌, ◌++◌, length, get_or, refl, ap, sym, ◌∙◌, arith, take, drop, min, ⊎_elim, length-take, get_or-take, length-drop, length-append}
use Rattle.std.specs.Prelude.{if◌then◌else◌}
use Rattle.std.specs.List.{slice_split, join_with_byte, onto_first}
use Rattle.std.proofs.lemmas.Bool.{cases_Bool, cond-true, cond-false, eq-eqb, ne_eqb}
use Rattle.std.proofs.lemmas.List.{drop_more, drop_all, take_all, drop-drop, take_at, drop_at}
use Rattle.std.proofs.lemmas.List.Splits.{slice_split-cons_yes, slice_split-cons_no, length-slice_split, join_with_byte-slice_split}
use Rattle.memchr.specs.Find.{places_from, places}
use Rattle.mp_text.specs.Fields.{is_separator, fields_of, ends_from}

-- a byte more at the front of the first field moves no end
ends_from-onto_first : (place x : ℕ) (parts : List (List ℕ)) → 0 < length parts → ends_from place (onto_first x parts) ≡ ends_from (place + 1) parts
ends_from-onto_first place x [] some = absurd (omega (arith, some))
ends_from-onto_first place x (part ∷ parts) some =
    let same : place + length (x ∷ part) ≡ place + 1 + length part = omega arith in
    ap (λ k. k ∷ ends_from (k + 1) parts) same

-- the parts of what is left end at the places of the bytes that cut them, and at the end
ends_from-split : (p : ℕ → Bool) (xs : List ℕ) (i n : ℕ) → i + n ≡ length xs
    → ends_from i (slice_split p (drop i xs)) ≡ places_from p xs i n ++ length xs ∷ []
unfolding places_from
ends_from-split p xs i zero total =
    let none : drop i xs ≡ [] = drop_all i xs (omega arith) in
    let same : i + 0 ≡ length xs = total in
    ap (λ left. ends_from i (slice_split p left)) none ∙ ap (λ k. k ∷ []) same
ends_from-split p xs i (suc n) total =
    let within : i < length xs = omega arith in
    let step : drop i xs ≡ get_or xs i 0 ∷ drop (i + 1) xs = drop_more xs i 0 within in
    let later = ends_from-split p xs (i + 1) n (omega arith) in
    ap (λ left. ends_from i (slice_split p left)) step ∙
    ⊎_elim
    (λ yes.
    ap (ends_from i) (slice_split-cons_yes p _ _ yes)
    ∙ ap (λ k. k ∷ ends_from (k + 1) (slice_split p (drop (i + 1) xs))) (omega arith)
    ∙ ap (λ ends. i ∷ ends) later
    ∙ ap (λ found. found ++ length xs ∷ []) (sym (cond-true _ (i ∷ places_from p xs (i + 1) n) (places_from p xs (i + 1) n) yes)))
    (λ no.
    ap (ends_from i) (slice_split-cons_no p _ _ no)
    ∙ ends_from-onto_first i _ _ (omega (arith, length-slice_split p (drop (i + 1) xs)))
    ∙ later
    ∙ ap (λ found. found ++ length xs ∷ []) (sym (cond-false _ (i ∷ places_from p xs (i + 1) n) (places_from p xs (i + 1) n) no)))
    (cases_Bool (p (get_or xs i 0)))

-- the fields of a line end at its separators and at its end
ends_from-fields_of : (line : List ℕ) → ends_from 0 (fields_of line) ≡ places is_separator line ++ length line ∷ []
unfolding fields_of
ends_from-fields_of line =
    ends_from-split is_separator line 0 (length line) (omega arith)
    ∙ ap (λ n. places_from is_separator line 0 n ++ length line ∷ []) (omega arith)

pub length-ends_from : (parts : List (List ℕ)) (place : ℕ) → length (ends_from place parts) ≡ length parts
length-ends_from [] place = refl
length-ends_from (part ∷ parts) place = ap suc (length-ends_from parts _)

-- the bytes of a line from start up to end are a field
pub record StandsAt (line : List ℕ) (start end : ℕ) (field : List ℕ) : Type 0 where
  pub order : start ≤ end
  pub within : end ≤ length line
  pub bytes : take (end - start) (drop start line) ≡ field

-- where the part at i begins, if the first one begins at this place
pub start_from : ℕ → List ℕ → ℕ → ℕ
start_from place ends zero = place
start_from place ends (suc i) = get_or ends i 0 + 1

pub start_from-zero : (place : ℕ) (ends : List ℕ) (i : ℕ) → i ≡ 0 → start_from place ends i ≡ place
unfolding start_from
start_from-zero place ends i first = ap (start_from place ends) first

pub start_from-more : (place : ℕ) (ends : List ℕ) (i : ℕ) → (i ≡ 0 → ⊥) → start_from place ends i ≡ get_or ends (i - 1) 0 + 1
unfolding start_from
start_from-more place ends zero later = absurd (later refl)
start_from-more place ends (suc i) later = ap (λ n. get_or ends n 0 + 1) (omega arith)

start_from-take : (n : ℕ) (held ends : List ℕ) (i : ℕ) → held ≡ take n ends → i < n → start_from 0 held i ≡ start_from 0 ends i
unfolding start_from
start_from-take n held ends zero same low = refl
start_from-take n held ends (suc i) same low = ap (λ es. get_or es i 0 + 1) same ∙ ap (λ k. k + 1) (get_or-take n ends i 0 (omega (arith, low)))

-- each part stands from its start up to its end
denotes-join : (parts : List (List ℕ)) (line : List ℕ) (c place i : ℕ) → place ≤ length line → drop place line ≡ join_with_byte c parts → i < length parts
    → StandsAt line (start_from place (ends_from place parts) i) (get_or (ends_from place parts) i 0) (get_or parts i [])
unfolding start_from
denotes-join [] line c place i inside same low = absurd (omega (arith, low))
denotes-join (part ∷ []) line c place zero inside same low =
    let long : length line - place ≡ length part = sym (length-drop place line) ∙ ap length same in
    record {
      order = omega arith;
      within = omega arith;
      bytes = take_all _ _ (omega (arith, length-drop place line)) ∙ same;
    }
denotes-join (part ∷ []) line c place (suc i) inside same low = absurd (omega (arith, low))
denotes-join (part ∷ next ∷ more) line c place zero inside same low =
    let long : length line - place ≡ length (part ++ c ∷ join_with_byte c (next ∷ more)) = sym (length-drop place line) ∙ ap length same in
    let total = length-append part (c ∷ join_with_byte c (next ∷ more)) in
    record {
      order = omega arith;
      within = omega (arith, long, total);
      bytes = ap (take (place + length part - place)) same ∙ take_at part _ _ (omega arith);
    }
denotes-join (part ∷ next ∷ more) line c place (suc i) inside same low =
    let rest : List ℕ = join_with_byte c (next ∷ more) in
    let long : length line - place ≡ length (part ++ c ∷ rest) = sym (length-drop place line) ∙ ap length same in
    let total = length-append part (c ∷ rest) in
    let past : drop (length part + 1) (part ++ c ∷ rest) ≡ rest =
    sym (drop-drop 1 (length part) (part ++ c ∷ rest)) ∙ ap (drop 1) (drop_at part (c ∷ rest) (length part) refl) in
    let later : drop (place + length part + 1) line ≡ rest =
    ap (λ n. drop n line) (omega arith) ∙ sym (drop-drop (length part + 1) place line) ∙ ap (drop (length part + 1)) same ∙ past in
    denotes-next i (denotes-join (next ∷ more) line c (place + length part + 1) i (omega (arith, long, total)) later (omega (arith, low)))
  where
    denotes-next : (i : ℕ) → StandsAt line (start_from (place + length part + 1) (ends_from (place + length part + 1) (next ∷ more)) i) (get_or (ends_from (place + length part + 1) (next ∷ more)) i 0) (get_or (next ∷ more) i [])
        → StandsAt line (get_or ((place + length part) ∷ ends_from (place + length part + 1) (next ∷ more)) i 0 + 1) (get_or (ends_from (place + length part + 1) (next ∷ more)) i 0) (get_or (next ∷ more) i [])
    denotes-next zero h = h
    denotes-next (suc i) h = h

-- a field of a line stands from its start up to its end
pub denotes-fields_of : (line : List ℕ) (i : ℕ) → i < length (fields_of line)
    → StandsAt line (start_from 0 (ends_from 0 (fields_of line)) i) (get_or (ends_from 0 (fields_of line)) i 0) (get_or (fields_of line) i [])
unfolding fields_of
denotes-fields_of line i low = denotes-join (fields_of line) line 124 0 i (omega arith) (sym (join_with_byte-slice_split 124 line)) low

-- the first n of a list that is cut to n and grows
pub take-held : {X : Type 0} (n : ℕ) (xs : List X) (x : X) → take n (take n xs ++ x ∷ []) ≡ take n (xs ++ x ∷ [])
take-held zero xs x = refl
take-held (suc n) [] x = refl
take-held (suc n) (y ∷ ys) x = ap (λ l. y ∷ l) (take-held n ys x)

-- the same of a field whose end is among the first n
pub denotes-held : (n : ℕ) (line ends : List ℕ) (i : ℕ) → ends ≡ take n (ends_from 0 (fields_of line)) → i < length ends
    → StandsAt line (start_from 0 ends i) (get_or ends i 0) (get_or (fields_of line) i [])
denotes-held n line ends i same low =
    let all : List ℕ = ends_from 0 (fields_of line) in
    let short : length ends ≡ min n (length all) = ap length same ∙ length-take n all in
    let count = length-ends_from (fields_of line) 0 in
    let here : get_or ends i 0 ≡ get_or all i 0 = ap (λ es. get_or es i 0) same ∙ get_or-take n all i 0 (omega (arith, short, low)) in
    let before : start_from 0 ends i ≡ start_from 0 all i = start_from-take n ends all i same (omega (arith, short, low)) in
    rw (here, before) (denotes-fields_of line i (omega (arith, short, low, count)))

-- the first field stands from 0, and a later one from past the end before it
pub denotes-first : (n : ℕ) (line ends : List ℕ) (i start : ℕ) → ends ≡ take n (ends_from 0 (fields_of line)) → i < length ends → i ≡ 0 → start ≡ 0
    → StandsAt line start (get_or ends i 0) (get_or (fields_of line) i [])
denotes-first n line ends i start same low first is =
    let at : start_from 0 ends i ≡ start = start_from-zero 0 ends i first ∙ sym is in
    rw (← at) (denotes-held n line ends i same low)

pub denotes-later : (n : ℕ) (line ends : List ℕ) (i start : ℕ) → ends ≡ take n (ends_from 0 (fields_of line)) → i < length ends → (i ≡ 0 → ⊥)
    → start ≡ get_or ends (i - 1) 0 + 1 → StandsAt line start (get_or ends i 0) (get_or (fields_of line) i [])
denotes-later n line ends i start same low later is =
    let at : start_from 0 ends i ≡ start = start_from-more 0 ends i later ∙ sym is in
    rw (← at) (denotes-held n line ends i same low)

-- a field whose end is among the first n is a field of the line
pub held-within : (n : ℕ) (line ends : List ℕ) (i : ℕ) → ends ≡ take n (ends_from 0 (fields_of line)) → i < length ends → i < length (fields_of line)
held-within n line ends i same low =
    let all : List ℕ = ends_from 0 (fields_of line) in
    let short : length ends ≡ min n (length all) = ap length same ∙ length-take n all in
    omega (arith, short, low, length-ends_from (fields_of line) 0)

-- one of the first n fields whose end is not held isn't there
pub held-past : (n : ℕ) (line ends : List ℕ) (i : ℕ) → ends ≡ take n (ends_from 0 (fields_of line)) → length ends ≤ i → i < n → length (fields_of line) ≤ i
held-past n line ends i same past low =
    let all : List ℕ = ends_from 0 (fields_of line) in
    let short : length ends ≡ min n (length all) = ap length same ∙ length-take n all in
    omega (arith, short, low, past, length-ends_from (fields_of line) 0)

-- a choice to put an element first leaves the end of the list as it is
kept : (first : Bool) (i : ℕ) (xs ys : List ℕ) → (if first then i ∷ (xs ++ ys) else xs ++ ys) ≡ (if first then i ∷ xs else xs) ++ ys
kept true i xs ys = refl
kept false i xs ys = refl

-- one byte more, at k, which passes the test
places_from-passes : (p : ℕ → Bool) (xs : List ℕ) (k i n : ℕ) → i + n ≡ k → p (get_or xs k 0) ≡ true → places_from p xs i (suc n) ≡ places_from p xs i n ++ k ∷ []
unfolding places_from
places_from-passes p xs k i zero at passes =
    let here : k ≡ i = omega (arith, at) in
    let told : p (get_or xs i 0) ≡ true = ap (λ j. p (get_or xs j 0)) (sym here) ∙ passes in
    cond-true _ (i ∷ []) [] told ∙ ap (λ j. j ∷ []) (sym here)
places_from-passes p xs k i (suc n) at passes =
    ap (λ later. if p (get_or xs i 0) then i ∷ later else later) (places_from-passes p xs k (i + 1) n (omega (arith, at)) passes)
    ∙ kept (p (get_or xs i 0)) i (places_from p xs (i + 1) n) (k ∷ [])

-- and one that doesn't
places_from-fails : (p : ℕ → Bool) (xs : List ℕ) (k i n : ℕ) → i + n ≡ k → p (get_or xs k 0) ≡ false → places_from p xs i (suc n) ≡ places_from p xs i n
unfolding places_from
places_from-fails p xs k i zero at fails =
    let here : k ≡ i = omega (arith, at) in
    let told : p (get_or xs i 0) ≡ false = ap (λ j. p (get_or xs j 0)) (sym here) ∙ fails in
    cond-false _ (i ∷ []) [] told
places_from-fails p xs k i (suc n) at fails =
    ap (λ later. if p (get_or xs i 0) then i ∷ later else later) (places_from-fails p xs k (i + 1) n (omega (arith, at)) fails)

-- the separators before a place of a line
unfoldable pub separators_before : List ℕ → ℕ → List ℕ
separators_before line place = places_from is_separator line 0 place

-- there is none before the first
pub separators_before-zero : (line : List ℕ) → separators_before line 0 ≡ []
unfolding separators_before places_from
separators_before-zero line = refl

-- one more where the byte is a separator, and no more where it isn't
pub separators_before-yes : (line : List ℕ) (place : ℕ) → get_or line place 0 ≡ 124 → separators_before line (place + 1) ≡ separators_before line place ++ place ∷ []
unfolding separators_before
separators_before-yes line place is =
    ap (places_from is_separator line 0) (omega arith) ∙ places_from-passes is_separator line place 0 place (omega arith) (eq-eqb _ _ is)

pub separators_before-no : (line : List ℕ) (place : ℕ) → get_or line place 0 ≢ 124 → separators_before line (place + 1) ≡ separators_before line place
unfolding separators_before
separators_before-no line place other =
    ap (places_from is_separator line 0) (omega arith) ∙ places_from-fails is_separator line place 0 place (omega arith) (ne_eqb _ _ other)

-- there are no more of them than places
length-places_from : (p : ℕ → Bool) (xs : List ℕ) (i n : ℕ) → length (places_from p xs i n) ≤ n
unfolding places_from
length-places_from p xs i zero = omega arith
length-places_from p xs i (suc n) = one_more (p (get_or xs i 0)) (length-places_from p xs (i + 1) n)
  where
    one_more : (first : Bool) → length (places_from p xs (i + 1) n) ≤ n
        → length (if first then i ∷ places_from p xs (i + 1) n else places_from p xs (i + 1) n) ≤ suc n
    one_more true few = omega (arith, few)
    one_more false few = omega (arith, few)

pub length-separators_before : (line : List ℕ) (place : ℕ) → length (separators_before line place) ≤ place
unfolding separators_before
length-separators_before line place = length-places_from is_separator line 0 place

-- with the end of the line, all of them are the ends of its fields
pub ends_from-separators : (line : List ℕ) (place : ℕ) → place ≡ length line → ends_from 0 (fields_of line) ≡ separators_before line place ++ length line ∷ []
unfolding separators_before
ends_from-separators line place end =
    ends_from-fields_of line ∙ ap (λ n. places_from is_separator line 0 n ++ length line ∷ []) (omega (arith, end))
