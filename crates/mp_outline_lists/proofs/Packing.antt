-- Two numbers as one, and moments and places as numbers.
use Rattle.std.proofs.Common.{◌≡◌, ◌⊎◌, ◌↔◌, ℕ, ◌+◌, ◌*◌, ◌/◌, ◌%◌, ◌<◌, ◌≤◌, ◌==◌, List, [], ◌∷◌, ◌++◌, get_or, length, map, take, refl, sym, subst, ap, ◌∙◌, inl, inr, ⊎_elim, arith}
use Rattle.std.specs.List.{Contains, dedup}
use Rattle.std.specs.List.Sorted.{IsPermutation, IsSorted}
use Rattle.std.specs.Ordering.{nat_cmp}
use Rattle.std.proofs.Math.Nat.{eq-or-lt_of_le, mod-lt}
use Rattle.std.proofs.lemmas.List.{get_or-map, get_or_default, length-map, map-append, take_more}
use Rattle.std.proofs.lemmas.List.Elements.{Contains-append_left, Contains-get_or, Contains-push}
use Rattle.std.proofs.lemmas.List.Sorted.{Contains-permutation, IsPermutation-sym}
use Rattle.std.proofs.lemmas.Nat.{div-add-mod', div-mul-add, le-div}
use Rattle.mp_names.specs.declared.names.Name.{Name}
use Rattle.mp_names.specs.declared.names.Name.TheVariants.{Written}
use Rattle.mp_names.specs.Names.{Less, ascending}
use Rattle.mp_outline_lists.specs.declared.moments.Moment.{Moment}
use Rattle.mp_outline_lists.specs.Moments.{group_at}
use Rattle.mp_outline_lists.specs.Packed.{AreFit, TellsPlaces, moment_in, name_at}
use Rattle.mp_outline_lists.proofs.Keys.{kept_are, numbers_in_order}

-- Two numbers as one

pub quotient : (n first width second : ℕ) → n ≡ first * width + second → second < width → n / width ≡ first
quotient n first width second e below = ap (λ (m : ℕ). m / width) e ∙ div-mul-add first width second below

pub remainder : (n first width second : ℕ) → n ≡ first * width + second → second < width → n % width ≡ second
remainder n first width second e below =
    let whole : n / width * width + n % width ≡ n = div-add-mod' n width in
    let front : n / width * width ≡ first * width = ap (λ (q : ℕ). q * width) (quotient n first width second e below) in
    omega arith

-- numbers go as what they tell
parts : (width x y : ℕ) → 0 < width → x < y → (x / width < y / width) ⊎ ((x / width ≡ y / width) × (x % width < y % width))
parts width x y some below =
    let left : x / width * width + x % width ≡ x = div-add-mod' x width in
    let right : y / width * width + y % width ≡ y = div-add-mod' y width in
    let upto : x / width ≤ y / width = le-div (x / width) y width some (omega arith) in
    ⊎_elim
    (λ (same : x / width ≡ y / width). let front : x / width * width ≡ y / width * width = ap (λ (q : ℕ). q * width) same in inr (same, omega arith))
    (λ (earlier : x / width < y / width). inl earlier)
    (eq-or-lt_of_le upto)

-- Moments as numbers

pub one_more : (width n : ℕ) (numbers : List ℕ) (moments : List Moment) (i : ℕ) (d : Moment) → i < length moments → map (moment_in width) numbers ≡ take i moments → n / width ≡ (get_or moments i d).time → n % width ≡ (get_or moments i d).key → map (moment_in width) (numbers ++ n ∷ []) ≡ take (i + 1) moments
one_more width n numbers moments i d below so_far time key =
    map-append (moment_in width) numbers (n ∷ [])
    ∙ ap (λ (l : List Moment). l ++ moment_in width n ∷ []) so_far
    ∙ ap (λ (m : Moment). take i moments ++ m ∷ []) told
    ∙ sym (take_more moments i d below)
  where
    told : moment_in width n ≡ get_or moments i d
    told = ap (λ (t : ℕ). let m : Moment = record { time = t; key = n % width } in m) time ∙ ap (λ (k : ℕ). let m : Moment = record { time = (get_or moments i d).time; key = k } in m) key

fused : {A B C : Type 0} (g : B → C) (f : A → B) (xs : List A) → map g (map f xs) ≡ map (λ x. g (f x)) xs
fused g f [] = refl
fused g f (x ∷ xs) = ap (λ l. g (f x) ∷ l) (fused g f xs)

-- the groups at the moments that sorted numbers tell are in rank order
pub groups_told : (j width : ℕ) → 0 < width → (moments : List Moment) (numbers sorted kept : List ℕ) → map (moment_in width) numbers ≡ moments → IsPermutation numbers sorted → IsSorted nat_cmp sorted → kept ≡ dedup (λ x y. x == y) sorted → map (group_at j) (map (moment_in width) kept) ≡ ascending (map (group_at j) moments)
groups_told j width some moments numbers sorted kept told moved up is =
    fused (group_at j) (moment_in width) kept
    ∙ kept_are (λ n. group_at j (moment_in width n)) nat_cmp (λ x y. x == y) (numbers_in_order (λ n. group_at j (moment_in width n)) rises) numbers sorted kept moved up is
    ∙ ap ascending (sym (fused (group_at j) (moment_in width) numbers) ∙ ap (map (group_at j)) told)
  where
    rises : (x y : ℕ) → x < y → Less (group_at j (moment_in width x)) (group_at j (moment_in width y))
    rises x y below =
        ⊎_elim
        (λ (earlier : x / width < y / width). inr (refl, inl earlier))
        (λ (same : (x / width ≡ y / width) × (x % width < y % width)). inr (refl, inr (same.0, inr (refl, inl same.1))))
        (parts width x y some below)

-- Places as numbers

pub more_told : (width i n : ℕ) (numbers : List ℕ) → TellsPlaces i width numbers → n % width ≡ i → TellsPlaces (i + 1) width (numbers ++ n ∷ [])
more_told width i n numbers told is place below =
    ⊎_elim
    (λ (same : place ≡ i). (n, Contains-push numbers n, is ∙ sym same))
    (λ (earlier : place < i). let t = told place earlier in (t.0, Contains-append_left numbers (n ∷ []) t.0 t.1, t.2))
    (eq-or-lt_of_le {n = place} {m = i} (omega arith))

pub still_fit : (width n : ℕ) (numbers : List ℕ) → 0 < width → AreFit width (numbers ++ n ∷ [])
still_fit width n numbers some m c = some

pub moved_fit : (width : ℕ) (numbers sorted : List ℕ) → AreFit width numbers → IsPermutation numbers sorted → AreFit width sorted
moved_fit width numbers sorted fit moved n c = fit n (Contains-permutation sorted numbers n (IsPermutation-sym numbers sorted moved) c)

-- the names at the places that are told are all names
pub all_gathered : (names : List Name) (numbers sorted : List ℕ) → TellsPlaces (length names) (length names) numbers → AreFit (length names) sorted → IsPermutation numbers sorted → (x : Name) → Contains (map (name_at names) sorted) x ↔ Contains names x
all_gathered names numbers sorted told fit moved x = (into, back)
  where
    into : Contains (map (name_at names) sorted) x → Contains names x
    into c =
        let k = c.0 in
        let below : k < length sorted = let l = c.1 in let n = length-map sorted (name_at names) in omega arith in
        let n = get_or sorted k 0 in
        let is : name_at names n ≡ x = sym (get_or-map (name_at names) sorted k 0 x below) ∙ c.2 in
        subst (Contains names) is (Contains-get_or names (n % length names) (Written 0) (mod-lt n (fit n (Contains-get_or sorted k 0 below))))

    back : Contains names x → Contains (map (name_at names) sorted) x
    back c =
        let t = told c.0 c.1 in
        let n = t.0 in
        let s = Contains-permutation numbers sorted n moved t.1 in
        let below : s.0 < length (map (name_at names) sorted) = let l = s.1 in let m = length-map sorted (name_at names) in omega arith in
        let is : name_at names n ≡ x = ap (λ (p : ℕ). get_or names p (Written 0)) t.2 ∙ get_or_default names c.0 (Written 0) x c.1 ∙ c.2 in
        (s.0, below, get_or-map (name_at names) sorted s.0 n x s.1 ∙ ap (name_at names) s.2 ∙ is)
