-- Short lists of changes: their sums, that each place stands once, that none is zero.
use Rattle.std.proofs.Common.{◌≡◌, ◌≢◌, ℕ, ◌+◌, ◌&&◌, ◌==◌, Bool, true, false, cond, [], ◌∷◌, ℤ, pos, negsuc, ◌+ℤ◌, ◌-ℤ◌, refl, ap, arith}
use Rattle.std.specs.Prelude.{if◌then◌else◌, not}
use Rattle.std.specs.List.{All, AllPairs}
use Rattle.std.proofs.lemmas.Int.{ints}
use Rattle.std.proofs.lemmas.List.Elements.{All-cons, All-nil}
use Rattle.std.proofs.lemmas.List.Kept.{AllPairs-cons}
use Rattle.mp_names.specs.declared.locations.Loc.{Loc}
use Rattle.mp_names.specs.declared.pointstamps.Change.{Change}
use Rattle.mp_names.specs.declared.pointstamps.Pointstamp.{Pointstamp}
use Rattle.mp_stamps.specs.Counts.{same_loc}
use Rattle.mp_rows.specs.Entries.{sum_at}
use Rattle.mp_rows_laws.specs.Changes.{one_more}

-- sums

pub nothing : (x y : ℤ) → x ≡ y → pos 0 ≡ x -ℤ y
nothing x y e = omega (arith, ints)

-- one less by the first of the entries
pub less_first : (b : Bool) (n m : ℕ) → n ≡ m + cond b 1 0 → cond b (negsuc 0) (pos 0) +ℤ pos 0 ≡ pos m -ℤ pos n
less_first true n m e = omega (arith, ints)
less_first false n m e = omega (arith, ints)

-- one more by the second of the entries
pub more_second : (b : Bool) (n m : ℕ) → n ≡ m + cond b 1 0 → pos 0 +ℤ (cond b (pos 1) (pos 0) +ℤ pos 0) ≡ pos n -ℤ pos m
more_second true n m e = omega (arith, ints)
more_second false n m e = omega (arith, ints)

-- the same in what is sent, where nothing is taken
pub sent_second : (b : Bool) (n m k : ℕ) → n ≡ m + cond b 1 0 → pos 0 +ℤ (cond b (pos 1) (pos 0) +ℤ pos 0) ≡ (pos n -ℤ pos k) -ℤ (pos m -ℤ pos k)
sent_second true n m k e = omega (arith, ints)
sent_second false n m k e = omega (arith, ints)

-- one that is taken, by the first of the entries
pub taken_first : (b : Bool) (n m k : ℕ) → n ≡ m + cond b 1 0 → cond b (negsuc 0) (pos 0) +ℤ pos 0 ≡ (pos k -ℤ pos n) -ℤ (pos k -ℤ pos m)
taken_first true n m k e = omega (arith, ints)
taken_first false n m k e = omega (arith, ints)

-- places

abbrev pub IsApart : Change → Change → Type 0
IsApart c d = c.at ≢ d.at

abbrev pub IsNotZero : Change → Type 0
IsNotZero c = c.by ≢ pos 0

pub same_loc_of : (c d : Change) → c.at ≡ d.at → c.at.loc ≡ d.at.loc
same_loc_of c d e = ap (λ (p : Pointstamp). p.loc) e

pub same_time_of : (c d : Change) → c.at ≡ d.at → c.at.time ≡ d.at.time
same_time_of c d e = ap (λ (p : Pointstamp). p.time) e

pub none_once : AllPairs IsApart []
none_once = λ i j d l k. absurd (omega arith)

pub one_once : (c : Change) → AllPairs IsApart (c ∷ [])
one_once c = AllPairs-cons IsApart c [] (All-nil (IsApart c)) none_once

pub two_once : (c d : Change) → (c.at.loc ≡ d.at.loc → ⊥) → AllPairs IsApart (c ∷ d ∷ [])
two_once c d h = AllPairs-cons IsApart c (d ∷ []) (All-cons (IsApart c) d [] (λ e. h (same_loc_of c d e)) (All-nil (IsApart c))) (one_once d)

pub none_zero : All IsNotZero []
none_zero = All-nil IsNotZero

pub one_not_zero : (c : Change) → c.by ≢ pos 0 → All IsNotZero (c ∷ [])
one_not_zero c h = All-cons IsNotZero c [] h none_zero

pub two_not_zero : (c d : Change) → c.by ≢ pos 0 → d.by ≢ pos 0 → All IsNotZero (c ∷ d ∷ [])
two_not_zero c d h k = All-cons IsNotZero c (d ∷ []) h (one_not_zero d k)

-- an entry that is there unless b

pub more_alone : (b : Bool) (n m : ℕ) → n ≡ m + cond b 1 0 → pos 0 +ℤ cond b (pos 1) (pos 0) ≡ pos n -ℤ pos m
more_alone true n m e = omega (arith, ints)
more_alone false n m e = omega (arith, ints)

alone : (b : Bool) → cond b (pos 1) (pos 0) +ℤ pos 0 ≡ cond (b && true) (pos 1) (pos 0)
alone true = refl
alone false = refl

none_of : (b : Bool) → pos 0 ≡ cond (b && false) (pos 1) (pos 0)
none_of true = refl
none_of false = refl

pub sum_unless : (b : Bool) (at : Loc) (t : ℕ) (loc : Loc) (u : ℕ) → sum_at (if b then [] else one_more at t ∷ []) loc u ≡ cond ((same_loc at loc && t == u) && not b) (pos 1) (pos 0)
sum_unless true at t loc u = none_of (same_loc at loc && t == u)
sum_unless false at t loc u = alone (same_loc at loc && t == u)

pub once_unless : (b : Bool) (c d : Change) → (c.at.loc ≡ d.at.loc → ⊥) → AllPairs IsApart (c ∷ (if b then [] else d ∷ []))
once_unless true c d h = one_once c
once_unless false c d h = two_once c d h

pub not_zero_unless : (b : Bool) (c d : Change) → c.by ≢ pos 0 → d.by ≢ pos 0 → All IsNotZero (c ∷ (if b then [] else d ∷ []))
not_zero_unless true c d h k = one_not_zero c h
not_zero_unless false c d h k = two_not_zero c d h k
