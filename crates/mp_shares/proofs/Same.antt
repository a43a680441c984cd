-- Lists in which the same numbers stand.
use Rattle.std.proofs.Common.{◌≡◌, ℕ, List, [], ◌∷◌, ◌++◌, Contains, sym, subst, ⊎_elim}
use Rattle.std.proofs.lemmas.List.Elements.{Contains-append_cases, Contains-append_left, Contains-append_right}
use Rattle.mp_model.specs.Ascending.{ascending}
use Rattle.mp_shares.specs.Times.{AllStandIn, HoldSame}
use Rattle.mp_shares.proofs.Ascents.{ascending-is, ascending-Contains, Contains-ascending, IsStrictlyIncreasing-ascending}
use Rattle.mp_shares.proofs.Members.{nothing_in_nil, Contains-cases}

pub same_list : (xs ys : List ℕ) → xs ≡ ys → HoldSame xs ys
same_list xs ys e t = (subst (λ (l : List ℕ). Contains l t) e, subst (λ (l : List ℕ). Contains l t) (sym e))

pub same_then : (xs ys zs : List ℕ) → HoldSame xs ys → HoldSame ys zs → HoldSame xs zs
same_then xs ys zs h k t = ((λ i. (k t).0 ((h t).0 i)), λ i. (h t).1 ((k t).1 i))

either : (xs ys zs : List ℕ) → AllStandIn xs ys → AllStandIn (xs ++ zs) (ys ++ zs)
either xs ys zs h t i =
    ⊎_elim
    (λ (k : Contains xs t). Contains-append_left ys zs t (h t k))
    (λ (k : Contains zs t). Contains-append_right ys zs t k)
    (Contains-append_cases xs zs t i)

-- with the same behind both
pub same_before : (xs ys zs : List ℕ) → HoldSame xs ys → HoldSame (xs ++ zs) (ys ++ zs)
same_before xs ys zs h t = (either xs ys zs (λ u. (h u).0) t, either ys xs zs (λ u. (h u).1) t)

-- with the same in front of both
pub same_after : (xs ys zs : List ℕ) → HoldSame ys zs → HoldSame (xs ++ ys) (xs ++ zs)
same_after xs ys zs h t = (behind ys zs (λ u. (h u).0), behind zs ys (λ u. (h u).1))
  where
    behind : (ls ms : List ℕ) → AllStandIn ls ms → Contains (xs ++ ls) t → Contains (xs ++ ms) t
    behind ls ms in_it i =
        ⊎_elim
        (λ (k : Contains xs t). Contains-append_left xs ms t k)
        (λ (k : Contains ls t). Contains-append_right xs ms t (in_it t k))
        (Contains-append_cases xs ls t i)

-- what is added first, and what is added then
pub same_twice : (new next old more all : List ℕ) → HoldSame new (next ++ more) → HoldSame next old → old ++ more ≡ all → HoldSame new all
same_twice new next old more all h k is = subst (λ (l : List ℕ). HoldSame new l) is (same_then new (next ++ more) (old ++ more) h (same_before next old more k))

-- with what stands there already
pub same_again : (xs ys : List ℕ) → AllStandIn ys xs → HoldSame xs (xs ++ ys)
same_again xs ys h t = (Contains-append_left xs ys t, λ i. ⊎_elim (λ (k : Contains xs t). k) (λ (k : Contains ys t). h t k) (Contains-append_cases xs ys t i))

-- a number that stands there already
pub one_stands : (xs : List ℕ) (x : ℕ) → Contains xs x → AllStandIn (x ∷ []) xs
one_stands xs x h t i = ⊎_elim (λ (e : x ≡ t). subst (λ (u : ℕ). Contains xs u) e h) (λ (k : Contains [] t). absurd (nothing_in_nil t k)) (Contains-cases x t [] i)

-- what stood in a list stands in one that more was added to
pub stands_still : (ps old new more : List ℕ) → AllStandIn ps old → HoldSame new (old ++ more) → AllStandIn ps new
stands_still ps old new more h k t i = (k t).1 (Contains-append_left old more t (h t i))

-- what was put behind a list stands there
pub stands_last : (ps old new : List ℕ) → new ≡ old ++ ps → AllStandIn ps new
stands_last ps old new is t i = subst (λ (l : List ℕ). Contains l t) (sym is) (Contains-append_right old ps t i)

-- in order they are one list
pub ascending-same : (xs ys : List ℕ) → HoldSame xs ys → ascending xs ≡ ascending ys
ascending-same xs ys h =
    ascending-is
    ys
    (ascending xs)
    (IsStrictlyIncreasing-ascending xs)
    (λ x i. ascending-Contains xs x ((h x).1 i))
    (λ x i. (h x).0 (Contains-ascending xs x i))
