-- The least times of locations: of a row, and of a table with another row; and that frontiers depend on them alone.
use Rattle.std.proofs.Common.{◌≡◌, ◌≢◌, ℕ, ◌<◌, ◌≤◌, All, List, [], length, get_or, replicate, set, ℤ, pos, ap, refl, sym, subst, ◌∙◌, ⊎_elim, arith}
use Rattle.std.specs.List.Sorted.{IsStrictlyIncreasing}
use Rattle.std.proofs.lemmas.Bool.{cases_eq, cases_lt}
use Rattle.std.proofs.lemmas.List.{get_or-set_same, get_or-set_other, length-set}
use Rattle.std.proofs.lemmas.List.Elements.{All-set}
use Rattle.mp_names.specs.declared.locations.Frontier.{Frontier}
use Rattle.mp_names.specs.declared.locations.Frontier.TheVariants.{At, Done}
use Rattle.mp_names.specs.declared.locations.Loc.{Loc}
use Rattle.mp_names.specs.Frontiers.{IsFrontierOf}
use Rattle.mp_stamps.specs.Counts.{CountTable, IsRowFor, IsTable, count_in, count_of, row_of}
use Rattle.mp_stamps.specs.Flow.{AreFirstTimes, IsFirstTime}
use Rattle.mp_stamps.specs.Places.{place_of}
use Rattle.mp_stamps.specs.Rows.{IsFirstOpen}
use Rattle.mp_stamps.proofs.Seeing.{at_first_none}
use Rattle.mp_stamps.proofs.Tables.{HasNot, count_of_none, count_of_there, find_time, never_falls, no_counts, rises}

-- The least time of a row

module _ (times : List ℕ) (row : List ℤ) (first : ℕ) (rising : IsStrictlyIncreasing times) (long : length times ≤ length row) (is : IsFirstOpen row first) where
  zero_before : (t : ℕ) → ((k : ℕ) → k < length times → get_or times k 0 ≡ t → k < first) → count_of times row t ≡ pos 0
  zero_before t below =
      ⊎_elim
      (λ (f : (k : ℕ) × (k < length times) × (get_or times k 0 ≡ t)).
      subst (λ (u : ℕ). count_of times row u ≡ pos 0) f.2 (count_of_there times row f.0 (rises times rising) f.1 long ∙ is.quiet f.0 (below f.0 f.1 f.2)))
      (λ (n : HasNot times t). count_of_none times row t n)
      (find_time times t)

  pub first_time_at : first < length times → IsFirstTime (count_of times row) (At (get_or times first 0))
  first_time_at l = (
    (λ q. is.open_there (omega (arith, l, long)) (sym (count_of_there times row first (rises times rising) l long) ∙ q)),
    (λ u m. zero_before u (λ k b e. ⊎_elim (λ (p : k < first). p) (λ (p : first ≤ k). let r = never_falls times (rises times rising) first k p b in absurd (omega arith)) (cases_lt k first))),
  )

  pub no_first_time : length times ≤ first → IsFirstTime (count_of times row) Done
  no_first_time l = λ u. zero_before u (λ k b e. omega arith)

-- there is only one
pub first_time_once : (p : ℕ → ℤ) (a b : Frontier) → IsFirstTime p a → IsFirstTime p b → a ≡ b
first_time_once p Done Done h k = refl
first_time_once p Done (At t) h k = absurd (k.0 (h t))
first_time_once p (At s) Done h k = absurd (h.0 (k s))
first_time_once p (At s) (At t) h k =
    ⊎_elim
    (λ (l : s < t). absurd (h.0 (k.1 s l)))
    (λ (l : t ≤ s). ⊎_elim (λ (m : t < s). absurd (k.0 (h.1 t m))) (λ (m : s ≤ t). let e : s ≡ t = omega arith in ap (λ (n : ℕ). At n) e) (cases_lt t s))
    (cases_lt s t)

-- where the first count other than 0 stands at the same index, the least time is the same
pub first_time_still : (times : List ℕ) (old new : List ℤ) (first : ℕ) (x : Frontier) → IsStrictlyIncreasing times → length times ≤ length old → length times ≤ length new → IsFirstOpen old first → IsFirstOpen new first → IsFirstTime (count_of times old) x → IsFirstTime (count_of times new) x
first_time_still times old new first x r l m h k was =
    ⊎_elim
    (λ (n : first < length times).
    let same : At (get_or times first 0) ≡ x = first_time_once (count_of times old) _ _ (first_time_at times old first r l h n) was in
    subst (λ (f : Frontier). IsFirstTime (count_of times new) f) same (first_time_at times new first r m k n))
    (λ (n : length times ≤ first).
    let same : Done ≡ x = first_time_once (count_of times old) _ _ (no_first_time times old first r l h n) was in
    subst (λ (f : Frontier). IsFirstTime (count_of times new) f) same (no_first_time times new first r m k n))
    (cases_lt first (length times))

-- where every count is 0 there is none
pub no_first_times : (table : CountTable) (n m : ℕ) → All (λ (row : List ℤ). row ≡ replicate n (pos 0)) table.rows → AreFirstTimes table (replicate m Done)
no_first_times table n m h at = subst (λ (f : Frontier). IsFirstTime (count_in table at) f) (sym (at_first_none m (place_of at))) (λ u. no_counts table n h at u)

-- A table with another row

module _ (table : CountTable) (p : ℕ) (row : List ℤ) (h : IsTable table) (long : IsRowFor (length table.times) row) where
  abbrev pub with_row : CountTable
  with_row = record table { rows = set table.rows p row }

  pub still_table : IsTable with_row
  still_table = record {
    few_stages = h.few_stages;
    rising = h.rising;
    each_place = length-set table.rows p row ∙ h.each_place;
    each_time = All-set (IsRowFor (length table.times)) table.rows p row long h.each_time;
    each_low = h.each_low ∙ sym (length-set table.rows p row);
  }

  module _ (firsts : List Frontier) (first : Frontier) (inside : p < length table.rows) (is : IsFirstTime (count_of table.times row) first) (before : AreFirstTimes table firsts) where
    pub here : (at : Loc) → place_of at ≡ p → IsFirstTime (count_in with_row at) first
    here at e =
        let there : row_of with_row at ≡ row = ap (λ (i : ℕ). get_or (set table.rows p row) i []) e ∙ get_or-set_same table.rows p row [] inside in
        subst (λ (r : List ℤ). IsFirstTime (count_of table.times r) first) (sym there) is

    elsewhere : (at : Loc) → place_of at ≢ p → IsFirstTime (count_in with_row at) (get_or firsts (place_of at) Done)
    elsewhere at n =
        subst (λ (r : List ℤ). IsFirstTime (count_of table.times r) (get_or firsts (place_of at) Done)) (sym (get_or-set_other table.rows p (place_of at) row [] n)) (before at)

    pub firsts_then : p < length firsts → AreFirstTimes with_row (set firsts p first)
    firsts_then l at =
        ⊎_elim
        (λ (e : place_of at ≡ p).
        let put : get_or (set firsts p first) (place_of at) Done ≡ first = ap (λ (i : ℕ). get_or (set firsts p first) i Done) e ∙ get_or-set_same firsts p first Done l in
        subst (λ (f : Frontier). IsFirstTime (count_in with_row at) f) (sym put) (here at e))
        (λ (n : place_of at ≢ p). subst (λ (f : Frontier). IsFirstTime (count_in with_row at) f) (sym (get_or-set_other firsts p (place_of at) first Done n)) (elsewhere at n))
        (cases_eq (place_of at) p)

    pub firsts_still : first ≡ get_or firsts p Done → AreFirstTimes with_row firsts
    firsts_still same at =
        ⊎_elim
        (λ (e : place_of at ≡ p). subst (λ (f : Frontier). IsFirstTime (count_in with_row at) f) (same ∙ ap (λ (i : ℕ). get_or firsts i Done) (sym e)) (here at e))
        (λ (n : place_of at ≢ p). elsewhere at n)
        (cases_eq (place_of at) p)

-- Frontiers depend on least times alone

-- counts with the same least time
zero_still : (p q : ℕ → ℤ) (x : Frontier) → IsFirstTime p x → IsFirstTime q x → (t : ℕ) → ((u : ℕ) → u < t → p u ≡ pos 0) → (u : ℕ) → u < t → q u ≡ pos 0
zero_still p q (At s) a b t h u l = ⊎_elim (λ (k : u < s). b.1 u k) (λ (k : s ≤ u). absurd (a.0 (h s (omega arith)))) (cases_lt u s)
zero_still p q Done a b t h u l = b u

zero_then : (p q : ℕ → ℤ) (x : Frontier) → IsFirstTime p x → IsFirstTime q x → (t : ℕ) → ((u : ℕ) → u < t → p u ≡ pos 0) → q t ≡ pos 0 → p t ≡ pos 0
zero_then p q (At s) a b t h z =
    ⊎_elim
    (λ (k : t < s). a.1 t k)
    (λ (k : s ≤ t).
    ⊎_elim
    (λ (m : s < t). absurd (a.0 (h s m)))
    (λ (m : t ≤ s). let e : t ≡ s = omega arith in absurd (b.0 (subst (λ (n : ℕ). q n ≡ pos 0) e z)))
    (cases_lt s t))
    (cases_lt t s)
zero_then p q Done a b t h z = a t

all_still : (p q : ℕ → ℤ) (x : Frontier) → IsFirstTime p x → IsFirstTime q x → ((u : ℕ) → p u ≡ pos 0) → (u : ℕ) → q u ≡ pos 0
all_still p q (At s) a b h u = absurd (a.0 (h s))
all_still p q Done a b h u = b u

-- where no least time is another, no frontier is
module _ (f g : Loc → ℕ → ℤ) (first : Loc → Frontier) (was : (a : Loc) → IsFirstTime (f a) (first a)) (is : (a : Loc) → IsFirstTime (g a) (first a)) where
  pub frontier_still : (at : Loc) (x : Frontier) → IsFrontierOf f at x → IsFrontierOf g at x
  frontier_still at (At t) h = (
    (λ q. h.0 (λ a r. zero_then (f a) (g a) (first a) (was a) (is a) t (λ u l. h.1 u l a r) (q a r))),
    (λ u l a r. zero_still (f a) (g a) (first a) (was a) (is a) t (λ v m. h.1 v m a r) u l),
  )
  frontier_still at Done h = λ u a r. all_still (f a) (g a) (first a) (was a) (is a) (λ v. h v a r) u
