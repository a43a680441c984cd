-- The least of the first entries.
use Rattle.std.proofs.Common.{◌≡◌, ℕ, ◌+◌, ◌<◌, ◌≤◌, ◌⊎◌, Bool, true, false, cond, List, [], ◌∷◌, length, get_or, Option, None, Some, refl, sym, ap, ◌∙◌, subst, inl, inr, ⊎_elim, arith}
use Rattle.std.proofs.lemmas.Bool.{both_ways, false_from_ne_true, cases_lt}
use Rattle.std.proofs.lemmas.List.{get_or_past}
use Rattle.std.specs.List.{slice_get}
use Rattle.std.specs.Prelude.{IfSome, IfNone}
use Rattle.mp_names.specs.Names.{is_before}
use Rattle.mp_names.proofs.Orders.{before_is, is_before-from, before_irreflexive, before_trans}
use Rattle.mp_chart.specs.declared.entry.Entry.{Entry}
use Rattle.mp_standing.specs.Held.{rank_of_entry, IsLeastFirst, lesser_of}

abbrev pub comes_before : Entry → Entry → Bool
comes_before y x = is_before (rank_of_entry y) (rank_of_entry x)

-- what stands first in the list at a place
abbrev pub first_at : List (List Entry) → ℕ → Option Entry
first_at held v = slice_get (get_or held v []) 0

-- the least of what stands first in the lists before a place
abbrev pub IsLeastBelow : List (List Entry) → ℕ → Option Entry → Type 0
IsLeastBelow held n None = (v : ℕ) → v < n → first_at held v ≡ None
IsLeastBelow held n (Some x) = ((v : ℕ) × (first_at held v ≡ Some x)) × ((v : ℕ) (y : Entry) → v < n → first_at held v ≡ Some y → comes_before y x ≡ false)

not_itself : (x : Entry) → comes_before x x ≡ false
not_itself x = false_from_ne_true (comes_before x x) (λ h. before_irreflexive (rank_of_entry x) (before_is (rank_of_entry x) (rank_of_entry x) h))

-- where z doesn't come before x, and y does, z doesn't come before y
not_between : (x y z : Entry) → comes_before z x ≡ false → comes_before y x ≡ true → comes_before z y ≡ false
not_between x y z n b =
    false_from_ne_true (comes_before z y) (λ h.
    both_ways (comes_before z x) n
    (is_before-from (rank_of_entry z) (rank_of_entry x) (before_trans (rank_of_entry z) (rank_of_entry y) (rank_of_entry x) (before_is (rank_of_entry z) (rank_of_entry y) h) (before_is (rank_of_entry y) (rank_of_entry x) b))))

module _ (held : List (List Entry)) (n : ℕ) where
  below_or_at : (v : ℕ) → v < n + 1 → (v < n) ⊎ (v ≡ n)
  below_or_at v l = ⊎_elim (λ (k : v < n). inl k) (λ (k : n ≤ v). let e : v ≡ n = omega arith in inr e) (cases_lt v n)

  pub least_more : (a b : Option Entry) → IsLeastBelow held n a → first_at held n ≡ b → IsLeastBelow held (n + 1) (lesser_of a b)
  least_more None None a e = λ v l. ⊎_elim (λ (k : v < n). a v k) (λ (k : v ≡ n). ap (first_at held) k ∙ e) (below_or_at v l)
  least_more None (Some y) a e = (
    (n, e),
    (λ v z l f. ⊎_elim (λ (k : v < n). let none = a v k in absurd (cc)) (λ (k : v ≡ n). let here = ap (first_at held) k in let same : z ≡ y = cc in subst (λ (u : Entry). comes_before u y ≡ false) (sym same) (not_itself y)) (below_or_at v l)),
  )
  least_more (Some x) None a e = (
    a.0,
    (λ v z l f. ⊎_elim (λ (k : v < n). a.1 v z k f) (λ (k : v ≡ n). let here = ap (first_at held) k in absurd (cc)) (below_or_at v l)),
  )
  least_more (Some x) (Some y) a e = pick (comes_before y x) refl
    where
      pick : (b : Bool) → comes_before y x ≡ b → IsLeastBelow held (n + 1) (Some (cond b y x))
      pick true h = (
        (n, e),
        (λ v z l f.
            ⊎_elim
            (λ (k : v < n). not_between x y z (a.1 v z k f) h)
            (λ (k : v ≡ n). let here = ap (first_at held) k in let same : z ≡ y = cc in subst (λ (u : Entry). comes_before u y ≡ false) (sym same) (not_itself y))
            (below_or_at v l)),
      )
      pick false h = (
        a.0,
        (λ v z l f.
            ⊎_elim
            (λ (k : v < n). a.1 v z k f)
            (λ (k : v ≡ n). let here = ap (first_at held) k in let same : z ≡ y = cc in subst (λ (u : Entry). comes_before u x ≡ false) (sym same) h)
            (below_or_at v l)),
      )

-- past all lists there are none, so the least of all is the least
all_first : (held : List (List Entry)) (v : ℕ) (y : Entry) → first_at held v ≡ Some y → v < length held
all_first held v y e =
    ⊎_elim
    (λ (k : v < length held). k)
    (λ (k : length held ≤ v). let none = ap (λ (l : List Entry). slice_get l 0) (get_or_past held v [] k) in absurd (cc))
    (cases_lt v (length held))

pub least_is_first : (held : List (List Entry)) (x : Entry) → IsLeastBelow held (length held) (Some x) → IsLeastFirst held x
least_is_first held x l = (l.0, (λ v y e. l.1 v y (all_first held v y e) e))

no_first : (l : List Entry) → slice_get l 0 ≡ None → l ≡ []
no_first [] e = refl
no_first (x ∷ xs) e = absurd (cc)

pub none_first : (held : List (List Entry)) → IsLeastBelow held (length held) None → (v : ℕ) → get_or held v [] ≡ []
none_first held n v = ⊎_elim (λ (k : v < length held). no_first (get_or held v []) (n v k)) (λ (k : length held ≤ v). get_or_past held v [] k) (cases_lt v (length held))

-- what the least of all lists tells
pub some_least : (held : List (List Entry)) (n : ℕ) (a : Option Entry) → n ≡ length held → IsLeastBelow held n a → IfSome a (λ x. IsLeastFirst held x)
some_least held n None e l = tt
some_least held n (Some x) e l = least_is_first held x (subst (λ (k : ℕ). IsLeastBelow held k (Some x)) e l)

pub none_least : (held : List (List Entry)) (n : ℕ) (a : Option Entry) → n ≡ length held → IsLeastBelow held n a → IfNone a ((v : ℕ) → get_or held v [] ≡ [])
none_least held n None e l = none_first held (subst (λ (k : ℕ). IsLeastBelow held k None) e l)
none_least held n (Some x) e l = tt
