-- The cells of a list by key: they ascend, a search finds what it finds in the list, and there are as many where each key stands once.
use Rattle.std.proofs.Common.{◌≡◌, ◌↔◌, ℕ, ◌+◌, Bool, true, false, cond, nat_eq, ◌||◌, List, [], ◌∷◌, Contains, length, map, Option, Some, refl, sym, ap, ◌∙◌, arith}
use Rattle.std.proofs.lemmas.Bool.{false≢true}
use Rattle.std.proofs.lemmas.Cmp.{alike_right, eq_by_cmp_equiv, nat_cmp_total}
use Rattle.std.proofs.lemmas.Map.Keys.{IsDistinct-from_sorted, IsDistinct-head, IsDistinct-tail}
use Rattle.std.proofs.lemmas.Map.Lookups.{exact_unsigned}
use Rattle.std.proofs.lemmas.Map.Views.{Contains-from_lookup, lookup-from_Contains, tells_apart}
use Rattle.std.specs.BTreeMap.{insert_entry, is_at}
use Rattle.std.specs.BTreeSet.{insert_key}
use Rattle.std.specs.Cmp.{IsTotalOrder}
use Rattle.std.specs.List.{AllByRecursion, IsDistinct, list_any}
use Rattle.std.specs.List.Sorted.{IsStrictlySortedBy}
use Rattle.std.specs.Map.{lookup}
use Rattle.std.specs.Option.{unwrap_or}
use Rattle.std.specs.Ordering.{eq_by_cmp, is_eq, match_ordering, nat_cmp}
use Rattle.std.specs.declared.cmp.Ordering.{Ordering}
use Rattle.std.specs.declared.cmp.Ordering.TheVariants.{Less, Equal, Greater}
use Rattle.mp_postdated.proofs.Lists.{any-insert_key, ascend-insert_key}
use Rattle.mp_msg.proofs.Cells.{HasKeysInOrder, cell_in-found}
use Rattle.mp_msg.specs.States.{IsInOrder, by_key, cell_in}

module _ {K X : Type 0} (R : K → K → Ordering) (k : K) (v : X) where
  keys_by : (e : K × X) (es fs : List (K × X)) (r : Ordering) → map (λ p. p.0) fs ≡ insert_key R (map (λ p. p.0) es) k
      → map (λ p. p.0) (match_ordering r ((k, v) ∷ e ∷ es) ((e.0, v) ∷ es) (e ∷ fs)) ≡ match_ordering r (k ∷ e.0 ∷ map (λ p. p.0) es) (e.0 ∷ map (λ p. p.0) es) (e.0 ∷ insert_key R (map (λ p. p.0) es) k)
  keys_by e es fs Less rest = refl
  keys_by e es fs Equal rest = refl
  keys_by e es fs Greater rest = ap (λ (ks : List K). e.0 ∷ ks) rest

  -- an entry put at its place has its key at its place
  pub keys-insert_entry : (es : List (K × X)) → map (λ p. p.0) (insert_entry R es k v) ≡ insert_key R (map (λ p. p.0) es) k
  keys-insert_entry [] = refl
  keys-insert_entry (e ∷ es) = keys_by e es (insert_entry R es k v) (R k e.0) (keys-insert_entry es)

equal_if : (r : Ordering) → is_eq r ≡ true → r ≡ Equal
equal_if Equal e = refl
equal_if Less e = absurd (false≢true e)
equal_if Greater e = absurd (false≢true e)

module _ {K X : Type 0} {R : K → K → Ordering} (o : IsTotalOrder R) (q k : K) (v : X) where
  later : (a b : Bool) (w : X) (rest others : Option X) → rest ≡ cond b (Some v) others → (b ≡ true → a ≡ true → ⊥) → cond a (Some w) rest ≡ cond b (Some v) (cond a (Some w) others)
  later true true w rest others e apart = absurd (apart refl refl)
  later true false w rest others e apart = refl
  later false b w rest others e apart = e

  twice : (b : Bool) (w : X) (others : Option X) → cond b (Some v) others ≡ cond b (Some v) (cond b (Some w) others)
  twice true w others = refl
  twice false w others = refl

  apart : (e : K × X) → R k e.0 ≡ Greater → eq_by_cmp R q k ≡ true → eq_by_cmp R q e.0 ≡ true → ⊥
  apart e h a b = let same : R q e.0 ≡ R k e.0 = o.congr q k e.0 (equal_if (R q k) a) in false≢true (sym (ap is_eq (same ∙ h)) ∙ b)

  found_by : (e : K × X) (es fs : List (K × X)) (r : Ordering) → R k e.0 ≡ r → lookup (is_at (R q)) fs ≡ cond (eq_by_cmp R q k) (Some v) (lookup (is_at (R q)) es)
      → lookup (is_at (R q)) (match_ordering r ((k, v) ∷ e ∷ es) ((e.0, v) ∷ es) (e ∷ fs)) ≡ cond (eq_by_cmp R q k) (Some v) (lookup (is_at (R q)) (e ∷ es))
  found_by e es fs Less h rest = refl
  found_by e es fs Equal h rest = rw (alike_right o k e.0 q h) (twice (eq_by_cmp R q e.0) e.1 (lookup (is_at (R q)) es))
  found_by e es fs Greater h rest = later (eq_by_cmp R q e.0) (eq_by_cmp R q k) e.1 (lookup (is_at (R q)) fs) (lookup (is_at (R q)) es) rest (apart e h)

  -- a search finds an entry that was put at its place, else what it found before
  pub lookup-insert_entry : (es : List (K × X)) → lookup (is_at (R q)) (insert_entry R es k v) ≡ cond (eq_by_cmp R q k) (Some v) (lookup (is_at (R q)) es)
  lookup-insert_entry [] = refl
  lookup-insert_entry (e ∷ es) = found_by e es (insert_entry R es k v) (R k e.0) refl (lookup-insert_entry es)

same_test : (q k : ℕ) → is_at (nat_cmp q) k ≡ nat_eq q k
same_test q k = grind arith

none_equal : (k : ℕ) (ks : List ℕ) → AllByRecursion (λ l. nat_eq k l ≡ false) ks → list_any (eq_by_cmp nat_cmp k) ks ≡ false
none_equal k [] h = refl
none_equal k (l ∷ ls) h = rw (same_test k l ∙ h.0, none_equal k ls h.1) refl

module _ {Cell : Type 0} where
  pub by_key-ascends : (es : List (ℕ × Cell)) → HasKeysInOrder (by_key es)
  unfolding IsStrictlySortedBy
  by_key-ascends [] = tt
  by_key-ascends (p ∷ ps) = rw (keys-insert_entry nat_cmp p.0 p.1 (by_key ps)) (ascend-insert_key nat_cmp_total p.0 (map (λ (e : ℕ × Cell). e.0) (by_key ps)) (by_key-ascends ps))

  -- in the state of a bin without wakes all stands in order
  pub nothing_in_order : (es : List (ℕ × Cell)) (ws : List (ℕ × ℕ)) → ws ≡ [] → IsInOrder (record { cells = by_key es; wakes = ws })
  unfolding IsStrictlySortedBy
  nothing_in_order es ws e = record { cells = by_key-ascends es; wakes = rw e tt }

  -- a search finds what it finds in the list
  pub lookup-by_key : (es : List (ℕ × Cell)) (q : ℕ) → lookup (is_at (nat_cmp q)) (by_key es) ≡ lookup (nat_eq q) es
  lookup-by_key [] q = refl
  lookup-by_key (p ∷ ps) q =
      lookup-insert_entry nat_cmp_total q p.0 p.1 (by_key ps) ∙ (λ i. cond (same_test q p.0 i) (Some p.1) (lookup-by_key ps q i))

  -- so the cell of a key is what the list has of it, else the fresh one
  pub cell_in-by_key : (fresh : Cell) (es : List (ℕ × Cell)) (k : ℕ) → cell_in fresh (by_key es) k ≡ unwrap_or (lookup (nat_eq k) es) fresh
  cell_in-by_key fresh es k = cell_in-found fresh (by_key es) k ∙ ap (λ o. unwrap_or o fresh) (lookup-by_key es k)

  -- and a cell stands beside a key where the list has it
  pub there-by_key : (es : List (ℕ × Cell)) (k : ℕ) (c : Cell) → Contains (by_key es) (k, c) ↔ (lookup (nat_eq k) es ≡ Some c)
  there-by_key es k c = (
    λ i. sym (lookup-by_key es k) ∙ lookup-from_Contains (eq_by_cmp_equiv nat_cmp_total) k c (by_key es) (IsDistinct-from_sorted nat_cmp (map (λ (e : ℕ × Cell). e.0) (by_key es)) (by_key-ascends es)) i,
    λ e. Contains-from_lookup {eq = eq_by_cmp nat_cmp} (tells_apart exact_unsigned) k c (by_key es) (lookup-by_key es k ∙ e),
  )

  one_longer : (k : ℕ) (v : Cell) (e : ℕ × Cell) (es fs : List (ℕ × Cell)) (r : Ordering) → nat_cmp k e.0 ≡ r → (is_eq r || list_any (eq_by_cmp nat_cmp k) (map (λ p. p.0) es)) ≡ false → (list_any (eq_by_cmp nat_cmp k) (map (λ p. p.0) es) ≡ false → length fs ≡ length es + 1)
      → length (match_ordering r ((k, v) ∷ e ∷ es) ((e.0, v) ∷ es) (e ∷ fs)) ≡ length (e ∷ es) + 1
  one_longer k v e es fs Less h new rest = omega arith
  one_longer k v e es fs Equal h new rest = absurd (false≢true (sym new))
  one_longer k v e es fs Greater h new rest = let l = rest new in omega arith

  length-insert_entry : (k : ℕ) (v : Cell) (es : List (ℕ × Cell)) → list_any (eq_by_cmp nat_cmp k) (map (λ p. p.0) es) ≡ false → length (insert_entry nat_cmp es k v) ≡ length es + 1
  length-insert_entry k v [] new = refl
  length-insert_entry k v (e ∷ es) new = one_longer k v e es (insert_entry nat_cmp es k v) (nat_cmp k e.0) refl new (λ n. length-insert_entry k v es n)

  any_key : (k : ℕ) (es : List (ℕ × Cell)) → list_any (eq_by_cmp nat_cmp k) (map (λ p. p.0) (by_key es)) ≡ list_any (eq_by_cmp nat_cmp k) (map (λ p. p.0) es)
  any_key k [] = refl
  any_key k (p ∷ ps) =
      ap (list_any (eq_by_cmp nat_cmp k)) (keys-insert_entry nat_cmp p.0 p.1 (by_key ps))
      ∙ (any-insert_key nat_cmp_total k p.0 (map (λ (e : ℕ × Cell). e.0) (by_key ps)) ∙ ap (λ b. eq_by_cmp nat_cmp k p.0 || b) (any_key k ps))

  -- there are as many, where each key stands once
  pub length-by_key : (es : List (ℕ × Cell)) → IsDistinct nat_eq (map (λ p. p.0) es) → length (by_key es) ≡ length es
  length-by_key [] d = refl
  length-by_key (p ∷ ps) d =
      let keys = map (λ (e : ℕ × Cell). e.0) ps in
      let rest : length (by_key ps) ≡ length ps = length-by_key ps (IsDistinct-tail nat_eq p.0 keys d) in
      let one : length (by_key (p ∷ ps)) ≡ length (by_key ps) + 1 = length-insert_entry p.0 p.1 (by_key ps) (any_key p.0 ps ∙ none_equal p.0 keys (IsDistinct-head nat_eq p.0 keys d)) in
      omega arith
