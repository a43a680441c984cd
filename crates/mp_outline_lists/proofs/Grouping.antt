-- The groups of a stage, by when they are.
use Rattle.std.proofs.Common.{◌≡◌, ℕ, zero, suc, ◌+◌, ◌<◌, ◌&&◌, ◌==◌, Bool, true, List, [], ◌∷◌, ◌++◌, length, get_or, take, map, Ordering, refl, sym, ap, ◌∙◌, inl, inr, ⊎_elim, arith}
use Rattle.std.specs.Cmp.{IsTotalOrder}
use Rattle.std.specs.List.{dedup, flat_map}
use Rattle.std.specs.List.Sorted.{IsPermutation, IsSorted}
use Rattle.std.specs.Ordering.{nat_cmp, ordering_then, is_eq, eq_by_cmp}
use Rattle.std.specs.declared.cmp.Ordering.TheVariants.{Less as LessOrd}
use Rattle.std.proofs.lemmas.Bool.{false≢true, eqb-true, and_parts}
use Rattle.std.proofs.lemmas.Cmp.{nat_cmp_total, nat_eq_equiv, on_total, then_total, on_equiv, and_equiv}
use Rattle.std.proofs.Math.Nat.{eq-or-lt_of_le}
use Rattle.std.proofs.lemmas.List.{append-nil, get_or_append_left, get_or_push, map-append, take_more}
use Rattle.std.proofs.lemmas.List.Concat.{flat_map-append, flat_map-cons}
use Rattle.mp_names.specs.declared.names.Name.{Name}
use Rattle.mp_names.specs.declared.names.Name.TheVariants.{Rec, Group}
use Rattle.mp_names.specs.Names.{In, Less, ascending, is_rec, is_group}
use Rattle.mp_names.specs.Outlines.{Outline, OutlineIsSound, groups_of, groups_made}
use Rattle.mp_names.proofs.Lists.{In_here, In_later}
use Rattle.mp_outline_lists.specs.declared.moments.Moment.{Moment}
use Rattle.mp_outline_lists.specs.Moments.{AreMomentsBelow, group_at, moment_of, moments_made}
use Rattle.mp_outline_lists.proofs.InOrder.{two}
use Rattle.mp_outline_lists.proofs.Keys.{IsKeyOrder, below, kept_are, nat_ties, then_ties}

-- How moments compare

abbrev pub moment_cmp : Moment → Moment → Ordering
moment_cmp a b = ordering_then (nat_cmp a.time b.time) (nat_cmp a.key b.key)

abbrev pub same_moment : Moment → Moment → Bool
same_moment a b = a.time == b.time && a.key == b.key

total : IsTotalOrder moment_cmp
total = then_total (on_total (λ (m : Moment). m.time) nat_cmp_total) (on_total (λ (m : Moment). m.key) nat_cmp_total)

ties : (a b : Moment) → same_moment a b ≡ eq_by_cmp moment_cmp a b
ties a b =
    ap (λ (x : Bool). x && a.key == b.key) (nat_ties a.time b.time)
    ∙ ap (λ (x : Bool). is_eq (nat_cmp a.time b.time) && x) (nat_ties a.key b.key)
    ∙ then_ties (nat_cmp a.time b.time) (nat_cmp a.key b.key)

exact : (a b : Moment) → same_moment a b ≡ true → a ≡ b
exact a b h =
    let p = and_parts (a.time == b.time) (a.key == b.key) h in
    same (eqb-true a.time b.time p.0) (eqb-true a.key b.key p.1)
  where
    same : a.time ≡ b.time → a.key ≡ b.key → a ≡ b
    same e f = ap (λ (t : ℕ). let m : Moment = record { time = t; key = a.key } in m) e ∙ ap (λ (k : ℕ). let m : Moment = record { time = b.time; key = k } in m) f

rises : (j : ℕ) (a b : Moment) → moment_cmp a b ≡ LessOrd → Less (group_at j a) (group_at j b)
rises j a b h =
    two a.time b.time (nat_cmp a.key b.key) (Less (group_at j a) (group_at j b)) h
    (λ earlier. inr (refl, inl earlier))
    (λ same less. inr (refl, inr (same, inr (refl, inl (below a.key b.key less)))))

moments_in_order : (j : ℕ) → IsKeyOrder (group_at j) moment_cmp same_moment
moments_in_order j = record {
  total = total;
  alike = and_equiv (on_equiv (λ (m : Moment). m.time) nat_eq_equiv) (on_equiv (λ (m : Moment). m.key) nat_eq_equiv);
  ties = ties;
  exact = exact;
  rises = rises j;
}

-- moments that are sorted, and of which each is kept once, are those of the groups in rank order
pub moments_kept : (j : ℕ) (moments sorted kept : List Moment) → IsPermutation moments sorted → IsSorted moment_cmp sorted → kept ≡ dedup same_moment sorted → map (group_at j) kept ≡ ascending (map (group_at j) moments)
moments_kept j moments sorted kept moved up is = kept_are (group_at j) moment_cmp same_moment (moments_in_order j) moments sorted kept moved up is

-- The groups of names

own_group : (j : ℕ) (x : Name) → is_group j x ≡ true → group_at j (moment_of x) ≡ x
own_group j (Group i t k) h = ap (λ (n : ℕ). Group n t k) (sym (eqb-true i j h))
own_group j _ h = absurd (false≢true h)

own_groups : (j : ℕ) (xs : List Name) → ((x : Name) → In x xs → is_group j x ≡ true) → map (group_at j) (map moment_of xs) ≡ xs
own_groups j [] h = refl
own_groups j (x ∷ xs) h =
    let a = own_group j x (h x (In_here x xs)) in
    let b = own_groups j xs (λ y i. h y (In_later y x xs i)) in
    ap (λ (y : Name). y ∷ map (group_at j) (map moment_of xs)) a ∙ ap (λ (l : List Name). x ∷ l) b

posted_groups : (j k : ℕ) (us : List ℕ) → map (group_at j) (map (λ u. record { time = u; key = k }) us) ≡ map (λ u. Group j u k) us
posted_groups j k [] = refl
posted_groups j k (u ∷ us) = ap (λ (l : List Name). Group j u k ∷ l) (posted_groups j k us)

groups_made_by : (o : Outline) (j : ℕ) (x : Name) → is_rec j x ≡ true → map (group_at j) (moments_made o x) ≡ groups_made o x
groups_made_by o j (Rec i t k g) h =
    let e : j ≡ i = sym (eqb-true i j h) in
    ap (λ (n : ℕ). map (group_at n) (moments_made o (Rec i t k g))) e ∙ ap (λ (l : List Name). Group i t k ∷ l) (posted_groups i k (o.posts (Rec i t k g)))
groups_made_by o j _ h = absurd (false≢true h)

groups_made_by_all : (o : Outline) (j : ℕ) (xs : List Name) → ((x : Name) → In x xs → is_rec j x ≡ true) → map (group_at j) (flat_map (moments_made o) xs) ≡ flat_map (groups_made o) xs
groups_made_by_all o j [] h = refl
groups_made_by_all o j (x ∷ xs) h =
    let a = groups_made_by o j x (h x (In_here x xs)) in
    let b = groups_made_by_all o j xs (λ y i. h y (In_later y x xs i)) in
    ap (map (group_at j)) (flat_map-cons (moments_made o) x xs)
    ∙ map-append (group_at j) (moments_made o x) (flat_map (moments_made o) xs)
    ∙ ap (λ (l : List Name). l ++ map (group_at j) (flat_map (moments_made o) xs)) a
    ∙ ap (λ (l : List Name). groups_made o x ++ l) b
    ∙ sym (flat_map-cons (groups_made o) x xs)

module _ (o : Outline) (ok : OutlineIsSound o) (j : ℕ) (moments kept : List Moment) (are : moments ≡ map moment_of (o.opening j) ++ flat_map (moments_made o) (o.records j)) (is : map (group_at j) kept ≡ ascending (map (group_at j) moments)) where
  abbrev all : List Name
  all = o.opening j ++ flat_map (groups_made o) (o.records j)

  names_are : map (group_at j) moments ≡ all
  names_are =
      ap (map (group_at j)) are
      ∙ map-append (group_at j) (map moment_of (o.opening j)) (flat_map (moments_made o) (o.records j))
      ∙ ap (λ (l : List Name). l ++ map (group_at j) (flat_map (moments_made o) (o.records j))) (own_groups j (o.opening j) (λ x i. (ok.opening_are j x i).1))
      ∙ ap (λ (l : List Name). o.opening j ++ l) (groups_made_by_all o j (o.records j) (λ x i. (ok.records_are j x i).1))

  -- those that are kept are the groups of the stage
  pub groups_kept : map (group_at j) kept ≡ groups_of o j
  unfolding groups_of
  groups_kept = is ∙ ap ascending names_are

-- One more record

pub flat_more : {A : Type 0} (f : Name → List A) (xs : List Name) (i : ℕ) (d : Name) → i < length xs → flat_map f (take (i + 1) xs) ≡ flat_map f (take i xs) ++ f (get_or xs i d)
flat_more f xs i d l =
    ap (flat_map f) (take_more xs i d l)
    ∙ flat_map-append f (take i xs) (get_or xs i d ∷ [])
    ∙ ap (λ ys. flat_map f (take i xs) ++ ys) (flat_map-cons f (get_or xs i d) [] ∙ append-nil (f (get_or xs i d)))

pub posts_nothing : (o : Outline) → ((j : ℕ) (x : Name) → In x (o.records (suc j)) → o.posts x ≡ []) → (j : ℕ) (x : Name) → 0 < j → In x (o.records j) → o.posts x ≡ []
posts_nothing o later zero x l i = absurd (omega arith)
posts_nothing o later (suc j) x l i = later j x i

-- One more stage

pub one_more_stage : (o : Outline) (j : ℕ) (lists : List (List Moment)) (own : List Moment) → length lists ≡ j → AreMomentsBelow j o lists → map (group_at j) own ≡ groups_of o j → AreMomentsBelow (j + 1) o (lists ++ own ∷ [])
one_more_stage o j lists own count so_far is i below =
    ⊎_elim
    (λ (same : i ≡ j). ap (map (group_at i)) (get_or_push lists own [] i (count ∙ sym same)) ∙ ap (λ (n : ℕ). map (group_at n) own) same ∙ is ∙ ap (groups_of o) (sym same))
    (λ (earlier : i < j). ap (map (group_at i)) (get_or_append_left lists (own ∷ []) [] i (omega arith)) ∙ so_far i earlier)
    (eq-or-lt_of_le {n = i} {m = j} (omega arith))
