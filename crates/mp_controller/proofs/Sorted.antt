-- Turns that are sorted give the paced order.
use Rattle.std.proofs.Common.{◌≡◌, ◌⊎◌, ◌∙◌, ℕ, ◌<◌, ◌==◌, ◌||◌, ◌&&◌, nat_lt, Bool, true, false, cond, List, All, get_or, length, map, refl, sym, ap, subst, inl, inr, ⊎_elim, arith}
use Rattle.std.specs.Cmp.{IsTotalOrder}
use Rattle.std.specs.List.{IsDistinct, range_with_len}
use Rattle.std.specs.List.Sorted.{IsPermutation, IsSorted}
use Rattle.std.specs.Ordering.{is_lt, nat_cmp, ordering_then}
use Rattle.std.specs.declared.cmp.Ordering.{Ordering}
use Rattle.std.specs.declared.cmp.Ordering.TheVariants.{Less, Equal, Greater}
use Rattle.std.proofs.lemmas.Bool.{and_from, both_ways, eq-eqb, eqb-true, false_from_ne_true, lt-ltb, or_left, or_right}
use Rattle.std.proofs.lemmas.Cmp.{nat_cmp_total, on_total, then_total}
use Rattle.std.proofs.lemmas.List.{get_or-map, length-map}
use Rattle.std.proofs.lemmas.List.FromFn.{get_or-map-range_with_len, length-map-range_with_len}
use Rattle.std.proofs.lemmas.List.Sorted.{All-permutation, Contains-permutation, length_permutation, ranks_by, sorted_far}
use Rattle.std.proofs.lemmas.Map.Keys.{IsDistinct-IsPermutation, IsDistinct-from_apart, apart_from_distinct}
use Rattle.mp_names.specs.declared.controls.Control.{Control}
use Rattle.mp_names.specs.Controls.{control_of}
use Rattle.mp_controller.specs.declared.order.Turn.{Turn}
use Rattle.mp_controller.specs.Controlling.{GoesBefore, IsSendingOrder, index_at}
use Rattle.mp_controller.specs.Turns.{turn_at}

-- How turns compare

abbrev pub turn_cmp : Turn → Turn → Ordering
turn_cmp a b = ordering_then (nat_cmp a.time b.time) (nat_cmp a.index b.index)

total : IsTotalOrder turn_cmp
total = then_total (on_total (λ (t : Turn). t.time) nat_cmp_total) (on_total (λ (t : Turn). t.index) nat_cmp_total)

two : (l d m e : Bool) → is_lt (ordering_then (cond l Less (cond d Equal Greater)) (cond m Less (cond e Equal Greater))) ≡ (l || d && m)
two true d m e = refl
two false true true e = refl
two false true false true = refl
two false true false false = refl
two false false m e = refl

abbrev same_index : Turn → Turn → Bool
same_index a b = a.index == b.index

either : (m n : ℕ) → (m < n) ⊎ ((m ≡ n) ⊎ (n < m))
either m n = grind arith

-- the first goes out before the second
abbrev IsSooner : Turn → Turn → Type 0
IsSooner a b = (a.time < b.time) ⊎ ((a.time ≡ b.time) × (a.index < b.index))

sooner_from : (a b : Turn) → is_lt (turn_cmp b a) ≡ false → same_index a b ≡ false → IsSooner a b
sooner_from a b not_back apart = ⊎_elim (λ (l : a.time < b.time). inl l) (λ r. ⊎_elim same (λ (l : b.time < a.time). absurd (back (or_left (nat_lt b.time a.time) (b.time == a.time && nat_lt b.index a.index) (lt-ltb b.time a.time l)))) r) (either a.time b.time)
  where
    back : (nat_lt b.time a.time || b.time == a.time && nat_lt b.index a.index) ≡ true → ⊥
    back e = both_ways (is_lt (turn_cmp b a)) not_back (two (nat_lt b.time a.time) (b.time == a.time) (nat_lt b.index a.index) (b.index == a.index) ∙ e)

    same : a.time ≡ b.time → IsSooner a b
    same e =
        ⊎_elim
        (λ (l : a.index < b.index). inr (e, l))
        (λ r.
        absurd (
        ⊎_elim
        (λ (f : a.index ≡ b.index). both_ways (same_index a b) apart (eq-eqb a.index b.index f))
        (λ (l : b.index < a.index). back (or_right (nat_lt b.time a.time) (b.time == a.time && nat_lt b.index a.index) (and_from (b.time == a.time) (nat_lt b.index a.index) (eq-eqb b.time a.time (sym e)) (lt-ltb b.index a.index l))))
        r))
        (either a.index b.index)

module _ (controls : List Control) (turns sorted : List Turn) (are : turns ≡ map (turn_at controls) (range_with_len 0 (length controls))) (moved : IsPermutation turns sorted) (up : IsSorted turn_cmp sorted) where
  as_many : length turns ≡ length controls
  as_many = ap length are ∙ length-map-range_with_len (turn_at controls) 0 (length controls)

  turn_is : (k : ℕ) (d : Turn) → k < length turns → get_or turns k d ≡ turn_at controls k
  turn_is k d l = ap (λ ts. get_or ts k d) are ∙ get_or-map-range_with_len (turn_at controls) 0 (length controls) k k d (let n = as_many in omega arith) (omega arith)

  -- each turn is that of an index
  abbrev IsTurn : Turn → Type 0
  IsTurn t = (t.index < length controls) × (t ≡ turn_at controls t.index)

  of_index : All IsTurn sorted
  of_index = All-permutation IsTurn turns sorted moved (λ k d l. subst IsTurn (sym (turn_is k d l)) (let n = as_many in omega arith, refl))

  all_apart : IsDistinct same_index sorted
  all_apart =
      IsDistinct-IsPermutation same_index (λ a b. flips a.index b.index) turns sorted moved
      (IsDistinct-from_apart same_index turns (λ i j d l m. false_from_ne_true (same_index (get_or turns i d) (get_or turns j d)) (λ e.
      let same = eqb-true (get_or turns i d).index (get_or turns j d).index e in
      let a = ap (λ (t : Turn). t.index) (turn_is i d (omega arith)) in
      let b = ap (λ (t : Turn). t.index) (turn_is j d m) in
      omega arith)))
    where
      flips : (m n : ℕ) → (m == n) ≡ (n == m)
      flips m n = grind arith

  rising : (p k : ℕ) (d : Turn) → p < k → k < length sorted → IsSooner (get_or sorted p d) (get_or sorted k d)
  rising p k d l m =
      sooner_from
      (get_or sorted p d)
      (get_or sorted k d)
      (sorted_far (λ x y. is_lt (turn_cmp x y)) (ranks_by total (λ t. t)) sorted up p k d (omega arith) m)
      (apart_from_distinct same_index sorted p k d all_apart l m)

  abbrev none : Turn
  none = record { time = 0; index = 0 }

  index_is : (p : ℕ) → p < length sorted → index_at (map (λ t. t.index) sorted) p ≡ (get_or sorted p none).index
  index_is p l = get_or-map (λ (t : Turn). t.index) sorted p none 0 l

  -- their indices are the paced order
  pub in_paced_order : IsSendingOrder true controls (map (λ t. t.index) sorted)
  in_paced_order = record {
    as_many = many;
    listed = λ k d l. let here = short k l in subst (λ (i : ℕ). i < length controls) (sym (get_or-map (λ (t : Turn). t.index) sorted k none d here)) (of_index k none here).0;
    all = λ i l.
        let there = Contains-permutation turns sorted (turn_at controls i) moved (let n = as_many in let h : i < length turns = omega arith in (i, h, turn_is i (turn_at controls i) h)) in
        (there.0, (let l : there.0 < length sorted = there.1 in let n = length-map sorted (λ (t : Turn). t.index) in omega arith), get_or-map (λ (t : Turn). t.index) sorted there.0 (turn_at controls i) i there.1 ∙ ap (λ (t : Turn). t.index) there.2);
    by_turn = λ p k l m. let far = short k m in let near : p < length sorted = omega arith in goes p k near far (rising p k none l far);
  }
    where
      many : length (map (λ (t : Turn). t.index) sorted) ≡ length controls
      many = length-map sorted (λ (t : Turn). t.index) ∙ length_permutation turns sorted moved ∙ as_many

      short : (k : ℕ) → k < length (map (λ (t : Turn). t.index) sorted) → k < length sorted
      short k l = let n = length-map sorted (λ (t : Turn). t.index) in omega arith

      time_is : (p : ℕ) → p < length sorted → (get_or sorted p none).time ≡ (control_of controls (index_at (map (λ t. t.index) sorted) p)).time
      time_is p l = ap (λ (t : Turn). t.time) (of_index p none l).1 ∙ ap (λ (i : ℕ). (control_of controls i).time) (sym (index_is p l))

      goes : (p k : ℕ) → p < length sorted → k < length sorted → IsSooner (get_or sorted p none) (get_or sorted k none) → GoesBefore true controls (index_at (map (λ t. t.index) sorted) p) (index_at (map (λ t. t.index) sorted) k)
      goes p k l m s =
          let a = time_is p l in
          let b = time_is k m in
          let i = index_is p l in
          let j = index_is k m in
          ⊎_elim
          (λ (t : (get_or sorted p none).time < (get_or sorted k none).time). inl (omega arith))
          (λ (t : ((get_or sorted p none).time ≡ (get_or sorted k none).time) × ((get_or sorted p none).index < (get_or sorted k none).index)). inr (sym a ∙ t.0 ∙ b, let n = t.1 in omega arith))
          s
