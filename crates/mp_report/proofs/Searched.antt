-- Packets in the order of moves, and the first packet of a move among them.
use Rattle.std.proofs.Common.{◌≡◌, ◌∙◌, ℕ, zero, suc, ◌<◌, ◌≤◌, ◌==◌, ◌&&◌, ◌||◌, nat_lt, Bool, true, false, cond, List, [], ◌∷◌, ap, arith, get_or, length, refl, subst, sym, ◌⊎◌, ⊎_elim}
use Rattle.std.specs.Prelude.{if◌then◌else◌}
use Rattle.std.specs.List.Sorted.{IsPartitionPoint, IsPartitionedBy, IsSortedByKey}
use Rattle.std.specs.Ordering.{is_lt, nat_cmp, ordering_then}
use Rattle.std.specs.declared.cmp.Ordering.{Ordering}
use Rattle.std.specs.declared.cmp.Ordering.TheVariants.{Less, Equal, Greater}
use Rattle.std.proofs.lemmas.Bool.{and_from, and_parts, both_ways, cases_Bool, cases_lt, cases_order, eq-eqb, eqb-true, false_from_ne_true}
use Rattle.std.proofs.lemmas.Cmp.{nat_cmp_total, on_total, then_total}
use Rattle.std.proofs.lemmas.List.{get_or_read}
use Rattle.std.proofs.lemmas.List.Sorted.{ranks_by, sorted_far}
use Rattle.mp_names.specs.declared.controls.Move.{Move}
use Rattle.mp_names.specs.Names.{is_before}
use Rattle.mp_ordered.specs.InOrder.{IsInOrder}
use Rattle.mp_ordered.proofs.Placing.{partitioned}
use Rattle.mp_bins.proofs.Ranks.{not_before_itself, one_before}
use Rattle.mp_tally.specs.declared.tally.Moved.{Moved}
use Rattle.mp_report.specs.Told.{is_moved_by, keys_in, rank_of_packet}

-- How triples compare

abbrev pub triple_cmp : ℕ × ℕ × ℕ → ℕ × ℕ × ℕ → Ordering
triple_cmp x y = ordering_then (ordering_then (nat_cmp x.0 y.0) (nat_cmp x.1 y.1)) (nat_cmp x.2 y.2)

-- what a packet is sorted by
abbrev pub triple_of : Moved → ℕ × ℕ × ℕ
triple_of x = (x.time, x.stage, x.bin)

three : (l m n d e f : Bool) → is_lt (ordering_then (ordering_then (cond l Less (cond d Equal Greater)) (cond m Less (cond e Equal Greater))) (cond n Less (cond f Equal Greater))) ≡ (l || d && (m || e && (n || f && false)))
three true m n d e f = refl
three false true n true e f = refl
three false false true true true f = refl
three false false false true true true = refl
three false false false true true false = refl
three false false n true false f = refl
three false m n false e f = refl

less_is_before : (x y : Moved) → is_lt (triple_cmp (triple_of x) (triple_of y)) ≡ is_before (rank_of_packet x) (rank_of_packet y)
less_is_before x y = three (nat_lt x.time y.time) (nat_lt x.stage y.stage) (nat_lt x.bin y.bin) (x.time == y.time) (x.stage == y.stage) (x.bin == y.bin)

-- packets that are sorted are in order
pub sorted_in_order : (xs : List Moved) → IsSortedByKey triple_of triple_cmp xs → IsInOrder rank_of_packet xs
sorted_in_order xs up i j d l m =
    let total = then_total (then_total (on_total (λ (t : ℕ × ℕ × ℕ). t.0) nat_cmp_total) (on_total (λ (t : ℕ × ℕ × ℕ). t.1) nat_cmp_total)) (on_total (λ (t : ℕ × ℕ × ℕ). t.2) nat_cmp_total) in
    sym (less_is_before (get_or xs j d) (get_or xs i d)) ∙ sorted_far (λ x y. is_lt (triple_cmp (triple_of x) (triple_of y))) (ranks_by total triple_of) xs up i j d (omega arith) m

module _ (m : Move) where
  abbrev pub rank_of_move : List ℕ
  rank_of_move = m.time ∷ m.stage ∷ m.bin ∷ []

  abbrev pub comes_before : Moved → Bool
  comes_before x = is_before (rank_of_packet x) rank_of_move

  -- a packet is that of the move exactly where it has its rank
  its_rank : (x : Moved) → is_moved_by m x ≡ true → rank_of_packet x ≡ rank_of_move
  its_rank x e =
      let parts = and_parts (x.stage == m.stage) (x.bin == m.bin && x.time == m.time) e in
      let last = and_parts (x.bin == m.bin) (x.time == m.time) parts.1 in
      let stage = eqb-true x.stage m.stage parts.0 in
      let bin = eqb-true x.bin m.bin last.0 in
      let time = eqb-true x.time m.time last.1 in
      cc (stage, bin, time)

  its_packet : (x : Moved) → rank_of_packet x ≡ rank_of_move → is_moved_by m x ≡ true
  its_packet x e =
      let time : x.time ≡ m.time = ap (λ (l : List ℕ). get_or l 0 0) e in
      let stage : x.stage ≡ m.stage = ap (λ (l : List ℕ). get_or l 1 0) e in
      let bin : x.bin ≡ m.bin = ap (λ (l : List ℕ). get_or l 2 0) e in
      and_from (x.stage == m.stage) (x.bin == m.bin && x.time == m.time) (eq-eqb x.stage m.stage stage) (and_from (x.bin == m.bin) (x.time == m.time) (eq-eqb x.bin m.bin bin) (eq-eqb x.time m.time time))

  earlier : (x : Moved) → comes_before x ≡ true → is_moved_by m x ≡ false
  earlier x h = false_from_ne_true (is_moved_by m x) (λ e. both_ways (is_before rank_of_move rank_of_move) (not_before_itself rank_of_move) (subst (λ (r : List ℕ). is_before r rank_of_move ≡ true) (its_rank x e) h))

  -- what stands behind a packet that isn't of the move, and isn't before it, isn't of the move either
  later : (x y : Moved) → comes_before x ≡ false → is_moved_by m x ≡ false → is_before (rank_of_packet y) (rank_of_packet x) ≡ false → is_moved_by m y ≡ false
  later x y h other behind =
      let apart : rank_of_move ≡ rank_of_packet x → ⊥ = λ e. both_ways (is_moved_by m x) other (its_packet x (sym e)) in
      let first : is_before rank_of_move (rank_of_packet x) ≡ true = one_before rank_of_move (rank_of_packet x) apart h in
      false_from_ne_true (is_moved_by m y) (λ e. both_ways (is_before (rank_of_packet y) (rank_of_packet x)) behind (subst (λ (r : List ℕ). is_before r (rank_of_packet x) ≡ true) (sym (its_rank y e)) first))

  -- where no packet is of the move
  none_moved : (xs : List Moved) → ((k : ℕ) (d : Moved) → k < length xs → is_moved_by m (get_or xs k d) ≡ false) → keys_in xs m ≡ 0
  none_moved [] h = refl
  none_moved (x ∷ xs) h = ap (λ (b : Bool). if b then x.keys else keys_in xs m) (h 0 x (omega arith)) ∙ none_moved xs (λ k d l. h (suc k) d (omega arith))

  first_moved : (xs : List Moved) (at : ℕ) (x : Moved) → at < length xs → x ≡ get_or xs at x → ((k : ℕ) (d : Moved) → k < at → is_moved_by m (get_or xs k d) ≡ false) → is_moved_by m x ≡ true → x.keys ≡ keys_in xs m
  first_moved [] at x l is h e = absurd (omega arith)
  first_moved (y ∷ xs) zero x l is h e = ap (λ (z : Moved). z.keys) is ∙ sym (ap (λ (b : Bool). if b then y.keys else keys_in xs m) (subst (λ (z : Moved). is_moved_by m z ≡ true) is e))
  first_moved (y ∷ xs) (suc at) x l is h e = first_moved xs at x (omega arith) is (λ k d n. h (suc k) d (omega arith)) e ∙ sym (ap (λ (b : Bool). if b then y.keys else keys_in xs m) (h 0 y (omega arith)))

  pub parted : (xs : List Moved) → IsInOrder rank_of_packet xs → IsPartitionedBy comes_before xs
  parted xs h = partitioned rank_of_packet (record { stage = m.stage; bin = m.bin; time = m.time; keys = 0 }) xs h

  module _ (xs : List Moved) (at : ℕ) (order : IsInOrder rank_of_packet xs) (inside : at ≤ length xs) (point : IsPartitionPoint (λ x. comes_before x ≡ true) (λ x. comes_before x ≡ false) xs at) where
    in_front : (k : ℕ) (d : Moved) → k < at → is_moved_by m (get_or xs k d) ≡ false
    in_front k d l = earlier (get_or xs k d) (point.0 k d (omega arith) l)

    found : (x : Moved) → at < length xs → x ≡ get_or xs at x → is_moved_by m x ≡ true → x.keys ≡ keys_in xs m
    found x l is e = first_moved xs at x l is in_front e

    not_found : (x : Moved) → at < length xs → x ≡ get_or xs at x → is_moved_by m x ≡ false → keys_in xs m ≡ 0
    not_found x l is e = none_moved xs each
      where
        here : (d : Moved) → x ≡ get_or xs at d
        here = get_or_read xs at x l is

        here_or_behind : (k : ℕ) (d : Moved) → at ≤ k → k < length xs → is_moved_by m (get_or xs k d) ≡ false
        here_or_behind k d a n =
            ⊎_elim
            (λ (b : k ≡ at). subst (λ (z : Moved). is_moved_by m z ≡ false) (here d ∙ ap (λ (i : ℕ). get_or xs i d) (sym b)) e)
            (λ (b : (k < at) ⊎ (at < k)).
            ⊎_elim
            (λ (c : k < at). in_front k d c)
            (λ (c : at < k).
            later x (get_or xs k d) (subst (λ (z : Moved). comes_before z ≡ false) (sym (here d)) (point.1 at d (omega arith) l)) e
            (subst (λ (z : Moved). is_before (rank_of_packet (get_or xs k d)) (rank_of_packet z) ≡ false) (sym (here d)) (order at k d c n)))
            b)
            (cases_order k at)

        each : (k : ℕ) (d : Moved) → k < length xs → is_moved_by m (get_or xs k d) ≡ false
        each k d n = ⊎_elim (λ (a : k < at). in_front k d a) (λ (a : at ≤ k). here_or_behind k d a n) (cases_lt k at)

    -- only the packet at the place may be that of the move
    pub only_there : (x : Moved) → at < length xs → x ≡ get_or xs at x → keys_in (x ∷ []) m ≡ keys_in xs m
    only_there x l is =
        ⊎_elim
        (λ (e : is_moved_by m x ≡ true). ap (λ (b : Bool). if b then x.keys else 0) e ∙ found x l is e)
        (λ (e : is_moved_by m x ≡ false). ap (λ (b : Bool). if b then x.keys else 0) e ∙ sym (not_found x l is e))
        (cases_Bool (is_moved_by m x))

    pub past_all : length xs ≤ at → keys_in xs m ≡ 0
    past_all l = none_moved xs (λ k d n. in_front k d (omega arith))
