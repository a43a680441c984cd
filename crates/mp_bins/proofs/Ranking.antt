-- Moves in the order of their ranks: where one stands, and what is there with one more, or without it.
use Rattle.std.proofs.Common.{◌≡◌, ◌≢◌, ◌↔◌, ℕ, suc, ◌+◌, ◌-◌, ◌<◌, ◌≤◌, ◌⊎◌, Bool, true, false, not, List, [], ◌∷◌, length, get_or, Option, None, Some, refl, sym, ap, ◌∙◌, subst, inl, inr, ⊎_elim, arith}
use Rattle.std.specs.List.{Contains, insert, prefix_len, remove}
use Rattle.std.specs.Option.{IfSome}
use Rattle.std.specs.List.Sorted.{IsPartitionPoint, IsPartitionedBy}
use Rattle.std.proofs.lemmas.Bool.{both_ways, cases_lt, not-false, not-true, not_from_false, false_from_ne_true}
use Rattle.std.proofs.lemmas.List.{get_or_default}
use Rattle.std.proofs.lemmas.List.Elements.{Contains-get_or}
use Rattle.std.proofs.lemmas.List.Sums.{prefix_len-le-length, prefix_len_is}
use Rattle.std.proofs.lemmas.List.Edits.{length-insert, length-remove, get_or-insert_below, get_or-insert_at, get_or-insert_above, get_or-remove_below, get_or-remove_above}
use Rattle.mp_names.specs.declared.controls.Move.{Move}
use Rattle.mp_names.specs.declared.pointstamps.TimedBin.{TimedBin}
use Rattle.mp_names.specs.Names.{IsBefore, is_before}
use Rattle.mp_names.proofs.Orders.{before_is, is_before-from}
use Rattle.mp_ordered.specs.InOrder.{put_in_order}
use Rattle.mp_ordered.proofs.Placing.{count_parts, placed_at}
use Rattle.mp_bins.specs.Leaving.{IsAfter, bin_at}
use Rattle.mp_bins.specs.Changes.{AreRanked, IsFirstFrom, IsFrom, NoneIsFrom, key_after, key_of, rank_of_move}
use Rattle.mp_bins.proofs.Ranks.{before_both, not_back, not_before_itself, one_before}

abbrev of_rank : List ℕ → Move
of_rank (j ∷ w ∷ t ∷ b ∷ v ∷ rest) = record { time = t; stage = j; bin = b; from = w; to = v }
of_rank x = record { time = 0; stage = 0; bin = 0; from = 0; to = 0 }

pub same_rank : (m n : Move) → rank_of_move m ≡ rank_of_move n → m ≡ n
same_rank m n e = ap of_rank e

-- in order

pub before_first : (ms : List Move) (limit : List ℕ) → AreRanked ms → IsPartitionedBy (λ m. is_before (rank_of_move m) limit) ms
before_first ms limit h i k d l m e =
    ⊎_elim
    (λ (n : i < k). before_both (rank_of_move (get_or ms i d)) (rank_of_move (get_or ms k d)) limit (h i k d n m) e)
    (λ (n : k ≤ i). let f : k ≡ i = omega arith in subst (λ (q : ℕ). is_before (rank_of_move (get_or ms q d)) limit ≡ true) f e)
    (cases_lt i k)

pub upto_first : (ms : List Move) (limit : List ℕ) → AreRanked ms → IsPartitionedBy (λ m. not (is_before limit (rank_of_move m))) ms
upto_first ms limit h i k d l m e =
    ⊎_elim
    (λ (n : i < k).
    not_from_false (is_before limit (rank_of_move (get_or ms i d)))
    (false_from_ne_true (is_before limit (rank_of_move (get_or ms i d))) (λ f.
    both_ways (is_before limit (rank_of_move (get_or ms k d))) (not-true (is_before limit (rank_of_move (get_or ms k d))) e) (before_both limit (rank_of_move (get_or ms i d)) (rank_of_move (get_or ms k d)) f (h i k d n m)))))
    (λ (n : k ≤ i). let f : k ≡ i = omega arith in subst (λ (q : ℕ). not (is_before limit (rank_of_move (get_or ms q d))) ≡ true) f e)
    (cases_lt i k)

-- two of one list that stand apart differ
pub differ : (ms : List Move) → AreRanked ms → (i k : ℕ) (d : Move) → i < k → k < length ms → get_or ms i d ≡ get_or ms k d → ⊥
differ ms h i k d l m e =
    both_ways (is_before (rank_of_move (get_or ms k d)) (rank_of_move (get_or ms k d))) (not_before_itself (rank_of_move (get_or ms k d))) (subst (λ (x : Move). is_before (rank_of_move x) (rank_of_move (get_or ms k d)) ≡ true) e (h i k d l m))

-- up to a move that is there, there are those that stand in front of it, and itself

module _ (ms : List Move) (h : AreRanked ms) (new : Move) (there : Contains ms new) where
  abbrev goes_first : Move → Bool
  goes_first m = is_before (rank_of_move m) (rank_of_move new)

  in_front : (j : ℕ) (d : Move) → j < there.0 → goes_first (get_or ms j d) ≡ true
  in_front j d l = subst (λ (x : Move). is_before (rank_of_move (get_or ms j d)) (rank_of_move x) ≡ true) (get_or_default ms there.0 d new there.1 ∙ there.2) (h j there.0 d l there.1)

  behind : (j : ℕ) (d : Move) → there.0 < j → j < length ms → is_before (rank_of_move new) (rank_of_move (get_or ms j d)) ≡ true
  behind j d l m = subst (λ (x : Move). is_before (rank_of_move x) (rank_of_move (get_or ms j d)) ≡ true) (get_or_default ms there.0 d new there.1 ∙ there.2) (h there.0 j d l m)

  itself : (d : Move) → get_or ms there.0 d ≡ new
  itself d = get_or_default ms there.0 d new there.1 ∙ there.2

  pub parts_there : IsPartitionPoint (λ m. goes_first m ≡ true) (λ m. goes_first m ≡ false) ms there.0
  parts_there = (
    λ k d z l. in_front k d l,
    λ k d l m.
        ⊎_elim
        (λ (n : there.0 < k). not_back (rank_of_move new) (rank_of_move (get_or ms k d)) (behind k d n m))
        (λ (n : k ≤ there.0).
        let e : there.0 ≡ k = omega arith in
        subst (λ (x : Move). goes_first x ≡ false) (sym (itself d) ∙ ap (λ (q : ℕ). get_or ms q d) e) (not_before_itself (rank_of_move new)))
        (cases_lt there.0 k),
  )

  pub count_there : prefix_len (λ m. not (is_before (rank_of_move new) (rank_of_move m))) ms ≡ there.0 + 1
  count_there =
      let inside = there.1 in
      prefix_len_is (λ m. not (is_before (rank_of_move new) (rank_of_move m))) ms (there.0 + 1) new (omega arith)
      (λ k l. not_from_false (is_before (rank_of_move new) (rank_of_move (get_or ms k new))) (upto k (omega arith)))
      (λ l. true_to_not (is_before (rank_of_move new) (rank_of_move (get_or ms (there.0 + 1) new))) (behind (there.0 + 1) new (omega arith) l))
    where
      true_to_not : (b : Bool) → b ≡ true → not b ≡ false
      true_to_not b e = rw e refl

      upto : (k : ℕ) → k ≤ there.0 → is_before (rank_of_move new) (rank_of_move (get_or ms k new)) ≡ false
      upto k l =
          ⊎_elim
          (λ (n : k < there.0). not_back (rank_of_move (get_or ms k new)) (rank_of_move new) (in_front k new n))
          (λ (n : there.0 ≤ k).
          let e : there.0 ≡ k = omega arith in
          subst (λ (x : Move). is_before (rank_of_move new) (rank_of_move x) ≡ false) (sym (itself new) ∙ ap (λ (q : ℕ). get_or ms q new) e) (not_before_itself (rank_of_move new)))
          (cases_lt k there.0)

-- a key parts the moves
pub key_parts : (ms : List Move) (key : List ℕ) → AreRanked ms → IsPartitionPoint (λ m. is_before key (rank_of_move m) ≡ false) (λ m. is_before key (rank_of_move m) ≡ true) ms (prefix_len (λ m. not (is_before key (rank_of_move m))) ms)
key_parts ms key h =
    let point = count_parts (λ m. not (is_before key (rank_of_move m))) ms (upto_first ms key h) in
    (λ k d z l. not-true (is_before key (rank_of_move (get_or ms k d))) (point.0 k d z l), λ k d l m. not-false (is_before key (rank_of_move (get_or ms k d))) (point.1 k d l m))

-- a move is put where those that go first end
pub put_parts : (ms : List Move) (new : Move) → AreRanked ms → IsPartitionPoint (λ m. is_before (rank_of_move m) (rank_of_move new) ≡ true) (λ m. is_before (rank_of_move m) (rank_of_move new) ≡ false) ms (prefix_len (λ m. is_before (rank_of_move m) (rank_of_move new)) ms)
put_parts ms new h = count_parts (λ m. is_before (rank_of_move m) (rank_of_move new)) ms (before_first ms (rank_of_move new) h)

pub put_is_insert : (ms : List Move) (new : Move) → AreRanked ms → put_in_order rank_of_move new ms ≡ insert ms (prefix_len (λ m. is_before (rank_of_move m) (rank_of_move new)) ms) new
put_is_insert ms new h =
    let p = prefix_len (λ m. is_before (rank_of_move m) (rank_of_move new)) ms in
    let parts = put_parts ms new h in
    sym (placed_at rank_of_move new ms p (prefix_len-le-length (λ m. is_before (rank_of_move m) (rank_of_move new)) ms) (λ k d l. parts.0 k d (omega arith) l) (λ d l. parts.1 p d (omega arith) l))

-- where a move stands, or would

module _ (ms : List Move) (h : AreRanked ms) (new : Move) (p : ℕ) (inside : p ≤ length ms) (split : IsPartitionPoint (λ m. is_before (rank_of_move m) (rank_of_move new) ≡ true) (λ m. is_before (rank_of_move m) (rank_of_move new) ≡ false) ms p) where
  pub found : Contains ms new → (p < length ms) × (get_or ms p new ≡ new)
  found c =
      let k = c.0 in
      let l = c.1 in
      let upto : p ≤ k =
      ⊎_elim
      (λ (n : k < p). absurd (both_ways (is_before (rank_of_move new) (rank_of_move new)) (not_before_itself (rank_of_move new)) (subst (λ (x : Move). is_before (rank_of_move x) (rank_of_move new) ≡ true) c.2 (split.0 k new (omega arith) n))))
      (λ (n : p ≤ k). n)
      (cases_lt k p) in
      ⊎_elim
      (λ (n : p < k).
      absurd (both_ways (is_before (rank_of_move (get_or ms p new)) (rank_of_move new)) (split.1 p new (omega arith) (omega arith)) (subst (λ (x : Move). is_before (rank_of_move (get_or ms p new)) (rank_of_move x) ≡ true) c.2 (h p k new n l))))
      (λ (n : k ≤ p). let e : k ≡ p = omega arith in (omega arith, subst (λ (q : ℕ). get_or ms q new ≡ new) e c.2))
      (cases_lt p k)

  -- without it
  module _ (there : Contains ms new) where
    left : (m : Move) → Contains (remove ms p) m → Contains ms m × (Some new ≢ Some m)
    left m c =
        let f = found there in
        let f0 = f.0 in
        let l = c.1 in
        let n = length-remove ms p f.0 in
        let here : get_or ms p m ≡ new = get_or_default ms p m new f.0 ∙ f.1 in
        ⊎_elim
        (λ (k : c.0 < p).
        let e = sym (get_or-remove_below ms p m c.0 k f.0) ∙ c.2 in
        ((c.0, omega arith, e), λ g. differ ms h c.0 p m k f.0 (e ∙ cc (here, g))))
        (λ (k : p ≤ c.0).
        let e = sym (get_or-remove_above ms p m c.0 k f.0) ∙ c.2 in
        ((c.0 + 1, omega arith, e), λ g. differ ms h p (c.0 + 1) m (omega arith) (omega arith) (here ∙ cc (e, g))))
        (cases_lt c.0 p)

    kept : (m : Move) → Contains ms m → (Some new ≢ Some m) → Contains (remove ms p) m
    kept m c ne =
        let f = found there in
        let f0 = f.0 in
        let l = c.1 in
        let n = length-remove ms p f.0 in
        let here : get_or ms p m ≡ new = get_or_default ms p m new f.0 ∙ f.1 in
        ⊎_elim
        (λ (k : c.0 < p). (c.0, omega arith, get_or-remove_below ms p m c.0 k f.0 ∙ c.2))
        (λ (k : p ≤ c.0).
        ⊎_elim
        (λ (g : p < c.0). let e : c.0 - 1 + 1 ≡ c.0 = omega arith in (c.0 - 1, omega arith, get_or-remove_above ms p m (c.0 - 1) (omega arith) f.0 ∙ ap (λ (q : ℕ). get_or ms q m) e ∙ c.2))
        (λ (g : c.0 ≤ p). let e : p ≡ c.0 = omega arith in absurd (ne (ap (λ (x : Move). Some x) (sym here ∙ ap (λ (q : ℕ). get_or ms q m) e ∙ c.2))))
        (cases_lt p c.0))
        (cases_lt c.0 p)

    pub without : (m : Move) → (Contains (remove ms p) m ↔ (Contains ms m × (Some new ≢ Some m)))
    without m = (left m, λ r. kept m r.0 r.1)

  -- with it
  more : (m : Move) → Contains (insert ms p new) m → Contains ms m ⊎ (Some new ≡ Some m)
  more m c =
      let l = c.1 in
      let n = length-insert ms p new inside in
      ⊎_elim
      (λ (k : c.0 < p). inl (c.0, omega arith, sym (get_or-insert_below ms p new m c.0 k inside) ∙ c.2))
      (λ (k : p ≤ c.0).
      ⊎_elim
      (λ (g : p < c.0).
      let e : c.0 - 1 + 1 ≡ c.0 = omega arith in
      inl (c.0 - 1, omega arith, sym (get_or-insert_above ms p new m (c.0 - 1) (omega arith) inside) ∙ ap (λ (q : ℕ). get_or (insert ms p new) q m) e ∙ c.2))
      (λ (g : c.0 ≤ p). let e : p ≡ c.0 = omega arith in inr (ap (λ (x : Move). Some x) (sym (get_or-insert_at ms p new m inside) ∙ ap (λ (q : ℕ). get_or (insert ms p new) q m) e ∙ c.2)))
      (cases_lt p c.0))
      (cases_lt c.0 p)

  old_too : (m : Move) → Contains ms m → Contains (insert ms p new) m
  old_too m c =
      let l = c.1 in
      let n = length-insert ms p new inside in
      ⊎_elim
      (λ (k : c.0 < p). (c.0, omega arith, get_or-insert_below ms p new m c.0 k inside ∙ c.2))
      (λ (k : p ≤ c.0). (c.0 + 1, omega arith, get_or-insert_above ms p new m c.0 k inside ∙ c.2))
      (cases_lt c.0 p)

  new_too : (m : Move) → Some new ≡ Some m → Contains (insert ms p new) m
  new_too m e = let n = length-insert ms p new inside in let f : new ≡ m = cc (e) in (p, omega arith, get_or-insert_at ms p new m inside ∙ f)

  pub with_one : (m : Move) → (Contains (insert ms p new) m ↔ (Contains ms m ⊎ (Some new ≡ Some m)))
  with_one m = (more m, λ r. ⊎_elim (old_too m) (new_too m) r)

  abbrev Goes : Move → Move → Type 0
  Goes a b = is_before (rank_of_move a) (rank_of_move b) ≡ true

  goes_too : (a b x y : Move) → x ≡ a → y ≡ b → Goes a b → Goes x y
  goes_too a b x y e f g = subst (λ (z : Move). Goes z y) (sym e) (subst (λ (z : Move). Goes a z) (sym f) g)

  goes_before : (fresh : Contains ms new → ⊥) (k : ℕ) (d : Move) → p ≤ k → k < length ms → Goes new (get_or ms k d)
  goes_before fresh k d l m =
      one_before (rank_of_move new) (rank_of_move (get_or ms k d))
      (λ e. fresh (k, m, get_or_default ms k new d m ∙ sym (same_rank new (get_or ms k d) e)))
      (split.1 k d l m)

  pub ranked_with : (Contains ms new → ⊥) → AreRanked (insert ms p new)
  ranked_with fresh i j d l m =
      let n = length-insert ms p new inside in
      let at = λ (q : ℕ). get_or (insert ms p new) q d in
      ⊎_elim
      (λ (b : j < p).
      goes_too (get_or ms i d) (get_or ms j d) (at i) (at j) (get_or-insert_below ms p new d i (omega arith) inside) (get_or-insert_below ms p new d j b inside) (h i j d l (omega arith)))
      (λ (b : p ≤ j).
      ⊎_elim
      (λ (behind : p < j).
      let e_j : j - 1 + 1 ≡ j = omega arith in
      let f = ap at (sym e_j) ∙ get_or-insert_above ms p new d (j - 1) (omega arith) inside in
      ⊎_elim
      (λ (a : i < p). goes_too (get_or ms i d) (get_or ms (j - 1) d) (at i) (at j) (get_or-insert_below ms p new d i a inside) f (h i (j - 1) d (omega arith) (omega arith)))
      (λ (a : p ≤ i).
      ⊎_elim
      (λ (after : p < i).
      let e_i : i - 1 + 1 ≡ i = omega arith in
      goes_too (get_or ms (i - 1) d) (get_or ms (j - 1) d) (at i) (at j) (ap at (sym e_i) ∙ get_or-insert_above ms p new d (i - 1) (omega arith) inside) f (h (i - 1) (j - 1) d (omega arith) (omega arith)))
      (λ (upto : i ≤ p).
      let e_i : i ≡ p = omega arith in
      goes_too new (get_or ms (j - 1) d) (at i) (at j) (ap at e_i ∙ get_or-insert_at ms p new d inside) f (goes_before fresh (j - 1) d (omega arith) (omega arith)))
      (cases_lt p i))
      (cases_lt i p))
      (λ (upto : j ≤ p).
      let e_p : j ≡ p = omega arith in
      goes_too (get_or ms i d) new (at i) (at j) (get_or-insert_below ms p new d i (omega arith) inside) (ap at e_p ∙ get_or-insert_at ms p new d inside) (split.0 i d (omega arith) (omega arith)))
      (cases_lt p j))
      (cases_lt j p)

-- The first from a worker

key_before : (after : Option TimedBin) (t b v : ℕ) → IsAfter after t b → IsBefore (key_after after) (t ∷ b ∷ v ∷ [])
key_before None t b v h = tt
key_before (Some last) t b v h =
    ⊎_elim
    (λ (l : last.time < t). inl l)
    (λ (l : (last.time ≡ t) × (last.bin < b)). inr (l.0, ⊎_elim (λ (m : suc last.bin < b). inl m) (λ (m : b ≤ suc last.bin). inr (let n = l.1 in omega arith, tt)) (cases_lt (suc last.bin) b)))
    h

after_from : (after : Option TimedBin) (t b v : ℕ) → IsBefore (key_after after) (t ∷ b ∷ v ∷ []) → IsAfter after t b
after_from None t b v h = tt
after_from (Some last) t b v h =
    ⊎_elim
    (λ (l : last.time < t). inl l)
    (λ (l : (last.time ≡ t) × IsBefore (suc last.bin ∷ []) (b ∷ v ∷ [])).
    inr (l.0, ⊎_elim (λ (m : suc last.bin < b). let n : last.bin < b = omega arith in n) (λ (m : (suc last.bin ≡ b) × IsBefore [] (v ∷ [])). let n = m.0 in let o : last.bin < b = omega arith in o) l.1))
    h

-- what stands between two of one stage and worker is of them
between : (s w x y : ℕ) (ks ts xs : List ℕ) → IsBefore (s ∷ w ∷ ks) (x ∷ y ∷ ts) → IsBefore (x ∷ y ∷ ts) (s ∷ w ∷ xs) → (x ≡ s) × (y ≡ w)
between s w x y ks ts xs h g =
    ⊎_elim
    (λ (l : s < x). ⊎_elim (λ (m : x < s). absurd (omega arith)) (λ (m : (x ≡ s) × IsBefore (y ∷ ts) (w ∷ xs)). let e = m.0 in absurd (omega arith)) g)
    (λ (l : (s ≡ x) × IsBefore (w ∷ ks) (y ∷ ts)).
    ⊎_elim
    (λ (m : x < s). let e = l.0 in absurd (omega arith))
    (λ (m : (x ≡ s) × IsBefore (y ∷ ts) (w ∷ xs)).
    ⊎_elim
    (λ (a : w < y). ⊎_elim (λ (b : y < w). absurd (omega arith)) (λ (b : (y ≡ w) × IsBefore ts xs). (m.0, b.0)) m.1)
    (λ (a : (w ≡ y) × IsBefore ks ts). (m.0, sym a.0))
    l.1)
    g)
    h

module _ (ms : List Move) (h : AreRanked ms) (stage worker : ℕ) (after : Option TimedBin) (p : ℕ) (inside : p ≤ length ms) (split : IsPartitionPoint (λ m. is_before (key_of stage worker after) (rank_of_move m) ≡ false) (λ m. is_before (key_of stage worker after) (rank_of_move m) ≡ true) ms p) where
  key_first : (x : Move) → IsFrom ms stage worker after x → is_before (key_of stage worker after) (rank_of_move x) ≡ true
  key_first x g = is_before-from (key_of stage worker after) (rank_of_move x) (inr (sym g.of_stage, inr (sym g.of_worker, key_before after x.time x.bin x.to g.later)))

  -- one that comes after the place stands there or later
  no_earlier : (x : Move) (g : IsFrom ms stage worker after x) → p ≤ g.there.0
  no_earlier x g =
      let key = key_of stage worker after in
      ⊎_elim
      (λ (l : g.there.0 < p). absurd (both_ways (is_before key (rank_of_move x)) (subst (λ (y : Move). is_before key (rank_of_move y) ≡ false) g.there.2 (split.0 g.there.0 x (omega arith) l)) (key_first x g)))
      (λ (l : p ≤ g.there.0). l)
      (cases_lt g.there.0 p)

  -- and so it is the one that stands there, or comes after that
  there_or_later : (x : Move) (g : IsFrom ms stage worker after x) (d : Move) → (p < length ms) × ((get_or ms p d ≡ x) ⊎ (is_before (rank_of_move (get_or ms p d)) (rank_of_move x) ≡ true))
  there_or_later x g d =
      let l = no_earlier x g in
      let k = g.there.0 in
      let m = g.there.1 in
      let here : get_or ms k d ≡ x = get_or_default ms k d x m ∙ g.there.2 in (
        omega arith,
        ⊎_elim
            (λ (n : p < k). inr (subst (λ (y : Move). is_before (rank_of_move (get_or ms p d)) (rank_of_move y) ≡ true) here (h p k d n m)))
            (λ (n : k ≤ p). let e : p ≡ k = omega arith in inl (ap (λ (q : ℕ). get_or ms q d) e ∙ here))
            (cases_lt p k),
      )

  pub none_from : (d : Move) → (p < length ms → (get_or ms p d).stage ≡ stage → (get_or ms p d).from ≡ worker → ⊥) → NoneIsFrom ms stage worker after
  none_from d other x g =
      let r = there_or_later x g d in
      let y = get_or ms p d in
      let key = before_is (key_of stage worker after) (rank_of_move y) (split.1 p d (omega arith) r.0) in
      ⊎_elim
      (λ (e : y ≡ x). other r.0 (ap (λ (z : Move). z.stage) e ∙ g.of_stage) (ap (λ (z : Move). z.from) e ∙ g.of_worker))
      (λ (e : is_before (rank_of_move y) (rank_of_move x) ≡ true).
      let x_is = rank_from x g in
      let b = between stage worker y.stage y.from (key_after after) (y.time ∷ y.bin ∷ y.to ∷ []) (x.time ∷ x.bin ∷ x.to ∷ []) key (subst (λ (r : List ℕ). IsBefore (rank_of_move y) r) x_is (before_is (rank_of_move y) (rank_of_move x) e)) in
      other r.0 b.0 b.1)
      r.1
    where
      rank_from : (x : Move) → IsFrom ms stage worker after x → rank_of_move x ≡ stage ∷ worker ∷ x.time ∷ x.bin ∷ x.to ∷ []
      rank_from x g = rw (g.of_stage, g.of_worker) refl

  module _ (d : Move) (l : p < length ms) (of_stage : (get_or ms p d).stage ≡ stage) (of_worker : (get_or ms p d).from ≡ worker) where
    abbrev this : Move
    this = get_or ms p d

    it_is : IsFrom ms stage worker after this
    it_is = record {
      there = Contains-get_or ms p d l;
      of_stage = of_stage;
      of_worker = of_worker;
      later =
          let key = before_is (key_of stage worker after) (rank_of_move this) (split.1 p d (omega arith) l) in
          after_from after this.time this.bin this.to
          (⊎_elim
          (λ (m : stage < this.stage). absurd (omega arith))
          (λ (m : (stage ≡ this.stage) × IsBefore (worker ∷ key_after after) (this.from ∷ this.time ∷ this.bin ∷ this.to ∷ [])).
          ⊎_elim (λ (n : worker < this.from). absurd (omega arith)) (λ (n : (worker ≡ this.from) × IsBefore (key_after after) (this.time ∷ this.bin ∷ this.to ∷ [])). n.1) m.1)
          key);
    }

    none_earlier : (x : Move) → IsFrom ms stage worker after x → IsAfter (Some (bin_at x.time x.bin)) this.time this.bin → ⊥
    none_earlier x g a = ⊎_elim same_one later_one (there_or_later x g d).1
      where
        same_one : this ≡ x → ⊥
        same_one e =
            let t = ap (λ (z : Move). z.time) e in
            let b = ap (λ (z : Move). z.bin) e in
            ⊎_elim (λ (m : x.time < this.time). absurd (omega arith)) (λ (m : (x.time ≡ this.time) × (x.bin < this.bin)). let n = m.1 in absurd (omega arith)) a

        goes_back : IsBefore (rank_of_move x) (rank_of_move this)
        goes_back =
            inr (
              g.of_stage ∙ sym of_stage,
              inr (
                g.of_worker ∙ sym of_worker,
                ⊎_elim (λ (m : x.time < this.time). inl m) (λ (m : (x.time ≡ this.time) × (x.bin < this.bin)). inr (m.0, inl m.1)) a,
              ),
            )

        later_one : is_before (rank_of_move this) (rank_of_move x) ≡ true → ⊥
        later_one e = both_ways (is_before (rank_of_move x) (rank_of_move this)) (not_back (rank_of_move this) (rank_of_move x) e) (is_before-from (rank_of_move x) (rank_of_move this) goes_back)

    pub first_is : IsFirstFrom ms stage worker after this
    first_is = (it_is, none_earlier)

-- One out, then one in

pub fresh_then : (old new : Option Move) (P Q : Move → Type 0) → IfSome new (λ m. P m → old ≡ Some m) → ((m : Move) → (Q m ↔ (P m × (old ≢ Some m)))) → IfSome new (λ m. Q m → ⊥)
fresh_then old None P Q h k = tt
fresh_then old (Some n) P Q h k = λ q. let r = (k n).0 q in r.1 (h r.0)

pub one_for_one : (old new : Option Move) (P Q R : Move → Type 0) → ((m : Move) → (Q m ↔ (P m × (old ≢ Some m)))) → ((m : Move) → (R m ↔ (Q m ⊎ (new ≡ Some m)))) → (m : Move) → (R m ↔ ((P m × (old ≢ Some m)) ⊎ (new ≡ Some m)))
one_for_one old new P Q R h k m = (
  λ r. ⊎_elim (λ (q : Q m). inl ((h m).0 q)) (λ (e : new ≡ Some m). inr e) ((k m).0 r),
  λ r. (k m).1 (⊎_elim (λ (p : P m × (old ≢ Some m)). inl ((h m).1 p)) (λ (e : new ≡ Some m). inr e) r),
)
