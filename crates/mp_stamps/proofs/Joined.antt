-- What pieces hold, and the row that they make up.
use Rattle.std.proofs.Common.{◌≡◌, ◌<◌, ◌≤◌, ◌+◌, ◌*◌, ◌/◌, ◌%◌, ◌-◌, ◌^◌, ◌++◌, ℕ, zero, suc, List, [], ◌∷◌, ℤ, pos, ◌+ℤ◌, true, false, length, get_or, set, replicate, inl, inr, ⊎_elim, refl, sym, ap, ◌∙◌, arith, subst}
use Rattle.std.proofs.lemmas.Bool.{cases_eq, cases_lt}
use Rattle.std.proofs.lemmas.List.{get_or_default, get_or-append-add, get_or-replicate, get_or_append_left, get_or_past, get_or-set_same, get_or-set_other, length-append, length-replicate, length-set, replicate-append-replicate, set-append_left, set-append_right}
use Rattle.mp_stamps.specs.Rows.{AreWhole, IsFirst, IsFirstOpen, IsPieceOf, IsRow, IsSpan, IsSpanBut, IsZeroAt, IsZeroPiece, GivesBack, PieceState, counts_held, joined, piece_at}
use Rattle.mp_stamps.proofs.Firsts.{span_changed, zeros_span}

-- What a piece holds

-- a piece has 1024 counts
pub whole : (held : List ℤ) → IsPieceOf held → length (counts_held held) ≡ 1024
whole [] is = length-replicate 1024 (pos 0)
whole (n ∷ ns) (inl e) = absurd (omega (arith, e))
whole (n ∷ ns) (inr e) = e

-- the count past those that are held is 0
pub none_there : (held : List ℤ) (i : ℕ) → IsPieceOf held → i < 1024 → length held ≤ i → get_or (counts_held held) i (pos 0) ≡ pos 0
none_there [] i is l h = get_or-replicate 1024 i (pos 0) (pos 0) l
none_there (n ∷ ns) i (inl e) l h = absurd (omega (arith, e))
none_there (n ∷ ns) i (inr e) l h = absurd (omega (arith, e, l, h))

-- a filled piece holds its counts
pub full : (held : List ℤ) → length held ≡ 1024 → counts_held held ≡ held
full [] e = absurd (omega (arith, e))
full (n ∷ ns) e = refl

-- where it holds some, it holds all
pub some_held : (held : List ℤ) → IsPieceOf held → 0 < length held → held ≡ counts_held held
some_held [] is l = absurd (omega (arith, l))
some_held (n ∷ ns) is l = refl

-- and where it holds none, zeros stand for them
pub none_held : (held : List ℤ) → length held ≡ 0 → replicate 1024 (pos 0) ≡ counts_held held
none_held [] e = refl
none_held (n ∷ ns) e = absurd (omega (arith, e))

-- counts that are all 0
pub all_zero : (n : ℕ) (xs : List ℤ) → length xs ≡ n → ((i : ℕ) → get_or xs i (pos 0) ≡ pos 0) → xs ≡ replicate n (pos 0)
all_zero zero [] e h = refl
all_zero zero (x ∷ xs) e h = absurd (omega (arith, e))
all_zero (suc n) [] e h = absurd (omega (arith, e))
all_zero (suc n) (x ∷ xs) e h =
    let first : x ≡ pos 0 = h 0 in
    let rest = all_zero n xs (omega (arith, e)) (λ i. h (suc i)) in
    rw (first, rest) refl

-- Pieces that are joined

rest_whole : (p : PieceState) (ps : List PieceState) → AreWhole (p ∷ ps) → AreWhole ps
rest_whole p ps w c m = w (suc c) (omega (arith, m))

pub joined_length : (ps : List PieceState) → AreWhole ps → length (joined ps) ≡ 1024 * length ps
joined_length [] w = refl
joined_length (p ∷ ps) w =
    let long : length p.counts ≡ 1024 = w 0 (omega arith) in
    let rest = joined_length ps (rest_whole p ps w) in
    omega (arith, long, rest, length-append p.counts (joined ps))

-- the count at an index of a row stands in its piece
pub joined_at : (ps : List PieceState) (b k : ℕ) → AreWhole ps → b < length ps → k < 1024 → get_or (joined ps) (1024 * b + k) (pos 0) ≡ get_or (piece_at ps b).counts k (pos 0)
joined_at [] b k w l h = absurd (omega (arith, l))
joined_at (p ∷ ps) zero k w l h =
    let long : length p.counts ≡ 1024 = w 0 (omega arith) in
    let at : 1024 * 0 + k ≡ k = omega arith in
    ap (λ (i : ℕ). get_or (p.counts ++ joined ps) i (pos 0)) at ∙ get_or_append_left p.counts (joined ps) (pos 0) k (omega (arith, long, h))
joined_at (p ∷ ps) (suc b) k w l h =
    let long : length p.counts ≡ 1024 = w 0 (omega arith) in
    let at : 1024 * suc b + k ≡ length p.counts + (1024 * b + k) = omega (arith, long) in
    ap (λ (i : ℕ). get_or (p.counts ++ joined ps) i (pos 0)) at
    ∙ get_or-append-add p.counts (joined ps) (1024 * b + k) (pos 0)
    ∙ joined_at ps b k (rest_whole p ps w) (omega (arith, l)) h

-- and a change of it changes its piece
pub joined_set : (ps : List PieceState) (b k : ℕ) (v : ℤ) (p : PieceState) → AreWhole ps → b < length ps → k < 1024 → p.counts ≡ set (piece_at ps b).counts k v → joined (set ps b p) ≡ set (joined ps) (1024 * b + k) v
joined_set [] b k v p w l h is = absurd (omega (arith, l))
joined_set (q ∷ ps) zero k v p w l h is =
    let long : length q.counts ≡ 1024 = w 0 (omega arith) in
    let at : 1024 * 0 + k ≡ k = omega arith in
    ap (λ (xs : List ℤ). xs ++ joined ps) is ∙ sym (set-append_left q.counts (joined ps) k v (omega (arith, long, h)))
    ∙ ap (λ (i : ℕ). set (q.counts ++ joined ps) i v) (sym at)
joined_set (q ∷ ps) (suc b) k v p w l h is =
    let long : length q.counts ≡ 1024 = w 0 (omega arith) in
    let back : (1024 * suc b + k) - 1024 ≡ 1024 * b + k = omega arith in
    ap (λ (xs : List ℤ). q.counts ++ xs) (joined_set ps b k v p (rest_whole q ps w) (omega (arith, l)) h is)
    ∙ ap (λ (i : ℕ). q.counts ++ set (joined ps) i v) (sym back)
    ∙ sym (set-append_right q.counts (joined ps) 1024 (1024 * suc b + k) v long (omega arith))

-- equal counts of pieces make up equal rows
pub joined_same : (ps qs : List PieceState) → length qs ≡ length ps → ((b : ℕ) → (piece_at qs b).counts ≡ (piece_at ps b).counts) → joined qs ≡ joined ps
joined_same [] [] e h = refl
joined_same [] (q ∷ qs) e h = absurd (omega (arith, e))
joined_same (p ∷ ps) [] e h = absurd (omega (arith, e))
joined_same (p ∷ ps) (q ∷ qs) e h =
    let first : q.counts ≡ p.counts = h 0 in
    rw first (ap (λ (xs : List ℤ). p.counts ++ xs) (joined_same ps qs (omega (arith, e)) (λ b. h (suc b))))

fresh : PieceState
fresh = record { kept = true; counts = replicate 1024 (pos 0) }

-- zeros
pub joined_fresh : (n : ℕ) → joined (replicate n (record { kept = true; counts = replicate 1024 (pos 0) })) ≡ replicate (1024 * n) (pos 0)
joined_fresh zero = refl
joined_fresh (suc n) =
    let at : 1024 + 1024 * n ≡ 1024 * suc n = omega arith in
    ap (λ (xs : List ℤ). replicate 1024 (pos 0) ++ xs) (joined_fresh n)
    ∙ replicate-append-replicate 1024 (1024 * n) (pos 0)
    ∙ ap (λ (k : ℕ). replicate k (pos 0)) at

pub fresh_row : (n : ℕ) → 1024 * n ≤ 2 ^ 63 → IsRow (replicate n (record { kept = true; counts = replicate 1024 (pos 0) })) 0 (1024 * n) 0
unfolding fresh
fresh_row n few = record {
  whole = λ b l. subst (λ (p : PieceState). length p.counts ≡ 1024) (sym (get_or-replicate n b fresh (record { kept = true; counts = [] }) (omega (arith, l, long)))) (length-replicate 1024 (pos 0));
  few = omega (arith, few, long);
  gone = λ b l. absurd (omega (arith, l));
  kept = λ b m l. ap (λ (p : PieceState). p.kept) (get_or-replicate n b fresh (record { kept = true; counts = [] }) (omega (arith, l, long)));
  span = subst (λ (xs : List ℤ). IsSpan xs (1024 * n) 0) (sym (joined_fresh n)) (zeros_span (1024 * n));
}
  where
    long : length (replicate n fresh) ≡ n
    long = length-replicate n fresh

-- The first count other than 0 of a row

module _ (ps : List PieceState) (w : AreWhole ps) where
  split : (k : ℕ) → 1024 * (k / 1024) + k % 1024 ≡ k
  split k = omega arith

  small : (k : ℕ) → k % 1024 < 1024
  small k = omega arith

  -- the count at an index, by its piece
  pub count_at_split : (k : ℕ) → k < 1024 * length ps → get_or (joined ps) k (pos 0) ≡ get_or (piece_at ps (k / 1024)).counts (k % 1024) (pos 0)
  count_at_split k l = ap (λ (i : ℕ). get_or (joined ps) i (pos 0)) (sym (split k)) ∙ joined_at ps (k / 1024) (k % 1024) w (omega (arith, l)) (small k)

  -- a piece whose first such count lies past its end has none
  pub zero_past : (b first : ℕ) → b < length ps → IsFirstOpen (piece_at ps b).counts first → 1024 ≤ first → IsZeroPiece ps b
  zero_past b first l is past k =
      ⊎_elim
      (λ (m : k < 1024). is.quiet k (omega (arith, m, past)))
      (λ (m : 1024 ≤ k). get_or_past (piece_at ps b).counts k (pos 0) (omega (arith, m, w b l)))
      (cases_lt k 1024)

  pub open_inside : (b first : ℕ) → b < length ps → IsFirstOpen (piece_at ps b).counts first → first < 1024 → IsZeroPiece ps b → ⊥
  open_inside b first l is inside z = is.open_there (omega (arith, inside, w b l)) (z first)

  module _ (f : ℕ) (is : IsFirst (IsZeroPiece ps) (length ps) f) where
    pub first_in_piece : (first at : ℕ) → f < length ps → IsFirstOpen (piece_at ps f).counts first → at ≡ 1024 * f + first → IsFirstOpen (joined ps) at
    first_in_piece first at l own e =
        let here : length (piece_at ps f).counts ≡ 1024 = w f l in
        let inside : first < 1024 = ⊎_elim (λ (m : first < 1024). m) (λ (m : 1024 ≤ first). absurd (is.open_there l (zero_past f first l own m))) (cases_lt first 1024) in
        record {
          within = omega (arith, joined_length ps w, l, inside, e);
          quiet = λ k m.
              let there = count_at_split k (omega (arith, m, l, inside, e)) in
              ⊎_elim
              (λ (n : k / 1024 < f). there ∙ is.quiet (k / 1024) n (k % 1024))
              (λ (n : f ≤ k / 1024).
              let same : k / 1024 ≡ f = omega (arith, n, m, inside, e) in
              there ∙ ap (λ (b : ℕ). get_or (piece_at ps b).counts (k % 1024) (pos 0)) same ∙ own.quiet (k % 1024) (omega (arith, same, m, e)))
              (cases_lt (k / 1024) f);
          open_there = λ m z.
              own.open_there (omega (arith, here, inside))
              (sym (joined_at ps f first w l inside) ∙ ap (λ (i : ℕ). get_or (joined ps) i (pos 0)) (sym e) ∙ z);
        }

  -- the first piece with a count other than 0 has the first of them
  pub span_in_piece : (b first end : ℕ) → b < length ps → ((k : ℕ) → k < b → IsZeroPiece ps k) → IsFirstOpen (piece_at ps b).counts first → first < 1024 → end ≤ 1024 * length ps → ((k : ℕ) → end ≤ k → IsZeroAt (joined ps) k) → IsSpan (joined ps) (1024 * b + first) end
  span_in_piece b first end inside before own here within rest =
      let is : IsFirst (IsZeroPiece ps) (length ps) b = record {
        within = omega (arith, inside);
        quiet = before;
        open_there = λ l. open_inside b first l own here;
      } in
      record {
        first_open = first_in_piece b is first (1024 * b + first) inside own refl;
        within = omega (arith, within, joined_length ps w);
        rest = rest;
      }

  -- where each piece holds zeros, each count is 0
  pub none_in_pieces : ((b : ℕ) → b < length ps → IsZeroPiece ps b) → (k : ℕ) → IsZeroAt (joined ps) k
  none_in_pieces none k =
      ⊎_elim
      (λ (l : k < 1024 * length ps). count_at_split k l ∙ none (k / 1024) (omega (arith, l)) (k % 1024))
      (λ (l : 1024 * length ps ≤ k). get_or_past (joined ps) k (pos 0) (omega (arith, l, joined_length ps w)))
      (cases_lt k (1024 * length ps))

  -- where the counts of a piece are 0, it holds zeros
  pub zero_piece : (b : ℕ) → b < length ps → ((k : ℕ) → k < 1024 → IsZeroAt (joined ps) (1024 * b + k)) → IsZeroPiece ps b
  zero_piece b l none k =
      ⊎_elim
      (λ (m : k < 1024). sym (joined_at ps b k w l m) ∙ none k m)
      (λ (m : 1024 ≤ k). get_or_past (piece_at ps b).counts k (pos 0) (omega (arith, m, w b l)))
      (cases_lt k 1024)

-- A row of which the count at an index changes

pub added_there : (ps : List PieceState) (i : ℕ) (by : ℤ) (q p : PieceState) → AreWhole ps → i < 1024 * length ps → q ≡ get_or ps (i / 1024) q → p.counts ≡ set q.counts (i % 1024) (get_or q.counts (i % 1024) (pos 0) +ℤ by)
    → p.counts ≡ set (piece_at ps (i / 1024)).counts (i % 1024) (get_or (joined ps) i (pos 0) +ℤ by)
added_there ps i by q p w l here is =
    let piece : q ≡ piece_at ps (i / 1024) = here ∙ get_or_default ps (i / 1024) q (record { kept = true; counts = [] }) (omega (arith, l)) in
    is
    ∙ ap (λ (r : PieceState). set r.counts (i % 1024) (get_or r.counts (i % 1024) (pos 0) +ℤ by)) piece
    ∙ ap (λ (n : ℤ). set (piece_at ps (i / 1024)).counts (i % 1024) (n +ℤ by)) (sym (count_at_split ps w i l))

module _ (ps : List PieceState) (i : ℕ) (v : ℤ) (p : PieceState) (w : AreWhole ps) (l : i < 1024 * length ps) (is : p.counts ≡ set (piece_at ps (i / 1024)).counts (i % 1024) v) where
  place_inside : i / 1024 < length ps
  place_inside = omega (arith, l)

  index_small : i % 1024 < 1024
  index_small = omega arith

  pub joined_then : joined (set ps (i / 1024) p) ≡ set (joined ps) i v
  joined_then =
      let there : 1024 * (i / 1024) + i % 1024 ≡ i = omega arith in
      joined_set ps (i / 1024) (i % 1024) v p w place_inside index_small is ∙ ap (λ (k : ℕ). set (joined ps) k v) there

  pub span_then : (first end : ℕ) → IsSpan (joined ps) first end → IsSpanBut (joined (set ps (i / 1024) p)) first end i
  span_then first end h = rw joined_then (span_changed (joined ps) first end i v h)

  pub count_then : get_or (joined (set ps (i / 1024) p)) i (pos 0) ≡ get_or p.counts (i % 1024) (pos 0)
  count_then =
      ap (λ (xs : List ℤ). get_or xs i (pos 0)) joined_then
      ∙ get_or-set_same (joined ps) i v (pos 0) (omega (arith, l, joined_length ps w))
      ∙ sym (ap (λ (xs : List ℤ). get_or xs (i % 1024) (pos 0)) is ∙ get_or-set_same (piece_at ps (i / 1024)).counts (i % 1024) v (pos 0) (omega (arith, index_small, w (i / 1024) place_inside)))

-- A row with another piece

module _ (ps : List PieceState) (given first end b : ℕ) (p : PieceState) (h : IsRow ps given first end) (l : b < length ps) (kept : p.kept ≡ true) (long : length p.counts ≡ 1024) (past : given ≤ b) where
  other : PieceState
  other = record { kept = true; counts = [] }

  pub set_whole : AreWhole (set ps b p)
  set_whole c m =
      ⊎_elim
      (λ (e : c ≡ b). subst (λ (q : PieceState). length q.counts ≡ 1024) (sym (ap (λ (i : ℕ). piece_at (set ps b p) i) e ∙ get_or-set_same ps b p (record { kept = true; counts = [] }) l)) long)
      (λ (n : c ≡ b → ⊥). subst (λ (q : PieceState). length q.counts ≡ 1024) (sym (get_or-set_other ps b c p (record { kept = true; counts = [] }) n)) (h.whole c (omega (arith, m, length-set ps b p))))
      (cases_eq c b)

  pub set_row : (least last : ℕ) → IsSpan (joined (set ps b p)) least last → IsRow (set ps b p) given least last
  set_row least last is = record {
    whole = set_whole;
    few = omega (arith, h.few, length-set ps b p);
    gone = λ c m. subst (λ (q : PieceState). q.kept ≡ false) (sym (get_or-set_other ps b c p (record { kept = true; counts = [] }) (λ e. absurd (omega (arith, m, past, e))))) (h.gone c m);
    kept = λ c m n.
        ⊎_elim
        (λ (e : c ≡ b). ap (λ (q : PieceState). q.kept) (ap (λ (i : ℕ). piece_at (set ps b p) i) e ∙ get_or-set_same ps b p (record { kept = true; counts = [] }) l) ∙ kept)
        (λ (x : c ≡ b → ⊥). ap (λ (q : PieceState). q.kept) (get_or-set_other ps b c p (record { kept = true; counts = [] }) x) ∙ h.kept c m (omega (arith, n, length-set ps b p)))
        (cases_eq c b);
    span = is;
  }

-- A row of which pieces are given back

module _ (ps qs : List PieceState) (from to : ℕ) (back : GivesBack from to ps qs) where
  pub back_row : (first end : ℕ) → from ≤ to → to ≤ length ps → IsRow ps from first end → IsRow qs to first end
  back_row first end l m h = record {
    whole = λ b n. ap (λ (xs : List ℤ). length xs) (back.counts b) ∙ h.whole b (omega (arith, n, back.long));
    few = omega (arith, h.few, back.long);
    gone = λ b n. ⊎_elim (λ (x : b < from). ap (λ (q : PieceState). q.kept) (back.others b (inl x)) ∙ h.gone b x) (λ (x : from ≤ b). back.gone b x n) (cases_lt b from);
    kept = λ b n x. ap (λ (q : PieceState). q.kept) (back.others b (inr n)) ∙ h.kept b (omega (arith, n, l)) (omega (arith, x, back.long));
    span = subst (λ (xs : List ℤ). IsSpan xs first end) (sym (joined_same ps qs back.long back.counts)) h.span;
  }

-- one more is given back
pub one_more_back : (from n : ℕ) (ps qs : List PieceState) (p : PieceState) → GivesBack from n ps qs → from ≤ n → n < length ps → p ≡ record { kept = false; counts = (piece_at qs n).counts } → GivesBack from (n + 1) ps (set qs n p)
one_more_back from n ps qs p back m l is = record {
  long = length-set qs n p ∙ back.long;
  counts = λ b.
      ⊎_elim
      (λ (e : b ≡ n). ap (λ (q : PieceState). q.counts) (here b e ∙ is) ∙ ap (λ (c : ℕ). (piece_at qs c).counts) (sym e) ∙ back.counts b)
      (λ (x : b ≡ n → ⊥). ap (λ (q : PieceState). q.counts) (there b x) ∙ back.counts b)
      (cases_eq b n);
  gone = λ b x y.
      ⊎_elim
      (λ (e : b ≡ n). ap (λ (q : PieceState). q.kept) (here b e ∙ is))
      (λ (z : b ≡ n → ⊥). ap (λ (q : PieceState). q.kept) (there b z) ∙ back.gone b x (omega (arith, y, z)))
      (cases_eq b n);
  others = λ b x.
      there b (λ e. ⊎_elim (λ (y : b < from). absurd (omega (arith, y, e, m))) (λ (y : n + 1 ≤ b). absurd (omega (arith, y, e))) x)
      ∙ back.others b (⊎_elim (λ (y : b < from). inl y) (λ (y : n + 1 ≤ b). inr (omega (arith, y))) x);
}
  where
    here : (b : ℕ) → b ≡ n → piece_at (set qs n p) b ≡ p
    here b e = ap (λ (i : ℕ). piece_at (set qs n p) i) e ∙ get_or-set_same qs n p (record { kept = true; counts = [] }) (omega (arith, l, back.long))

    there : (b : ℕ) → (b ≡ n → ⊥) → piece_at (set qs n p) b ≡ piece_at qs b
    there b x = get_or-set_other qs n b p (record { kept = true; counts = [] }) x

-- the pieces of counts that are 0 hold zeros
pub zero_pieces : (ps : List PieceState) (count b : ℕ) → AreWhole ps → count ≤ length ps → ((k : ℕ) → k < 1024 * count → get_or (joined ps) k (pos 0) ≡ pos 0) → b < count → IsZeroPiece ps b
zero_pieces ps count b w few none l = zero_piece ps w b (omega (arith, few, l)) (λ k m. none (1024 * b + k) (omega (arith, l, m)))
