-- Several records that are sent or taken: as many less where they were, as many more where they are.
use Rattle.std.proofs.Common.{◌≡◌, ◌≢◌, ℕ, zero, suc, ◌+◌, ◌<◌, ◌&&◌, ◌==◌, Bool, true, false, not, cond, List, [], ◌∷◌, ◌++◌, length, append_assoc, ℤ, pos, negsuc, ◌+ℤ◌, ◌-ℤ◌, refl, sym, ap, ◌∙◌, subst, subst₂, ⊎_elim, arith}
use Rattle.std.specs.Prelude.{neg_ℤ, All, AllPairs}
use Rattle.std.proofs.lemmas.Bool.{both_ways, cases_Bool, eqb-true, false≢true, false_from_ne_true}
use Rattle.std.proofs.lemmas.Int.{ints}
use Rattle.mp_names.specs.declared.locations.Loc.{Loc}
use Rattle.mp_names.specs.declared.locations.Loc.TheVariants.{Route, Mail, Host}
use Rattle.mp_names.specs.declared.names.Name.{Name}
use Rattle.mp_names.specs.declared.names.Name.TheVariants.{Ctrl, Rec, Packet, Row, Group, Settled, Written}
use Rattle.mp_names.specs.declared.names.Tag.{Tag}
use Rattle.mp_names.specs.declared.pointstamps.Change.{Change}
use Rattle.mp_names.specs.Frontiers.{contribution}
use Rattle.mp_names.specs.Keeping.{IsHeld}
use Rattle.mp_names.specs.Logs.{Log, LogIsLegal, is_pending, with_sent, with_took}
use Rattle.mp_names.specs.Names.{Distinct, In, has, is_rec, same_name}
use Rattle.mp_names.specs.Outlines.{IsOwedTo, Outline, OutlineIsSound, time_of}
use Rattle.mp_names.proofs.Lists.{In_here, In_later, same_name-true}
use Rattle.mp_stamps.specs.Counts.{same_loc}
use Rattle.mp_rows.specs.declared.lists.LogList.TheVariants.{Sent, Took}
use Rattle.mp_rows.specs.Entries.{AreChanges, change_at, sum_at}
use Rattle.mp_rows.specs.Lists.{with_names}
use Rattle.mp_rows.proofs.Several.{with_none}
use Rattle.mp_rows_laws.specs.Changes.{group_of, new_groups, record_sent_at, record_taken_at, records_sent_at, records_taken_at, some_more}
use Rattle.mp_rows_laws.specs.Laws.{SentRecordsAreCounted, TakenRecordsAreCounted}
use Rattle.mp_rows_laws.proofs.Entries.{IsApart, IsNotZero, one_not_zero, one_once, sum_unless, two_not_zero, two_once}
use Rattle.mp_rows_laws.proofs.Parts.{given_same}
use Rattle.mp_rows_laws.proofs.Pushes.{has_other}
use Rattle.mp_rows_laws.proofs.Sent.{record_sent}
use Rattle.mp_rows_laws.proofs.Took.{taken_unapplied, unapplied}

-- numbers

added : (a b c d e f : ℤ) → a ≡ e -ℤ d → b ≡ f -ℤ e → c ≡ a +ℤ b → c ≡ f -ℤ d
added a b c d e f h k l = omega (arith, ints)

same_again : (x y : ℤ) → x ≡ y → pos 0 ≡ x -ℤ y
same_again x y e = omega (arith, ints)

one_less_more : (n : ℕ) → neg_ℤ (pos (suc n)) ≡ negsuc 0 +ℤ neg_ℤ (pos n)
one_less_more zero = refl
one_less_more (suc n) = omega (arith, ints)

none_sent : (b c : Bool) → cond b (neg_ℤ (pos 0)) (pos 0) +ℤ (cond c (pos 0) (pos 0) +ℤ pos 0) ≡ pos 0
none_sent true true = refl
none_sent true false = refl
none_sent false true = refl
none_sent false false = refl

more_sent : (b c : Bool) (n : ℕ) → cond b (neg_ℤ (pos (suc n))) (pos 0) +ℤ (cond c (pos (suc n)) (pos 0) +ℤ pos 0)
    ≡ (cond b (negsuc 0) (pos 0) +ℤ (cond c (pos 1) (pos 0) +ℤ pos 0)) +ℤ (cond b (neg_ℤ (pos n)) (pos 0) +ℤ (cond c (pos n) (pos 0) +ℤ pos 0))
more_sent true true n = let e = one_less_more n in omega (arith, ints)
more_sent true false n = let e = one_less_more n in omega (arith, ints)
more_sent false true n = omega (arith, ints)
more_sent false false n = refl

module _ (o : Outline) (w : ℕ) (ok : OutlineIsSound o) (j t : ℕ) where
  -- one record, whatever its name
  one_sent : (log : Log) (x : Name) → time_of o x ≡ t → IsHeld o w log (is_rec j) x → (loc : Loc) (u : ℕ) → sum_at (record_sent_at j t) loc u ≡ contribution o w (with_sent log x) loc u -ℤ contribution o w log loc u
  one_sent log (Rec i s k g) e h loc u =
      let same = eqb-true i j h.0 in
      subst₂ (λ (n m : ℕ). sum_at (record_sent_at n m) loc u ≡ contribution o w (with_sent log (Rec i s k g)) loc u -ℤ contribution o w log loc u) same e
      ((record_sent o w log ok i s k g (subst (λ (n : ℕ). IsHeld o w log (is_rec n) (Rec i s k g)) (sym same) h)).sums loc u)
  one_sent log (Ctrl i v) e h loc u = absurd (false≢true h.0)
  one_sent log (Packet i b s) e h loc u = absurd (false≢true h.0)
  one_sent log (Row s g) e h loc u = absurd (false≢true h.0)
  one_sent log (Group i s k) e h loc u = absurd (false≢true h.0)
  one_sent log (Settled i s) e h loc u = absurd (false≢true h.0)
  one_sent log (Written s) e h loc u = absurd (false≢true h.0)

  -- the others are still held
  still_held : (log : Log) (x y : Name) → same_name x y ≡ false → IsHeld o w log (is_rec j) y → IsHeld o w (with_sent log x) (is_rec j) y
  still_held log x y e h = (h.0, h.1, given_same o log (with_sent log x) w refl refl y ∙ h.2, has_other log.sent x y e ∙ h.3)

  apart : (x y : Name) (xs : List Name) → has xs x ≡ false → In y xs → same_name x y ≡ false
  apart x y xs n i = false_from_ne_true (same_name x y) (λ e. both_ways (has xs x) n (subst (λ (z : Name). In z xs) (sym (same_name-true x y e)) i))

  all_sent : (xs : List Name) (log : Log) → Distinct xs → ((x : Name) → In x xs → (time_of o x ≡ t) × IsHeld o w log (is_rec j) x)
      → (loc : Loc) (u : ℕ) → sum_at (records_sent_at j t (length xs)) loc u ≡ contribution o w (with_names Sent xs log) loc u -ℤ contribution o w log loc u
  all_sent [] log d h loc u =
      none_sent (same_loc (Route j) loc && t == u) (same_loc (Mail j) loc && t == u) ∙ same_again _ _ (ap (λ (l : Log). contribution o w l loc u) (with_none Sent log))
  all_sent (x ∷ xs) log d h loc u =
      let a = h x (In_here x xs) in
      let one = one_sent log x a.0 a.1 loc u in
      let others = all_sent xs (with_sent log x) d.1 (λ y i. let b = h y (In_later y x xs i) in (b.0, still_held log x y (apart x y xs d.0 i) b.1)) loc u in
      let whole = ap (λ (ys : List Name). contribution o w (record log { sent = ys }) loc u) (append_assoc log.sent (x ∷ []) xs) in
      added (sum_at (record_sent_at j t) loc u) (sum_at (records_sent_at j t (length xs)) loc u) (sum_at (records_sent_at j t (suc (length xs))) loc u) (contribution o w log loc u) (contribution o w (with_sent log x) loc u) (contribution o w (with_names Sent (x ∷ xs) log) loc u) one (others ∙ ap (λ (z : ℤ). z -ℤ contribution o w (with_sent log x) loc u) whole)
      (more_sent (same_loc (Route j) loc && t == u) (same_loc (Mail j) loc && t == u) (length xs))

not_none : (n : ℕ) → 0 < n → neg_ℤ (pos n) ≢ pos 0
not_none zero l e = absurd (omega arith)
not_none (suc n) l e = cc

not_zero : (n : ℕ) → 0 < n → pos n ≢ pos 0
not_zero zero l e = absurd (omega arith)
not_zero (suc n) l e = cc

pub records_sent : SentRecordsAreCounted
records_sent o w log ok j t xs some d h =
    let less = change_at (Route j) t (neg_ℤ (pos (length xs))) in
    let more = change_at (Mail j) t (pos (length xs)) in
    record {
      sums = all_sent o w ok j t xs log d h;
      once = two_once less more (λ e. cc);
      none_by_zero = two_not_zero less more (not_none (length xs) some) (not_zero (length xs) some);
    }

-- taken

more_than_none : (n : ℕ) → (suc n == 0) ≡ false
more_than_none n = false_from_ne_true (suc n == 0) (λ e. let z = eqb-true (suc n) 0 e in omega arith)

some_sum : (loc : Loc) (t n : ℕ) (at : Loc) (u : ℕ) → sum_at (some_more loc t n) at u ≡ cond (same_loc loc at && t == u) (pos n) (pos 0)
some_sum loc t zero at u = no (same_loc loc at && t == u)
  where
    no : (b : Bool) → pos 0 ≡ cond b (pos 0) (pos 0)
    no true = refl
    no false = refl
some_sum loc t (suc n) at u = rw (more_than_none n) (yes (same_loc loc at && t == u))
  where
    yes : (b : Bool) → cond b (pos (suc n)) (pos 0) +ℤ pos 0 ≡ cond b (pos (suc n)) (pos 0)
    yes true = omega (arith, ints)
    yes false = refl

none_taken : (b c : Bool) → cond b (neg_ℤ (pos 0)) (pos 0) +ℤ cond c (pos 0) (pos 0) ≡ pos 0
none_taken true true = refl
none_taken true false = refl
none_taken false true = refl
none_taken false false = refl

more_taken : (b c waited : Bool) (n m : ℕ) → cond b (neg_ℤ (pos (suc n))) (pos 0) +ℤ cond c (pos (cond waited 0 1 + m)) (pos 0)
    ≡ (cond b (negsuc 0) (pos 0) +ℤ cond (c && not waited) (pos 1) (pos 0)) +ℤ (cond b (neg_ℤ (pos n)) (pos 0) +ℤ cond c (pos m) (pos 0))
more_taken true true true n m = let e = one_less_more n in omega (arith, ints)
more_taken true true false n m = let e = one_less_more n in omega (arith, ints)
more_taken true false true n m = let e = one_less_more n in omega (arith, ints)
more_taken true false false n m = let e = one_less_more n in omega (arith, ints)
more_taken false true true n m = omega (arith, ints)
more_taken false true false n m = omega (arith, ints)
more_taken false false true n m = refl
more_taken false false false n m = refl

-- a record of the stage and time that has to be taken, and whose group isn't applied
abbrev MayCome : Outline → ℕ → Log → ℕ → ℕ → Name → Type 0
MayCome o w log j t x = (is_rec j x ≡ true) × (time_of o x ≡ t) × IsOwedTo o w x × (has log.applied (group_of x) ≡ false)

module _ (o : Outline) (w : ℕ) (ok : OutlineIsSound o) (j t : ℕ) where
  one_taken : (log : Log) (x : Name) → MayCome o w log j t x → (loc : Loc) (u : ℕ) → sum_at (record_taken_at j t (is_pending o w log (group_of x))) loc u ≡ contribution o w (with_took log x) loc u -ℤ contribution o w log loc u
  one_taken log (Rec i s k g) h loc u =
      subst₂ (λ (n m : ℕ). sum_at (record_taken_at n m (is_pending o w log (Group i s k))) loc u ≡ contribution o w (with_took log (Rec i s k g)) loc u -ℤ contribution o w log loc u) (eqb-true i j h.0) h.1
      ((taken_unapplied o w log ok i s k g h.2 h.3 (is_pending o w log (Group i s k)) refl).sums loc u)
  one_taken log (Ctrl i v) h loc u = absurd (false≢true h.0)
  one_taken log (Packet i b s) h loc u = absurd (false≢true h.0)
  one_taken log (Row s g) h loc u = absurd (false≢true h.0)
  one_taken log (Group i s k) h loc u = absurd (false≢true h.0)
  one_taken log (Settled i s) h loc u = absurd (false≢true h.0)
  one_taken log (Written s) h loc u = absurd (false≢true h.0)

  all_taken : (xs : List Name) (log : Log) → ((x : Name) → In x xs → MayCome o w log j t x)
      → (loc : Loc) (u : ℕ) → cond (same_loc (Mail j) loc && t == u) (neg_ℤ (pos (length xs))) (pos 0) +ℤ cond (same_loc (Host j) loc && t == u) (pos (new_groups o w log xs)) (pos 0) ≡ contribution o w (with_names Took xs log) loc u -ℤ contribution o w log loc u
  all_taken [] log h loc u =
      none_taken (same_loc (Mail j) loc && t == u) (same_loc (Host j) loc && t == u) ∙ same_again _ _ (ap (λ (l : Log). contribution o w l loc u) (with_none Took log))
  all_taken (x ∷ xs) log h loc u =
      let mail = same_loc (Mail j) loc && t == u in
      let host = same_loc (Host j) loc && t == u in
      let waited = is_pending o w log (group_of x) in
      let n = length xs in
      let m = new_groups o w (with_took log x) xs in
      let one = ap (λ (z : ℤ). cond mail (negsuc 0) (pos 0) +ℤ z) (sym (sum_unless waited (Host j) t loc u)) ∙ one_taken log x (h x (In_here x xs)) loc u in
      let others = all_taken xs (with_took log x) (λ y i. h y (In_later y x xs i)) loc u in
      let whole = ap (λ (ys : List Name). contribution o w (record log { took = ys }) loc u) (append_assoc log.took (x ∷ []) xs) in
      added (cond mail (negsuc 0) (pos 0) +ℤ cond (host && not waited) (pos 1) (pos 0)) (cond mail (neg_ℤ (pos n)) (pos 0) +ℤ cond host (pos m) (pos 0)) (cond mail (neg_ℤ (pos (suc n))) (pos 0) +ℤ cond host (pos (cond waited 0 1 + m)) (pos 0)) (contribution o w log loc u) (contribution o w (with_took log x) loc u) (contribution o w (with_names Took (x ∷ xs) log) loc u) one (others ∙ ap (λ (z : ℤ). z -ℤ contribution o w (with_took log x) loc u) whole)
      (more_taken mail host waited n m)

may_come : (o : Outline) (w : ℕ) (log : Log) → LogIsLegal o w log → (j t : ℕ) (x : Name) → (is_rec j x ≡ true) × (time_of o x ≡ t) × IsOwedTo o w x × (has log.took x ≡ false) → MayCome o w log j t x
may_come o w log good j t (Rec i s k g) h = (h.0, h.1, h.2, unapplied o w log good i s k g h.2 h.3)
may_come o w log good j t (Ctrl i v) h = absurd (false≢true h.0)
may_come o w log good j t (Packet i b s) h = absurd (false≢true h.0)
may_come o w log good j t (Row s g) h = absurd (false≢true h.0)
may_come o w log good j t (Group i s k) h = absurd (false≢true h.0)
may_come o w log good j t (Settled i s) h = absurd (false≢true h.0)
may_come o w log good j t (Written s) h = absurd (false≢true h.0)

some_once : (c : Change) (loc : Loc) (t n : ℕ) → (c.at.loc ≡ loc → ⊥) → AllPairs IsApart (c ∷ some_more loc t n)
some_once c loc t zero h = one_once c
some_once c loc t (suc n) h = rw (more_than_none n) (two_once c (change_at loc t (pos (suc n))) h)

some_not_zero : (c : Change) (loc : Loc) (t n : ℕ) → c.by ≢ pos 0 → All IsNotZero (c ∷ some_more loc t n)
some_not_zero c loc t zero h = one_not_zero c h
some_not_zero c loc t (suc n) h = rw (more_than_none n) (two_not_zero c (change_at loc t (pos (suc n))) h (λ e. cc))

pub records_taken : TakenRecordsAreCounted
records_taken o w log ok good j t xs some h =
    let less = change_at (Mail j) t (neg_ℤ (pos (length xs))) in
    record {
      sums = λ loc u. ap (λ (z : ℤ). cond (same_loc (Mail j) loc && t == u) (neg_ℤ (pos (length xs))) (pos 0) +ℤ z) (some_sum (Host j) t (new_groups o w log xs) loc u) ∙ all_taken o w ok j t xs log (λ x i. may_come o w log good j t x (h x i)) loc u;
      once = some_once less (Host j) t (new_groups o w log xs) (λ e. cc);
      none_by_zero = some_not_zero less (Host j) t (new_groups o w log xs) (not_none (length xs) some);
    }
