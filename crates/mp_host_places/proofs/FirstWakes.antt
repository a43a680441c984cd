-- The first wakes of bins tell the first wake of all states, and are kept as a bin's states change.
use Rattle.std.proofs.Common.{◌≡◌, ◌≢◌, ◌⊎◌, ◌==◌, ◌++◌, ◌+◌, ◌<◌, ◌≤◌, ◌∙◌, ℕ, zero, suc, add-one, Bool, true, false, cond, Option, None, List, [], ◌∷◌, All, ap, arith, drop, get_or, get_or-set_other, get_or-set_same, length, refl, slice_get, slice_set, subst, sym, take, ⊎_elim}
use Rattle.std.proofs.Math.ListN.{length-set}
use Rattle.std.proofs.lemmas.Bool.{cases_Bool, cases_eq, cases_order, eq-eqb, ne_eqb}
use Rattle.std.proofs.lemmas.List.{append-nil, take_all, take_more}
use Rattle.std.proofs.lemmas.List.Elements.{filter-append}
use Rattle.mp_host_laws.specs.declared.held.Held.{Held}
use Rattle.mp_host_laws.specs.Hosted.{first_wake_of, wakes_in}
use Rattle.mp_host_laws.specs.Moving.{last_first}
use Rattle.mp_host_laws.proofs.LastFirst.{last_behind}
use Rattle.mp_tournament.specs.Firsts.{earlier_of, first_among}
use Rattle.mp_tournament.proofs.Among.{first_push}
use Rattle.mp_tournament.proofs.Earlier.{earlier_assoc, earlier_comm}
use Rattle.mp_host_places.specs.FirstWakes.{AreFirsts, of_bin}
use Rattle.mp_host_places.specs.Spans.{without}

swapped : (a b c : Option (ℕ × ℕ)) → earlier_of a (earlier_of b c) ≡ earlier_of b (earlier_of a c)
swapped a b c = sym (earlier_assoc a b c) ∙ (ap (λ (d : Option (ℕ × ℕ)). earlier_of d c) (earlier_comm a b) ∙ earlier_assoc b a c)

module _ {Cell : Type 0} where
  -- the first wake of the states of the bins below a number, one bin after the other
  abbrev first_below : ℕ → List (Held Cell) → Option (ℕ × ℕ)
  first_below zero held = None
  first_below (suc n) held = earlier_of (first_wake_of (of_bin n held)) (first_below n held)

  none_below : (n : ℕ) (held : List (Held Cell)) → held ≡ [] → first_below n held ≡ None
  none_below zero held e = refl
  none_below (suc n) held e = rw e (rw e at (none_below n held e))

  apart : (s : Held Cell) (b : ℕ) → b ≢ s.bin → (s.bin == b) ≡ false
  apart s b ne = ne_eqb s.bin b (λ e. ne (sym e))

  -- a state of a bin that isn't below it is none of them
  not_below : (n : ℕ) (s : Held Cell) (ss : List (Held Cell)) → n ≤ s.bin → first_below n (s ∷ ss) ≡ first_below n ss
  not_below zero s ss l = refl
  not_below (suc n) s ss l =
      let other : (s.bin == n) ≡ false = apart s n (λ e. absurd (omega arith)) in
      rw other (ap (earlier_of (first_wake_of (of_bin n ss))) (not_below n s ss (omega arith)))

  one_below : (n : ℕ) (s : Held Cell) (ss : List (Held Cell)) → s.bin < n → first_below n (s ∷ ss) ≡ earlier_of (slice_get (wakes_in s) 0) (first_below n ss)
  one_below zero s ss l = absurd (omega arith)
  one_below (suc n) s ss l =
      ⊎_elim
      (λ (e : s.bin ≡ n).
      let same : (s.bin == n) ≡ true = eq-eqb s.bin n e in
      rw (same, not_below n s ss (omega arith)) (earlier_assoc (slice_get (wakes_in s) 0) (first_wake_of (of_bin n ss)) (first_below n ss)))
      (λ (f : (s.bin < n) ⊎ (n < s.bin)).
      ⊎_elim
      (λ (less : s.bin < n).
      let other : (s.bin == n) ≡ false = apart s n (λ e. absurd (omega arith)) in
      rw other (ap (earlier_of (first_wake_of (of_bin n ss))) (one_below n s ss less) ∙ swapped (first_wake_of (of_bin n ss)) (slice_get (wakes_in s) 0) (first_below n ss)))
      (λ (more : n < s.bin). absurd (omega arith))
      f)
      (cases_order s.bin n)

  all_below : (n : ℕ) (held : List (Held Cell)) → All (λ s. s.bin < n) held → first_below n held ≡ first_wake_of held
  all_below n [] below = none_below n [] refl
  all_below n (s ∷ ss) below = one_below n s ss (below 0 s (omega arith)) ∙ ap (earlier_of (slice_get (wakes_in s) 0)) (all_below n ss (λ k d l. below (suc k) d (omega arith)))

  among_those : (firsts : List (Option (ℕ × ℕ))) (held : List (Held Cell)) (n : ℕ) → n ≤ length firsts → ((b : ℕ) → b < n → get_or firsts b None ≡ first_wake_of (of_bin b held))
      → first_among (take n firsts) ≡ first_below n held
  among_those firsts held zero few each = refl
  among_those firsts held (suc n) few each =
      let more : take (suc n) firsts ≡ take n firsts ++ get_or firsts n None ∷ [] = rw add-one at (take_more firsts n None (omega arith)) in
      let rest = among_those firsts held n (omega arith) (λ b l. each b (omega arith)) in
      ap first_among more
      ∙ (first_push (take n firsts) (get_or firsts n None)
      ∙ (earlier_comm (first_among (take n firsts)) (get_or firsts n None)
      ∙ (ap (λ (w : Option (ℕ × ℕ)). earlier_of w (first_among (take n firsts))) (each n (omega arith))
      ∙ ap (earlier_of (first_wake_of (of_bin n held))) rest)))

  -- so the first among those of the bins is the first of all
  pub firsts_tell : (bins : ℕ) (firsts : List (Option (ℕ × ℕ))) (held : List (Held Cell)) → AreFirsts bins firsts held → All (λ s. s.bin < bins) held → first_among firsts ≡ first_wake_of held
  firsts_tell bins firsts held are below =
      let count = are.count in
      sym (ap first_among (take_all bins firsts (omega arith))) ∙ (among_those firsts held bins (omega arith) are.each ∙ all_below bins held below)

  -- where a bin's entry is set to what it is to be, each is that where those of the others are
  set_told : (firsts : List (Option (ℕ × ℕ))) (held : List (Held Cell)) (bin b : ℕ) → bin < length firsts → (b ≢ bin → get_or firsts b None ≡ first_wake_of (of_bin b held))
      → get_or (slice_set firsts bin (first_wake_of (of_bin bin held))) b None ≡ first_wake_of (of_bin b held)
  set_told firsts held bin b inside others =
      let first = first_wake_of (of_bin bin held) in
      let other : b ≢ bin → get_or (slice_set firsts bin first) b None ≡ first_wake_of (of_bin b held) = λ ne. get_or-set_other firsts bin b first None ne ∙ others ne in
      ⊎_elim
      (λ (e : bin ≡ b). subst (λ (n : ℕ). get_or (slice_set firsts bin (first_wake_of (of_bin bin held))) n None ≡ first_wake_of (of_bin n held)) e (get_or-set_same firsts bin first None inside))
      (λ (f : (bin < b) ⊎ (b < bin)). other (⊎_elim (λ (m : bin < b). λ e. absurd (omega arith)) (λ (m : b < bin). λ e. absurd (omega arith)) f))
      (cases_order bin b)

  -- where only a bin's first wake changed only its entry has to
  pub first_set : (bins : ℕ) (firsts : List (Option (ℕ × ℕ))) (old new : List (Held Cell)) (bin : ℕ) → bin < bins → AreFirsts bins firsts old
      → ((b : ℕ) → b ≢ bin → first_wake_of (of_bin b new) ≡ first_wake_of (of_bin b old)) → AreFirsts bins (slice_set firsts bin (first_wake_of (of_bin bin new))) new
  first_set bins firsts old new bin inside are others =
      let count = are.count in
      record {
        count = length-set firsts bin (first_wake_of (of_bin bin new)) ∙ are.count;
        each = λ b l. set_told firsts new bin b (omega arith) (λ ne. are.each b l ∙ sym (others b ne));
      }

  -- with that of one bin more told those of the bins up to it are
  pub one_told : (firsts : List (Option (ℕ × ℕ))) (held : List (Held Cell)) (bin : ℕ) → bin < length firsts → ((b : ℕ) → b < bin → get_or firsts b None ≡ first_wake_of (of_bin b held))
      → (b : ℕ) → b < bin + 1 → get_or (slice_set firsts bin (first_wake_of (of_bin bin held))) b None ≡ first_wake_of (of_bin b held)
  one_told firsts held bin inside each b l = set_told firsts held bin b inside (λ ne. each b (less_then b bin l ne))
    where
      less_then : (a n : ℕ) → a < n + 1 → a ≢ n → a < n
      less_then a n l ne = grind arith

  -- the states of the other bins, where one is changed, out, or behind the others
  others_changed : (held : List (Held Cell)) (at : ℕ) (s d : Held Cell) → s.bin ≡ (get_or held at d).bin → (b : ℕ) → b ≢ s.bin → of_bin b (slice_set held at s) ≡ of_bin b held
  others_changed [] at s d same b ne = refl
  others_changed (x ∷ xs) zero s d same b ne =
      let one : (s.bin == b) ≡ false = apart s b ne in
      let was : (x.bin == b) ≡ false = apart x b (λ e. ne (e ∙ sym same)) in
      rw (one, was) refl
  others_changed (x ∷ xs) (suc at) s d same b ne = ap (λ (ys : List (Held Cell)). cond (x.bin == b) (x ∷ ys) ys) (others_changed xs at s d same b ne)

  left_out : (held : List (Held Cell)) (at : ℕ) (d : Held Cell) → at < length held → (b : ℕ) → b ≢ (get_or held at d).bin → of_bin b (take at held ++ drop (suc at) held) ≡ of_bin b held
  left_out [] at d inside b ne = absurd (omega arith)
  left_out (x ∷ xs) zero d inside b ne = let was : (x.bin == b) ≡ false = apart x b ne in rw was refl
  left_out (x ∷ xs) (suc at) d inside b ne = ap (λ (ys : List (Held Cell)). cond (x.bin == b) (x ∷ ys) ys) (left_out xs at d (omega arith) b ne)

  -- with one more in front of them the first wake is its, or that of the others
  abbrev with_wake : ℕ → Held Cell → Option (ℕ × ℕ) → Option (ℕ × ℕ)
  with_wake b s w = cond (s.bin == b) (earlier_of (slice_get (wakes_in s) 0) w) w

  one_in_front : (b : ℕ) (s : Held Cell) (ss : List (Held Cell)) → first_wake_of (of_bin b (s ∷ ss)) ≡ with_wake b s (first_wake_of (of_bin b ss))
  one_in_front b s ss =
      ⊎_elim
      (λ (e : (s.bin == b) ≡ true). rw e refl)
      (λ (e : (s.bin == b) ≡ false). rw e refl)
      (cases_Bool (s.bin == b))

  -- where the changed state has the same wakes, the first is the same
  same_first : (held : List (Held Cell)) (at : ℕ) (s d : Held Cell) → s.bin ≡ (get_or held at d).bin → wakes_in s ≡ wakes_in (get_or held at d) → (b : ℕ) → first_wake_of (of_bin b (slice_set held at s)) ≡ first_wake_of (of_bin b held)
  same_first [] at s d same wakes b = refl
  same_first (x ∷ xs) zero s d same wakes b =
      one_in_front b s xs
      ∙ ((λ i. cond (same i == b) (earlier_of (slice_get (wakes i) 0) (first_wake_of (of_bin b xs))) (first_wake_of (of_bin b xs)))
      ∙ sym (one_in_front b x xs))
  same_first (x ∷ xs) (suc at) s d same wakes b =
      one_in_front b x (slice_set xs at s)
      ∙ (ap (with_wake b x) (same_first xs at s d same wakes b)
      ∙ sym (one_in_front b x xs))

  -- so it is for each bin but that of a state whose wakes changed
  pub firsts_changed : (held : List (Held Cell)) (at : ℕ) (s d : Held Cell) (changes : Bool) → s.bin ≡ (get_or held at d).bin → (changes ≡ false → wakes_in s ≡ wakes_in (get_or held at d))
      → (b : ℕ) → (b ≡ s.bin → changes ≡ false) → first_wake_of (of_bin b (slice_set held at s)) ≡ first_wake_of (of_bin b held)
  firsts_changed held at s d changes same wakes b idle =
      ⊎_elim
      (λ (e : b ≡ s.bin). same_first held at s d same (wakes (idle e)) b)
      (λ (ne : b ≢ s.bin). ap first_wake_of (others_changed held at s d same b ne))
      (cases_eq b s.bin)

  either_first : (b : ℕ) (r s : Held Cell) (w : Option (ℕ × ℕ)) → with_wake b r (with_wake b s w) ≡ with_wake b s (with_wake b r w)
  either_first b r s w =
      ⊎_elim
      (λ (e : (r.bin == b) ≡ true).
      ⊎_elim
      (λ (f : (s.bin == b) ≡ true). rw (e, f) (swapped (slice_get (wakes_in r) 0) (slice_get (wakes_in s) 0) w))
      (λ (f : (s.bin == b) ≡ false). rw (e, f) refl)
      (cases_Bool (s.bin == b)))
      (λ (e : (r.bin == b) ≡ false). rw e refl)
      (cases_Bool (r.bin == b))

  -- so the order of states doesn't matter
  one_behind : (b : ℕ) (ss : List (Held Cell)) (s : Held Cell) → first_wake_of (of_bin b (ss ++ s ∷ [])) ≡ first_wake_of (of_bin b (s ∷ ss))
  one_behind b [] s = refl
  one_behind b (r ∷ ss) s =
      one_in_front b r (ss ++ s ∷ [])
      ∙ (ap (with_wake b r) (one_behind b ss s ∙ one_in_front b s ss)
      ∙ (either_first b r s (first_wake_of (of_bin b ss))
      ∙ sym (one_in_front b s (r ∷ ss) ∙ ap (with_wake b s) (one_in_front b r ss))))

  last_moved : (b : ℕ) (front rest : List (Held Cell)) → first_wake_of (of_bin b (front ++ last_first rest)) ≡ first_wake_of (of_bin b (front ++ rest))
  last_moved b [] [] = refl
  last_moved b [] (s ∷ ss) =
      sym (one_behind b (take (length ss) (s ∷ ss)) (get_or (s ∷ ss) (length ss) s))
      ∙ ap (λ (rs : List (Held Cell)). first_wake_of (of_bin b rs)) (last_behind s ss)
  last_moved b (r ∷ front) rest =
      one_in_front b r (front ++ last_first rest)
      ∙ (ap (with_wake b r) (last_moved b front rest)
      ∙ sym (one_in_front b r (front ++ rest)))

  pub others_left : (held : List (Held Cell)) (at : ℕ) (one : Held Cell) → at < length held → one ≡ get_or held at one → (b : ℕ) → b ≢ one.bin → first_wake_of (of_bin b (without at held)) ≡ first_wake_of (of_bin b held)
  others_left held at one inside is b ne =
      let others : of_bin b (take at held ++ drop (at + 1) held) ≡ of_bin b held = rw add-one (left_out held at one inside b (subst (λ (s : Held Cell). b ≢ s.bin) is ne)) in
      last_moved b (take at held) (drop (at + 1) held) ∙ ap first_wake_of others

  pub others_with : (held : List (Held Cell)) (one : Held Cell) (b : ℕ) → b ≢ one.bin → of_bin b (held ++ one ∷ []) ≡ of_bin b held
  others_with held one b ne =
      let other : (one.bin == b) ≡ false = apart one b ne in
      filter-append (λ (s : Held Cell). s.bin == b) held (one ∷ []) ∙ rw other (append-nil (of_bin b held))
