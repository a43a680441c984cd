-- Work that is put on counts and taken off.
use Rattle.std.proofs.Common.{◌≡◌, ℕ, ◌+◌, ◌-◌, ◌<◌, ◌≤◌, ◌^◌, Bool, true, false, cond, ℤ, pos, ◌+ℤ◌, ◌-ℤ◌, to_z, of_z, w64, FitsSigned, refl, sym, ap, ◌∙◌, subst, ⊎_elim, arith}
use Rattle.std.proofs.lemmas.Bool.{false≢true}
use Rattle.std.proofs.lemmas.Int.{ints, to_z-of_z}
use Rattle.mp_names.specs.declared.locations.Loc.{Loc}
use Rattle.mp_stamps.specs.Counts.{CountTable, IsCounted, SamePlaces, count_in}
use Rattle.mp_stamps.proofs.Tables.{counted_or_not}
use Rattle.mp_chart.specs.declared.work.Work.{Work}
use Rattle.mp_chart.specs.Left.{AreLeft, left_in, part_at, whole}
use Rattle.mp_chart.proofs.Parts.{is_there, there_is, is_here, part_here}

counted_along : (a b : CountTable) (loc : Loc) (t : ℕ) → SamePlaces a b → IsCounted a loc t → IsCounted b loc t
counted_along a b loc t s h = rw (s.stages, s.times, s.low) h

pub small_is : (n : ℕ) → n < 2 ^ 32 → to_z w64 n ≡ pos n
small_is n l = omega (arith, ints)

pub less_is : (n : ℕ) → n < 2 ^ 32 → to_z w64 (of_z w64 (pos 0 -ℤ to_z w64 n)) ≡ pos 0 -ℤ pos n
less_is n l =
    let e : to_z w64 n ≡ pos n = small_is n l in
    let f : FitsSigned w64 (pos 0 -ℤ pos n) = omega (arith, ints) in
    ap (λ (z : ℤ). to_z w64 (of_z w64 (pos 0 -ℤ z))) e ∙ to_z-of_z w64 (pos 0 -ℤ pos n) f

pub pos_less : (z : ℤ) (k n : ℕ) → z ≡ pos k → n ≤ k → z +ℤ (pos 0 -ℤ pos n) ≡ pos (k - n)
pos_less z k n e l = omega (arith, ints)

pub pos_more : (z : ℤ) (k n : ℕ) → z ≡ pos k → z +ℤ pos n ≡ pos (k + n)
pos_more z k n e = omega (arith, ints)

module _ (old new : CountTable) (work : Work) (left : AreLeft old) (same : SamePlaces old new) (others : (a : Loc) (t : ℕ) → ((a ≡ work.loc) × (t ≡ work.time) → ⊥) → count_in new a t ≡ count_in old a t) where
  -- the count at the work's place, and what it was, tell all
  module _ (n : ℕ) (here : count_in new work.loc work.time ≡ pos n) where
    here_is : left_in new work.loc work.time ≡ n
    here_is = ap whole here

    there_is_same : (a : Loc) (t : ℕ) → is_there a t work ≡ false → count_in new a t ≡ count_in old a t
    there_is_same a t e = others a t (λ p. false≢true (sym e ∙ at_work a t p.0 p.1))
      where
        at_work : (a : Loc) (t : ℕ) → a ≡ work.loc → t ≡ work.time → is_there a t work ≡ true
        at_work a t e f = ap (λ (b : Loc). is_there b t work) e ∙ ap (λ (u : ℕ). is_there work.loc u work) f ∙ here_true
          where
            here_true : is_there work.loc work.time work ≡ true
            here_true = is_here work

    -- what holds of the number at the work's place, and of each that didn't change
    by_place : (P : Loc → ℕ → Type 0) → P work.loc work.time → ((a : Loc) (t : ℕ) → is_there a t work ≡ false → P a t) → (a : Loc) (t : ℕ) → P a t
    by_place P p q a t = pick (is_there a t work) refl
      where
        pick : (b : Bool) → is_there a t work ≡ b → P a t
        pick true e = let r = there_is a t work e in subst (λ (u : ℕ). P a u) (sym r.1) (subst (λ (l : Loc). P l work.time) (sym r.0) p)
        pick false e = q a t e

    pub still_left : n < 2 ^ 100 → ((IsCounted old work.loc work.time → ⊥) → n ≡ 0) → AreLeft new
    still_left low none =
        record {
          whole_counts = by_place (λ a t. count_in new a t ≡ pos (left_in new a t)) (here ∙ ap pos (sym here_is)) (λ a t e. let s = there_is_same a t e in s ∙ left.whole_counts a t ∙ ap (λ (z : ℤ). pos (whole z)) (sym s));
          few = by_place (λ a t. left_in new a t < 2 ^ 100) (subst (λ (m : ℕ). m < 2 ^ 100) (sym here_is) low) (λ a t e. subst (λ (z : ℤ). whole z < 2 ^ 100) (sym (there_is_same a t e)) (left.few a t));
          none_else =
              by_place (λ a t. (IsCounted new a t → ⊥) → left_in new a t ≡ 0)
              (λ not. here_is ∙ none (λ c. not (counted_along old new work.loc work.time same c)))
              (λ a t e not. ap whole (there_is_same a t e) ∙ left.none_else a t (λ c. not (counted_along old new a t same c)));
        }

    pub work_put : n ≡ left_in old work.loc work.time + work.count → (a : Loc) (t : ℕ) → left_in new a t ≡ left_in old a t + part_at a t work
    work_put sum =
        by_place (λ a t. left_in new a t ≡ left_in old a t + part_at a t work)
        (here_is ∙ sum ∙ ap (λ (m : ℕ). left_in old work.loc work.time + m) (sym (part_here work)))
        (λ a t e. let none : part_at a t work ≡ 0 = ap (λ (b : Bool). cond b work.count 0) e in let s = ap whole (there_is_same a t e) in omega arith)

    pub work_taken : n + work.count ≡ left_in old work.loc work.time → (a : Loc) (t : ℕ) → left_in new a t + part_at a t work ≡ left_in old a t
    work_taken sum =
        by_place (λ a t. left_in new a t + part_at a t work ≡ left_in old a t)
        (let h = here_is in let p = part_here work in omega arith)
        (λ a t e. let none : part_at a t work ≡ 0 = ap (λ (b : Bool). cond b work.count 0) e in let s = ap whole (there_is_same a t e) in omega arith)

  -- the count once work is taken off
  pub taken_here :
      work.count ≤ left_in old work.loc work.time
      → (IsCounted old work.loc work.time → count_in new work.loc work.time ≡ count_in old work.loc work.time +ℤ (pos 0 -ℤ pos work.count))
      → ((IsCounted old work.loc work.time → ⊥) → count_in new work.loc work.time ≡ count_in old work.loc work.time)
      → count_in new work.loc work.time ≡ pos (left_in old work.loc work.time - work.count)
  taken_here low counted dropped =
      ⊎_elim
      (λ (c : IsCounted old work.loc work.time). counted c ∙ pos_less (count_in old work.loc work.time) (left_in old work.loc work.time) work.count (left.whole_counts work.loc work.time) low)
      (λ (n : IsCounted old work.loc work.time → ⊥). let none = left.none_else work.loc work.time n in let same_number : left_in old work.loc work.time ≡ left_in old work.loc work.time - work.count = omega arith in dropped n ∙ left.whole_counts work.loc work.time ∙ ap pos same_number)
      (counted_or_not old work.loc work.time)
