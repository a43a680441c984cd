-- Lists made from a function of the index, item by item.
use Rattle.std.proofs.Common.{◌≡◌, ◌+◌, ◌<◌, ◌≤◌, ◌∙◌, ℕ, zero, suc, true, false, ap, arith, length, map, sym}
use Rattle.std.specs.Prelude.{All, nat_le}
use Rattle.std.specs.List.{list_all, range_with_len}
use Rattle.std.proofs.lemmas.Bool.{lt-leb}
use Rattle.std.proofs.lemmas.List.Elements.{All-cons, All-get_or, All-nil}
use Rattle.std.proofs.lemmas.List.Folds.{list_all_at}
use Rattle.std.proofs.lemmas.List.FromFn.{get_or-map-range_with_len, length-map-range_with_len}
use Rattle.std.proofs.lemmas.List.Sums.{AllPass-from_list_all}
use Rattle.mp_control.specs.Controls.{is_in_time}
use Rattle.mp_names.specs.declared.controls.Control.{Control}
use Rattle.mp_names.specs.Limits.{greatest_time}

-- a fact of the item of each index below a bound is one of each item of a list made from these
pub all_made : {X : Type 0} (P : X → Type 0) (f : ℕ → X) (a n : ℕ) → ((k : ℕ) → a ≤ k → k < a + n → P (f k)) → All P (map f (range_with_len a n))
all_made P f a zero each = All-nil P
all_made P f a (suc n) each =
    All-cons P (f a) (map f (range_with_len (a + 1) n)) (each a (omega arith) (omega arith)) (all_made P f (a + 1) n (λ k low high. each k (omega (arith, low)) (omega (arith, high))))

module _ (f : ℕ → Control) (n k : ℕ) (low : k < n) where
  there : k < length (map f (range_with_len 0 n))
  there = omega (arith, low, length-map-range_with_len f 0 n)

  -- each is in time where all are
  pub timely_at : list_all is_in_time (map f (range_with_len 0 n)) ≡ true → nat_le (f k).time greatest_time ≡ true
  timely_at timely =
      ap is_in_time (sym (get_or-map-range_with_len f 0 n k k (f 0) low (omega arith)))
      ∙ All-get_or (λ c. is_in_time c ≡ true) (map f (range_with_len 0 n)) k (f 0) there (AllPass-from_list_all is_in_time _ timely)

  -- not all are where one isn't
  pub one_late : greatest_time < (f k).time → list_all is_in_time (map f (range_with_len 0 n)) ≡ false
  one_late late =
      list_all_at is_in_time (map f (range_with_len 0 n)) k (f 0) there (ap is_in_time (get_or-map-range_with_len f 0 n k k (f 0) low (omega arith)) ∙ lt-leb _ _ late)
