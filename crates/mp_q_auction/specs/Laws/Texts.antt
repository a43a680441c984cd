-- What may be saved of sales is told by its numbers.
use Rattle.std.specs.Prelude.{ℕ, ◌≡◌, ◌==◌, ◌&&◌, ◌^◌, true, List, [], ◌∷◌, length, nat_le, nat_lt, refl}
use Rattle.std.proofs.Common.{arith, lit<}
use Rattle.std.proofs.lemmas.Bool.{and_parts, eqb-true, ltb-true}
use Rattle.mp_names.specs.Limits.{greatest_price}
use Rattle.mp_saved.proofs.Spelled.{AreSmall, none_small, one_small}
use Rattle.mp_auctions.specs.Sales.{NumbersTellKept}
use Rattle.mp_q_auction.specs.Q4.{PriceSum, all_prices, price_numbers, prices_are_legal}
use Rattle.mp_q_auction.specs.Q6.{are_fair, latest_prices}

-- Sums and counts of q4

prices_parts : (p : PriceSum) → prices_are_legal p ≡ true → (nat_le p.total (10 ^ 18) ≡ true) × (nat_lt 0 p.count ≡ true) × (nat_le p.count 1000000 ≡ true)
prices_parts p h =
    let both = and_parts (nat_le p.total (10 ^ 18) && nat_lt 0 p.count) (nat_le p.count 1000000) h in
    let first = and_parts (nat_le p.total (10 ^ 18)) (nat_lt 0 p.count) both.0 in
    (first.0, first.1, both.1)

pub prices_tell : NumbersTellKept price_numbers all_prices
prices_tell = record {
  none = λ p h.
      let both = and_parts (p.total == 0) (p.count == 0) h in
      let total = eqb-true p.total 0 both.0 in
      let count = eqb-true p.count 0 both.1 in
      λ i. record { total = total i; count = count i };
  again = λ p h. refl;
  some = λ p h. omega arith;
  small = λ p h. let parts = prices_parts p h in one_small p.total (10 ^ 18) (p.count ∷ []) parts.0 (lit< tt) (one_small p.count 1000000 [] parts.2 (lit< tt) none_small);
}

-- Last prices of q6

fair_small : (prices : List ℕ) → are_fair prices ≡ true → AreSmall prices
fair_small [] h = none_small
fair_small (p ∷ ps) h =
    let both = and_parts (nat_le p greatest_price) (are_fair ps) h in
    one_small p greatest_price ps both.0 (lit< tt) (fair_small ps both.1)

empty_is : (prices : List ℕ) → (length prices == 0) ≡ true → prices ≡ []
empty_is [] h = refl
empty_is (p ∷ ps) h = let e = eqb-true (length (p ∷ ps)) 0 h in absurd (omega (arith, e))

pub latest_tell : (n : ℕ) → NumbersTellKept (λ (latest : List ℕ). latest) (latest_prices n)
latest_tell n = record {
  none = empty_is;
  again = λ latest h. refl;
  some = λ latest h. ltb-true 0 (length latest) (and_parts (nat_lt 0 (length latest)) (nat_le (length latest) n) (and_parts (nat_lt 0 (length latest) && nat_le (length latest) n) (are_fair latest) h).0).0;
  small = λ latest h. fair_small latest (and_parts (nat_lt 0 (length latest) && nat_le (length latest) n) (are_fair latest) h).1;
}
