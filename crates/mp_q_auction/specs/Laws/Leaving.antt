-- What q4 and q6 keep of the prices that a file leaves may be saved.
use Rattle.std.specs.Prelude.{ℕ, zero, suc, ◌≡◌, ◌⊎◌, ◌+◌, ◌-◌, ◌*◌, ◌^◌, ◌≤◌, ◌&&◌, ◌++◌, true, All, List, [], ◌∷◌, fold, get_or, length, nat_le, nat_lt, refl, sum}
use Rattle.std.specs.List.{flat_map}
use Rattle.std.proofs.Common.{arith, inl, inr, length-append}
use Rattle.std.proofs.lemmas.Bool.{and_from, and_parts, le-leb, leb-true, lt-ltb}
use Rattle.std.proofs.lemmas.List.Elements.{All-append, All-drop, All-head, All-nil, All-tail}
use Rattle.std.proofs.lemmas.List.{length-drop}
use Rattle.std.proofs.lemmas.List.Sums.{sum_by-cons}
use Rattle.mp_names.specs.Limits.{greatest_id, greatest_price, greatest_time, most_events}
use Rattle.mp_model.specs.Rules.{settled}
use Rattle.mp_auctions.specs.Sales.{AreFairPrices, KeptMayBeSaved, PartiesAreIds}
use Rattle.mp_q_auction.specs.Q4.{PriceSum, all_prices, no_prices, prices_after}
use Rattle.mp_q_auction.specs.Q6.{are_fair, last_of, latest_prices, q6_rules, sales_with}

-- q4

sum_fair : (prices : List ℕ) → AreFairPrices prices → sum prices ≤ length prices * greatest_price
sum_fair [] h = omega arith
sum_fair (p ∷ ps) h =
    let first : p ≤ greatest_price = All-head (λ (n : ℕ). n ≤ greatest_price) p ps h in
    omega (arith, sum_by-cons (λ x. x) p ps, first, sum_fair ps (All-tail (λ (n : ℕ). n ≤ greatest_price) p ps h))

-- no more is summed than prices of so many sales
abbrev IsGoodSum : PriceSum → Type 0
IsGoodSum prices = prices.total ≤ prices.count * greatest_price

all_kept : (groups : List (List ℕ)) (start : PriceSum) → All AreFairPrices groups → IsGoodSum start
    → IsGoodSum (fold prices_after start groups) × ((fold prices_after start groups).count ≡ start.count + length (flat_map (λ ps. ps) groups))
all_kept [] start h good = (good, omega arith)
all_kept (ps ∷ groups) start h good =
    let first = sum_fair ps (All-head AreFairPrices ps groups h) in
    let rest = all_kept groups (prices_after start ps) (All-tail AreFairPrices ps groups h) (omega (arith, first, good)) in
    (rest.0, omega (arith, rest.1, length-append ps (flat_map (λ (qs : List ℕ). qs) groups)))

sum_saved : (prices : PriceSum) → IsGoodSum prices → prices.count ≤ most_events → (prices ≡ no_prices) ⊎ (all_prices.allows prices ≡ true)
sum_saved prices good few = by_count prices.count refl
  where
    by_count : (n : ℕ) → prices.count ≡ n → (prices ≡ no_prices) ⊎ (all_prices.allows prices ≡ true)
    by_count zero e = let none : prices.total ≡ 0 = omega (arith, good, e) in inl (λ i. record { total = none i; count = e i })
    by_count (suc n) e =
        inr
        (and_from (nat_le prices.total (10 ^ 18) && nat_lt 0 prices.count) (nat_le prices.count 1000000)
        (and_from (nat_le prices.total (10 ^ 18)) (nat_lt 0 prices.count) (le-leb prices.total (10 ^ 18) (omega (arith, good, few))) (lt-ltb 0 prices.count (omega (arith, e))))
        (le-leb prices.count 1000000 (omega (arith, few))))

pub prices_may_be_saved : KeptMayBeSaved all_prices
prices_may_be_saved = record {
  none = refl;
  kept = λ groups fair few.
      let all = all_kept groups no_prices fair (omega arith) in
      sum_saved (fold prices_after no_prices groups) all.0 (omega (arith, all.1, few));
}

pub categories_are_ids : PartiesAreIds (λ lot. lot.category)
categories_are_ids lot h =
    let three = (and_parts (nat_le lot.seller greatest_id && nat_le lot.category greatest_id && nat_le lot.reserve greatest_price) (nat_le lot.expires greatest_time) h).0 in
    let two = (and_parts (nat_le lot.seller greatest_id && nat_le lot.category greatest_id) (nat_le lot.reserve greatest_price) three).0 in
    leb-true lot.category greatest_id (and_parts (nat_le lot.seller greatest_id) (nat_le lot.category greatest_id) two).1

-- q6

pub sellers_are_ids : PartiesAreIds (λ lot. lot.seller)
sellers_are_ids lot h =
    let three = (and_parts (nat_le lot.seller greatest_id && nat_le lot.category greatest_id && nat_le lot.reserve greatest_price) (nat_le lot.expires greatest_time) h).0 in
    let two = (and_parts (nat_le lot.seller greatest_id && nat_le lot.category greatest_id) (nat_le lot.reserve greatest_price) three).0 in
    leb-true lot.seller greatest_id (and_parts (nat_le lot.seller greatest_id) (nat_le lot.category greatest_id) two).0

fair_all : (prices : List ℕ) → AreFairPrices prices → are_fair prices ≡ true
fair_all [] h = refl
fair_all (p ∷ ps) h =
    and_from (nat_le p greatest_price) (are_fair ps) (le-leb p greatest_price (All-head (λ (n : ℕ). n ≤ greatest_price) p ps h)) (fair_all ps (All-tail (λ (n : ℕ). n ≤ greatest_price) p ps h))

module _ (n : ℕ) where
  record IsGoodLatest (latest : List ℕ) : Type 0 where
    fair : AreFairPrices latest
    few : length latest ≤ n

  latest_good : (groups : List (List ℕ)) (start : List ℕ) → All AreFairPrices groups → IsGoodLatest start → IsGoodLatest (fold (latest_prices n).after start groups)
  latest_good [] start h good = good
  latest_good (ps ∷ groups) start h good =
      let all = start ++ ps in
      latest_good groups (last_of n all) (All-tail AreFairPrices ps groups h)
      (record {
        fair = All-drop (λ (p : ℕ). p ≤ greatest_price) (length all - n) all (All-append (λ (p : ℕ). p ≤ greatest_price) start ps good.fair (All-head AreFairPrices ps groups h));
        few = omega (arith, length-drop (length all - n) all);
      })

  latest_saved : (latest : List ℕ) → IsGoodLatest latest → (latest ≡ []) ⊎ ((latest_prices n).allows latest ≡ true)
  latest_saved [] good = inl refl
  latest_saved (p ∷ ps) good =
      inr
      (and_from (nat_lt 0 (length (p ∷ ps)) && nat_le (length (p ∷ ps)) n) (are_fair (p ∷ ps))
      (and_from (nat_lt 0 (length (p ∷ ps))) (nat_le (length (p ∷ ps)) n) (lt-ltb 0 (length (p ∷ ps)) (omega arith)) (le-leb (length (p ∷ ps)) n good.few))
      (fair_all (p ∷ ps) good.fair))

  pub latest_may_be_saved : KeptMayBeSaved (latest_prices n)
  latest_may_be_saved = record {
    none = refl;
    kept = λ groups fair few. latest_saved (fold (latest_prices n).after [] groups) (latest_good groups [] fair (record { fair = All-nil (λ (p : ℕ). p ≤ greatest_price); few = omega arith }));
  }

-- whatever the value of the rule
pub latest_kept : (vs : List ℕ) → KeptMayBeSaved (sales_with vs)
latest_kept vs = latest_may_be_saved (get_or (settled q6_rules vs) 0 1)
