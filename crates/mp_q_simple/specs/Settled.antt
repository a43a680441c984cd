-- What the values of rules are once they are settled.
use Rattle.std.specs.Prelude.{ℕ, ◌≡◌, ◌≤◌, ◌*◌, ◌^◌, ◌<◌, ◌&&◌, Bool, true, false, List, [], ◌∷◌, nat_le, get_or, refl}
use Rattle.std.proofs.Common.{arith, cond}
use Rattle.std.proofs.lemmas.Bool.{and_parts, leb-true, lt-ltb}
use Rattle.std.proofs.Math.Nat.{div-le_self}
use Rattle.std.proofs.lemmas.Nat.{mul-le}
use Rattle.mp_names.specs.Limits.{greatest_price}
use Rattle.mp_model.specs.declared.value.Value.TheVariants.{Auction, Bid, Count, Person, Row, Sale}
use Rattle.mp_model.specs.Rules.{are_within, settled}
use Rattle.mp_q_simple.specs.Laws.{LegalRowsFit}
use Rattle.mp_q_simple.specs.Q1.{euros_of, q1_rules, rows_with}
use Rattle.mp_q_simple.specs.Q2.{rows_with as rows_of_q2}

-- the first of the settled values of q1 is no more than 1000
few_euros : (vs : List ℕ) → get_or (settled q1_rules vs) 0 0 ≤ 1000
few_euros vs = cases (are_within q1_rules vs) refl
  where
    first : (vs : List ℕ) → are_within q1_rules vs ≡ true → get_or vs 0 0 ≤ 1000
    first [] e = omega arith
    first (n ∷ vs) e = leb-true n 1000 (and_parts (nat_le 0 n) (nat_le n 1000) (and_parts (nat_le 0 n && nat_le n 1000) _ e).0).1

    cases : (b : Bool) → are_within q1_rules vs ≡ b → get_or (cond b vs (89 ∷ 100 ∷ [])) 0 0 ≤ 1000
    cases true e = first vs e
    cases false e = omega arith

price_fits : (num den price : ℕ) → num ≤ 1000 → price ≤ greatest_price → euros_of num den price < 2 ^ 64
price_fits num den price few low =
    let a : price * num ≤ 10 ^ 12 * 1000 = mul-le price num (10 ^ 12) 1000 low few in
    omega (arith, a, div-le_self (price * num) den)

pub legal_rows_fit : (vs : List ℕ) → LegalRowsFit (rows_with vs)
legal_rows_fit vs t (Bid auction bidder price) legal = lt-ltb _ _ (price_fits (get_or (settled q1_rules vs) 0 0) (get_or (settled q1_rules vs) 1 1) price (few_euros vs) legal.2)
legal_rows_fit vs t (Person id name city state) legal = refl
legal_rows_fit vs t (Auction id seller category reserve expires) legal = refl
legal_rows_fit vs t (Sale of price) legal = refl
legal_rows_fit vs t (Count auction count) legal = refl
legal_rows_fit vs t (Row fields) legal = refl

-- those of q2 are the bid's own
pub all_rows_fit : (vs : List ℕ) → LegalRowsFit (rows_of_q2 vs)
all_rows_fit vs t v legal = refl
