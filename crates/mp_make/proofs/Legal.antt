-- Made events are such as an event file can say.
use Rattle.std.proofs.Common.{◌≡◌, ◌+◌, ◌*◌, ◌%◌, ◌^◌, ◌<◌, ◌≤◌, ◌==◌, ◌||◌, ◌∷◌, ℕ, zero, suc, Bool, true, false, cond, length, lit<, lit≤, refl, arith}
use Rattle.std.specs.Prelude.{All}
use Rattle.std.specs.Fmt.{decimal}
use Rattle.std.proofs.Math.Nat.{div-le_self, mod-lt}
use Rattle.std.proofs.lemmas.Fmt.{length-decimal-le}
use Rattle.std.proofs.lemmas.List.Elements.{All-cons, All-nil}
use Rattle.mp_names.specs.Limits.{greatest_id, greatest_time, most_events}
use Rattle.mp_model.specs.declared.record.Event.{Event}
use Rattle.mp_model.specs.Legal.{EventIsLegal, EventsAreLegal, IsName}
use Rattle.mp_draws.specs.Draws.{first_state, next_state}
use Rattle.mp_make.specs.Made.{auction_at, bid_at, event_at, events_from, made_events, person_at, state_text, ten_of, time_by}

pub either : {X : Type 0} (P : X → Type 0) (b : Bool) (x y : X) → P x → P y → P (cond b x y)
either P true x y h k = h
either P false x y h k = k

early : (index draw : ℕ) → index < most_events → time_by index draw + 2001 ≤ greatest_time
early index draw low =
    let part = mod-lt draw (let some : 0 < 20 = lit< tt in some) in
    let room : 5002021 ≤ 2 ^ 47 = lit≤ tt in omega (arith, part, low, room)

small : (index : ℕ) → index < most_events → 2 * ten_of index + 10 ≤ greatest_id
small index low = let room : 2000010 ≤ 2 ^ 48 = lit≤ tt in omega (arith, div-le_self index 10, low, room)

few_digits : (n : ℕ) → n < most_events → length (decimal n) ≤ 20
few_digits n low =
    let one : 1000000 ≤ 10 ^ 20 = lit≤ tt in
    let two : 1000000 ≤ 2 ^ 64 = lit≤ tt in
    length-decimal-le 20 n (lit< tt) (omega (arith, low, one)) (omega (arith, low, two))

numbered : (letter n : ℕ) → n < most_events → IsName (letter ∷ decimal n)
numbered letter n low = (omega arith, omega (arith, few_digits n low))

named : (n : ℕ) → IsName (state_text n)
named zero = (lit< tt, lit≤ tt)
named (suc zero) = (lit< tt, lit≤ tt)
named (suc (suc zero)) = (lit< tt, lit≤ tt)
named (suc (suc (suc zero))) = (lit< tt, lit≤ tt)
named (suc (suc (suc (suc zero)))) = (lit< tt, lit≤ tt)
named (suc (suc (suc (suc (suc n))))) = (lit< tt, lit≤ tt)

person : (index x : ℕ) → index < most_events → EventIsLegal (person_at index x).0
person index x low =
    let a = next_state x in
    let b = next_state a in
    let c = next_state b in
    let digit = mod-lt c (let some : 0 < 10 = lit< tt in some) in record {
      in_time = omega (arith, early index a low);
      legal = (omega (arith, small index low), numbered 112 (ten_of index) (omega (arith, div-le_self index 10, low)), numbered 99 (c % 10) (omega (arith, digit)), named (b % 6));
    }

auction : (index x : ℕ) → index < most_events → EventIsLegal (auction_at index x).0
auction index x low =
    let a = next_state x in
    let b = next_state a in
    let c = next_state b in
    let d = next_state c in
    let e = next_state d in
    let one : 1 ≤ 2 ^ 48 = lit≤ tt in
    let cheap : 100 ≤ 10 ^ 12 = lit≤ tt in
    let ten_ten = small index low in
    let last = mod-lt index (let some : 0 < 10 = lit< tt in some) in
    let seller = mod-lt b (let some : 0 < ten_of index + 1 = omega arith in some) in
    let category = mod-lt c (let some : 0 < 5 = lit< tt in some) in
    let reserve = mod-lt d (let some : 0 < 100 = lit< tt in some) in
    let later = mod-lt e (let some : 0 < 2000 = lit< tt in some) in record {
      in_time = omega (arith, early index a low);
      legal = (
        omega (arith, ten_ten, last),
        omega (arith, ten_ten, seller),
        omega (arith, category, ten_ten, let room : 13 ≤ 2 ^ 48 = lit≤ tt in room),
        omega (arith, reserve, cheap),
        omega arith,
        omega (arith, early index a low, later),
      );
    }

bid : (index x : ℕ) → index < most_events → EventIsLegal (bid_at index x).0
bid index x low =
    let a = next_state x in
    let b = next_state a in
    let c = next_state b in
    let d = next_state c in
    let ten_ten = small index low in
    let of = mod-lt b (let some : 0 < 2 * ten_of index + 2 = omega arith in some) in
    let bidder = mod-lt c (let some : 0 < ten_of index + 1 = omega arith in some) in
    let price = mod-lt d (let some : 0 < 1000 = lit< tt in some) in
    let cheap : 1001 ≤ 10 ^ 12 = lit≤ tt in record {
      in_time = omega (arith, early index a low);
      legal = (omega (arith, ten_ten, of), omega (arith, ten_ten, bidder), omega (arith, price, cheap));
    }

one_legal : (index x : ℕ) → index < most_events → EventIsLegal (event_at index x).0
one_legal index x low =
    let P : (Event × ℕ) → Type 0 = λ made. EventIsLegal made.0 in
    either P (index % 10 == 0) (person_at index x) (cond (index % 10 == 1 || index % 10 == 2) (auction_at index x) (bid_at index x)) (person index x low)
    (either P (index % 10 == 1 || index % 10 == 2) (auction_at index x) (bid_at index x) (auction index x low) (bid index x low))

each_legal : (index n x : ℕ) → index + n ≤ most_events → All EventIsLegal (events_from index n x)
each_legal index zero x few = All-nil EventIsLegal
each_legal index (suc n) x few =
    All-cons EventIsLegal (event_at index x).0 (events_from (index + 1) n (event_at index x).1) (one_legal index x (omega (arith, few))) (each_legal (index + 1) n (event_at index x).1 (omega (arith, few)))

so_many : (index n x : ℕ) → length (events_from index n x) ≡ n
so_many index zero x = refl
so_many index (suc n) x = omega (arith, so_many (index + 1) n (event_at index x).1)

-- events of any seed are, where they are not too many
pub made_are_legal : (count seed : ℕ) → count ≤ most_events → EventsAreLegal (made_events count seed)
made_are_legal count seed few = record { few = omega (arith, so_many 0 count (first_state seed), few); each = each_legal 0 count (first_state seed) (omega (arith, few)) }
