-- The names of made events are plain: each is a letter and a number, or two letters.
use Rattle.std.proofs.Common.{◌≡◌, ◌+◌, ◌%◌, ◌^◌, ◌<◌, ◌==◌, ◌||◌, ◌∷◌, [], ℕ, zero, suc, false, cond, lit<, refl, arith}
use Rattle.std.specs.Fmt.{decimal}
use Rattle.std.proofs.Math.Nat.{div-le_self, mod-lt}
use Rattle.std.proofs.lemmas.List.Elements.{All-cons, All-nil}
use Rattle.mp_model.specs.declared.record.Event.{Event}
use Rattle.mp_model.specs.Plain.{EventsArePlain, IsPlain, NamesArePlain}
use Rattle.mp_model.proofs.PlainNumbers.{plain_number}
use Rattle.mp_draws.specs.Draws.{first_state, next_state}
use Rattle.mp_make.specs.Made.{auction_at, bid_at, event_at, events_from, made_events, person_at, state_text, ten_of}
use Rattle.mp_make.proofs.Legal.{either}

-- neither a bar nor a line feed
abbrev IsPlainByte : ℕ → Type 0
IsPlainByte b = ((b == 124) ≡ false) × ((b == 10) ≡ false)

-- a letter and a number
numbered : (letter n : ℕ) → IsPlainByte letter → n < 2 ^ 64 → IsPlain (letter ∷ decimal n)
numbered letter n plain low = All-cons IsPlainByte letter (decimal n) plain (plain_number n low)

-- two letters
two : (a b : ℕ) → IsPlainByte a → IsPlainByte b → IsPlain (a ∷ b ∷ [])
two a b first second = All-cons IsPlainByte a (b ∷ []) first (All-cons IsPlainByte b [] second (All-nil IsPlainByte))

of_state : (n : ℕ) → IsPlain (state_text n)
of_state zero = two 79 82 (refl, refl) (refl, refl)
of_state (suc zero) = two 73 68 (refl, refl) (refl, refl)
of_state (suc (suc zero)) = two 67 65 (refl, refl) (refl, refl)
of_state (suc (suc (suc zero))) = two 78 89 (refl, refl) (refl, refl)
of_state (suc (suc (suc (suc zero)))) = two 87 65 (refl, refl) (refl, refl)
of_state (suc (suc (suc (suc (suc n))))) = two 84 88 (refl, refl) (refl, refl)

person : (index x : ℕ) → index < 2 ^ 64 → NamesArePlain (person_at index x).0.value
person index x low =
    let a = next_state x in
    let b = next_state a in
    let c = next_state b in
    let digit = mod-lt c (let some : 0 < 10 = lit< tt in some) in
    let small : 10 < 2 ^ 64 = lit< tt in (
      numbered 112 (ten_of index) (refl, refl) (omega (arith, div-le_self index 10, low)),
      numbered 99 (c % 10) (refl, refl) (omega (arith, digit, small)),
      of_state (b % 6),
    )

-- auctions and bids have no names
one_plain : (index x : ℕ) → index < 2 ^ 64 → NamesArePlain (event_at index x).0.value
one_plain index x low =
    let P : (Event × ℕ) → Type 0 = λ made. NamesArePlain made.0.value in
    either P (index % 10 == 0) (person_at index x) (cond (index % 10 == 1 || index % 10 == 2) (auction_at index x) (bid_at index x)) (person index x low)
    (either P (index % 10 == 1 || index % 10 == 2) (auction_at index x) (bid_at index x) tt tt)

each_plain : (index n x : ℕ) → index + n < 2 ^ 64 → EventsArePlain (events_from index n x)
each_plain index zero x few = All-nil (λ (event : Event). NamesArePlain event.value)
each_plain index (suc n) x few =
    All-cons (λ (event : Event). NamesArePlain event.value) (event_at index x).0 (events_from (index + 1) n (event_at index x).1) (one_plain index x (omega (arith, few))) (each_plain (index + 1) n (event_at index x).1 (omega (arith, few)))

-- those of any seed are
pub made_are_plain : (count seed : ℕ) → count < 2 ^ 64 → EventsArePlain (made_events count seed)
made_are_plain count seed few = each_plain 0 count (first_state seed) (omega (arith, few))
