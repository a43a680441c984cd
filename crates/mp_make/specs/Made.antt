-- The events that are made from a seed.
use Rattle.std.specs.Prelude.{ℕ, zero, suc, ◌+◌, ◌-◌, ◌*◌, ◌/◌, ◌%◌, ◌==◌, ◌||◌, List, [], ◌∷◌, ◌++◌, codes, if◌then◌else◌}
use Rattle.std.specs.Fmt.{decimal}
use Rattle.mp_draws.specs.Draws.{first_state, next_state}
use Rattle.mp_model.specs.declared.record.Event.{Event}
use Rattle.mp_model.specs.declared.value.Value.TheVariants.{Person, Auction, Bid}

-- the two letters of a state, by its number; queries look for those of the first three
abbrev pub state_text : ℕ → List ℕ
state_text zero = codes "OR"
state_text (suc zero) = codes "ID"
state_text (suc (suc zero)) = codes "CA"
state_text (suc (suc (suc zero))) = codes "NY"
state_text (suc (suc (suc (suc zero)))) = codes "WA"
state_text _ = codes "TX"

-- the time of the event of an index, by a draw
abbrev pub time_by : ℕ → ℕ → ℕ
time_by index draw = 5 * index + draw % 20

-- the group of ten that the event of an index is in
abbrev pub ten_of : ℕ → ℕ
ten_of index = index / 10

-- a person with the number of its ten, by draws for time, state and city; and the last draw
abbrev pub person_at : ℕ → ℕ → Event × ℕ
person_at index x =
    let a = next_state x in
    let b = next_state a in
    let c = next_state b in (
      record {
        time = time_by index a;
        value = Person (ten_of index) (codes "p" ++ decimal (ten_of index)) (codes "c" ++ decimal (c % 10)) (state_text (b % 6));
      },
      c,
    )

-- one of the two auctions of a ten, by draws for time, seller, category, reserve and expires; and the last draw
abbrev pub auction_at : ℕ → ℕ → Event × ℕ
auction_at index x =
    let a = next_state x in
    let b = next_state a in
    let c = next_state b in
    let d = next_state c in
    let e = next_state d in
    let time = time_by index a in (
      record {
        time = time;
        value = Auction (2 * ten_of index + index % 10 - 1) (b % (ten_of index + 1)) (8 + c % 5) (d % 100) (time + 1 + e % 2000);
      },
      e,
    )

-- a bid on an auction of this ten or one before it, by draws for time, auction, bidder and price; and the last draw
abbrev pub bid_at : ℕ → ℕ → Event × ℕ
bid_at index x =
    let a = next_state x in
    let b = next_state a in
    let c = next_state b in
    let d = next_state c in
    (record { time = time_by index a; value = Bid (b % (2 * ten_of index + 2)) (c % (ten_of index + 1)) (1 + d % 1000) }, d)

-- the event of an index where the last draw was x, and the last draw after it: of every ten one person, two auctions, seven bids
abbrev pub event_at : ℕ → ℕ → Event × ℕ
event_at index x =
    if index % 10 == 0 then person_at index x
    else (if index % 10 == 1 || index % 10 == 2 then auction_at index x else bid_at index x)

-- so many events from an index on
abbrev pub events_from : ℕ → ℕ → ℕ → List Event
events_from index zero x = []
events_from index (suc n) x = (event_at index x).0 ∷ events_from (index + 1) n (event_at index x).1

-- so many events from a seed
abbrev pub made_events : ℕ → ℕ → List Event
made_events count seed = events_from 0 count (first_state seed)
