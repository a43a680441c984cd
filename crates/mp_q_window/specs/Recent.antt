-- What is made of the times of the bids on an auction.
use Rattle.std.specs.Prelude.{ℕ, ◌-◌, ◌++◌, ◌==◌, ◌&&◌, Bool, true, Option, Some, None, List, [], ◌∷◌, filter, if◌then◌else◌, length, nat_le, nat_lt}
use Rattle.std.specs.List.{filter_map}
use Rattle.mp_names.specs.Limits.{greatest_time, most_events}
use Rattle.mp_saved.specs.Numbers.{numbers_text}
use Rattle.mp_model.specs.declared.record.Rec.{Rec}
use Rattle.mp_model.specs.declared.value.Value.{Value}
use Rattle.mp_model.specs.declared.value.Value.TheVariants.{Bid, Count}
use Rattle.mp_model.specs.Entry.{Entry}

-- the time of a bid
abbrev pub bid_time : ℕ → Value → Option ℕ
bid_time t (Bid auction bidder price) = Some t
bid_time t _ = None

-- the times of the bids among records, in order
abbrev pub times_of : List Rec → List ℕ
times_of rs = filter_map (λ r. bid_time r.time r.value) rs

-- the times that are not before this one
abbrev pub since : ℕ → List ℕ → List ℕ
since first times = filter (λ t. nat_le first t) times

-- the times that stay when the records of a group come: where it ends a window, those of this span before its end
abbrev pub kept_by : ℕ → List ℕ → Entry → List ℕ
kept_by span times e = if e.woken then since (e.time - span) times else times

-- the times after a group, whose bids come after those that stay
abbrev pub after_group : ℕ → List ℕ → Entry → List ℕ
after_group span times e = kept_by span times e ++ times_of e.recs

-- the count of an auction's bids, where it had some
abbrev pub count_row : ℕ → ℕ → Option Value
count_row auction count = if count == 0 then None else Some (Count auction count)

-- the count of the window that a group ends, which holds the times of this span before its end
abbrev pub count_in : ℕ → List ℕ → Entry → Option Value
count_in span times e = if e.woken then count_row e.key (length (since (e.time - span) times)) else None

-- Saved times

-- the text of a cell: its times
abbrev pub text_of : ℕ → List ℕ → List ℕ
text_of j times = numbers_text times

-- the times that numbers say, if they are read
abbrev pub times_said : Option (List ℕ) → List ℕ
times_said None = []
times_said (Some ns) = ns

-- each time is below t, and not less than the one before
abbrev pub are_times : ℕ → ℕ → List ℕ → Bool
are_times low t [] = true
are_times low t (n ∷ ns) = nat_le low n && nat_lt n t && nat_le n greatest_time && are_times n t ns

-- one or more such times may be saved at t, and no more than events of a file
abbrev pub is_legal : ℕ → List ℕ → Bool
is_legal t times = nat_lt 0 (length times) && nat_le (length times) most_events && are_times 0 t times
