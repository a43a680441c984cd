-- The keys and posts of q3 and q8.
use Rattle.std.specs.Prelude.{ℕ, ◌+◌, ◌*◌, ◌/◌, ◌==◌, ◌||◌, Bool, Option, Some, None, List, [], ◌∷◌, codes, if◌then◌else◌}
use Rattle.std.specs.Str.{bytes_eq}
use Rattle.mp_model.specs.declared.record.Rec.{Rec}
use Rattle.mp_model.specs.declared.value.Value.{Value}
use Rattle.mp_model.specs.declared.value.Value.TheVariants.{Auction, Person}

-- the states whose persons q3 asks for
abbrev pub is_asked_for : List ℕ → Bool
is_asked_for state = bytes_eq state (codes "OR") || bytes_eq state (codes "ID") || bytes_eq state (codes "CA")

-- the seller of an auction of the wanted category, and the id of a person of one of those states
abbrev pub seller_asked_for : ℕ → Value → Option ℕ
seller_asked_for wanted (Person id name city state) = if is_asked_for state then Some id else None
seller_asked_for wanted (Auction id seller category reserve expires) = if category == wanted then Some seller else None
seller_asked_for wanted _ = None

-- the seller of an auction, and the id of a person
abbrev pub seller_of : Value → Option ℕ
seller_of (Person id name city state) = Some id
seller_of (Auction id seller category reserve expires) = Some seller
seller_of _ = None

-- the end of the day of a time, where a day has so many units of time
abbrev pub end_of_day : ℕ → ℕ → ℕ
end_of_day width t = (t / width + 1) * width

-- the time that a value of a time posts: a person and an auction post the end of its day
abbrev pub day_of_value : ℕ → ℕ → Value → List ℕ
day_of_value width t (Person id name city state) = end_of_day width t ∷ []
day_of_value width t (Auction id seller category reserve expires) = end_of_day width t ∷ []
day_of_value width t _ = []

-- the time that a record posts; later stages post nothing
abbrev pub posts_of : ℕ → ℕ → Rec → List ℕ
posts_of width j r = if j == 0 then day_of_value width r.time r.value else []
