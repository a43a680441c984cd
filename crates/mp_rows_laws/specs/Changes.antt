-- What each step of a worker changes at the counts of outstanding work, as entries by location and time.
use Rattle.std.specs.Prelude.{◌≡◌, ◌≢◌, ℕ, suc, ◌+◌, ◌&&◌, ◌==◌, Bool, false, cond, if◌then◌else◌, List, [], ◌∷◌, ◌++◌, map, count_by, All, AllPairs, pos, negsuc, neg_ℤ}
use Rattle.std.specs.List.{sum_by}
use Rattle.mp_names.specs.declared.locations.Loc.{Loc}
use Rattle.mp_names.specs.declared.locations.Loc.TheVariants.{Ctl, CtlMail, Source, Route, Mail, Move, State, Host, OutRoute, OutMail}
use Rattle.mp_names.specs.declared.names.Name.{Name}
use Rattle.mp_names.specs.declared.names.Name.TheVariants.{Group, Rec, Row}
use Rattle.mp_names.specs.declared.pointstamps.Change.{Change}
use Rattle.mp_names.specs.Frontiers.{number_at}
use Rattle.mp_names.specs.Logs.{Log, is_pending, with_took}
use Rattle.mp_names.specs.Outlines.{Outline, groups_of}
use Rattle.mp_rows.specs.Entries.{change_at}

-- one more at a location and time
abbrev pub one_more : Loc → ℕ → Change
one_more loc t = change_at loc t (pos 1)

-- one less
abbrev pub one_less : Loc → ℕ → Change
one_less loc t = change_at loc t (negsuc 0)

-- so many more, where there are any
abbrev pub some_more : Loc → ℕ → ℕ → List Change
some_more loc t n = if n == 0 then [] else change_at loc t (pos n) ∷ []

-- Names that come and go

-- an event is ingested: its record is from now on the router's
abbrev pub ingested_at : ℕ → List Change
ingested_at t = one_less Source t ∷ one_more (Route 0) t ∷ []

-- a record is sent to a host of its stage
abbrev pub record_sent_at : ℕ → ℕ → List Change
record_sent_at j t = one_less (Route j) t ∷ one_more (Mail j) t ∷ []

-- so many records are sent to a host of their stage
abbrev pub records_sent_at : ℕ → ℕ → ℕ → List Change
records_sent_at j t n = change_at (Route j) t (neg_ℤ (pos n)) ∷ change_at (Mail j) t (pos n) ∷ []

-- an answer row is sent to worker 0
abbrev pub row_sent_at : ℕ → List Change
row_sent_at t = one_less OutRoute t ∷ one_more OutMail t ∷ []

-- a control record is sent to one worker
abbrev pub control_sent_at : ℕ → List Change
control_sent_at t = one_less Ctl t ∷ one_more CtlMail t ∷ []

-- a record is taken: its group waits from now on, unless it waited before
abbrev pub record_taken_at : ℕ → ℕ → Bool → List Change
record_taken_at j t waited = one_less (Mail j) t ∷ (if waited then [] else one_more (Host j) t ∷ [])

-- so many records are taken: so many groups wait from now on
abbrev pub records_taken_at : ℕ → ℕ → ℕ → ℕ → List Change
records_taken_at j t n groups = change_at (Mail j) t (neg_ℤ (pos n)) ∷ some_more (Host j) t groups

-- an answer row is taken
abbrev pub row_taken_at : ℕ → List Change
row_taken_at t = one_less OutMail t ∷ []

-- a control record is taken: its time is to be settled from now on, unless one of that stage and time was taken before
abbrev pub control_taken_at : ℕ → ℕ → Bool → List Change
control_taken_at j t noted = one_less CtlMail t ∷ (if noted then [] else one_more (Move j) t ∷ [])

-- a time is settled
abbrev pub settled_at : ℕ → ℕ → List Change
settled_at j t = one_less (Move j) t ∷ []

-- Groups

-- the group of the key at the time gives this record, or this answer row
abbrev pub is_output : ℕ → ℕ → Name → Bool
is_output t k (Rec j s l g) = t == s && k == g.0
is_output t k (Row s g) = t == s && k == g.0
is_output t k _ = false

-- what the groups of a stage give: the records of the next one, or, in the last, the answer rows
abbrev pub given_by : Outline → ℕ → List Name
given_by o j = if suc j == o.stages then o.rows else o.records (suc j)

-- where that is counted until it is sent, in a job of this many stages
abbrev pub location_after : ℕ → ℕ → Loc
location_after j stages = if suc j == stages then OutRoute else Route (suc j)

-- how many the group of the key at the time gives
abbrev pub outputs_of : Outline → ℕ → ℕ → ℕ → ℕ
outputs_of o j t k = count_by (is_output t k) (given_by o j)

-- a group is applied: it waits no longer, what it gives is the router's, and the key's groups at these times wait from now on
abbrev pub applied_at : Outline → ℕ → ℕ → ℕ → List ℕ → List Change
applied_at o j t k woken = one_less (Host j) t ∷ (some_more (location_after j o.stages) t (outputs_of o j t k) ++ map (one_more (Host j)) woken)

-- the group of a record
abbrev pub group_of : Name → Name
group_of (Rec j t k g) = Group j t k
group_of x = x

-- how many groups wait once these records are taken, one after the other, and didn't before
abbrev pub new_groups : Outline → ℕ → Log → List Name → ℕ
new_groups o w log [] = 0
new_groups o w log (x ∷ xs) = cond (is_pending o w log (group_of x)) 0 1 + new_groups o w (with_took log x) xs

-- Bins that move

-- how many the list of times and numbers has at a time
abbrev pub number_in : List (ℕ × ℕ) → ℕ → ℕ
number_in ns t = sum_by (λ n. cond (n.0 == t) n.1 0) ns

-- how many groups of a stage wait at a time
abbrev pub waiting_at : Outline → ℕ → Log → ℕ → ℕ → ℕ
waiting_at o w log j t = number_at o (is_pending o w log) t (groups_of o j)

-- at each time so many more groups of the stage wait by the second log as the list has, each time once and none with 0
pub record AreMore (o : Outline) (w j : ℕ) (fewer more : Log) (ns : List (ℕ × ℕ)) : Type 0 where
  pub numbers : (t : ℕ) → waiting_at o w more j t ≡ waiting_at o w fewer j t + number_in ns t
  pub once : AllPairs (λ m n. m.0 ≢ n.0) ns
  pub none_is_zero : All (λ n. n.1 ≢ 0) ns

-- a packet is sent: these groups, which waited by wakes that leave with it, wait no longer
abbrev pub packet_sent_at : ℕ → ℕ → List (ℕ × ℕ) → List Change
packet_sent_at j t left = one_more (State j) t ∷ map (λ n. change_at (Host j) n.0 (neg_ℤ (pos n.1))) left

-- a packet is taken: these groups wait from now on, by wakes that come with it
abbrev pub packet_taken_at : ℕ → ℕ → List (ℕ × ℕ) → List Change
packet_taken_at j t come = one_less (State j) t ∷ map (λ n. change_at (Host j) n.0 (pos n.1)) come
