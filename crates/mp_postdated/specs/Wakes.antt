-- Wakes as pairs of a time and a key.
use Rattle.std.specs.Prelude.{◌≡◌, ◌<◌, ◌≤◌, ◌⊎◌, ℕ, ◌==◌, ◌&&◌, not, filter, List, [], ◌∷◌, Contains, IfSome, slice_get}
use Rattle.std.specs.BinaryHeap.{IsHeap}
use Rattle.std.specs.BTreeSet.{insert_key}
use Rattle.std.specs.List.Sorted.{IsStrictlySortedBy}
use Rattle.std.specs.Ordering.{nat_cmp, ordering_then}
use Rattle.std.specs.declared.cmp.Ordering.{Ordering}
use Rattle.std.specs.declared.cmp.Reverse.{Reverse}

-- the order of wakes: by time, then by key
abbrev pub wake_cmp : ℕ × ℕ → ℕ × ℕ → Ordering
wake_cmp v w = ordering_then (nat_cmp v.0 w.0) (nat_cmp v.1 w.1)

-- each wake once, ascending
abbrev pub IsAscending : List (ℕ × ℕ) → Type 0
IsAscending ws = IsStrictlySortedBy wake_cmp ws

-- the wake of this key at this time
abbrev pub IsWake : ℕ → ℕ → ℕ × ℕ → Type 0
IsWake t k w = (w.0 ≡ t) × (w.1 ≡ k)

-- the wake is of this key, at one of these times
abbrev pub IsAmongWakes : List ℕ → ℕ → ℕ × ℕ → Type 0
IsAmongWakes ts k w = Contains ts w.0 × (w.1 ≡ k)

-- the first of the two wakes isn't after the other
abbrev pub ComesNoLater : ℕ × ℕ → ℕ × ℕ → Type 0
ComesNoLater v w = (v.0 < w.0) ⊎ ((v.0 ≡ w.0) × (v.1 ≤ w.1))

-- the key is to be woken at the time
abbrev pub Has : List (ℕ × ℕ) → ℕ → ℕ → Type 0
Has ws t k = Contains ws (t, k)

-- the wakes with that of a key at a time at its place, where it isn't there yet
abbrev pub with_wake : List (ℕ × ℕ) → ℕ → ℕ → List (ℕ × ℕ)
with_wake ws t k = insert_key wake_cmp ws (t, k)

-- the wakes but for that of a key at a time
abbrev pub without_wake : List (ℕ × ℕ) → ℕ → ℕ → List (ℕ × ℕ)
without_wake ws t k = filter (λ w. not (w.0 == t && w.1 == k)) ws

-- the wakes of a list, each once, ascending
abbrev pub ordered : List (ℕ × ℕ) → List (ℕ × ℕ)
ordered [] = []
ordered (w ∷ ws) = insert_key wake_cmp (ordered ws) w

-- What contracts see of wakes: each once, ascending, and for how many more there is room
pub record Postdated : Type 0 where
  pub wakes : List (ℕ × ℕ)
  pub room : ℕ

-- a wake as it stands in a queue
abbrev pub reversed : ℕ × ℕ → Reverse (ℕ × ℕ)
reversed w = record { 0 = w }

-- of two wakes in a queue the earlier one is the greater
abbrev pub queue_cmp : Reverse (ℕ × ℕ) → Reverse (ℕ × ℕ) → Ordering
queue_cmp v w = wake_cmp w.0 v.0

-- the first in the queue, if there is one, is live
abbrev pub BeginsLive : List (ℕ × ℕ) → List (Reverse (ℕ × ℕ)) → Type 0
BeginsLive live queue = IfSome (slice_get queue 0) (λ r. Contains live r.0)

-- each live wake is in the queue
abbrev pub AreQueued : List (ℕ × ℕ) → List (Reverse (ℕ × ℕ)) → Type 0
AreQueued live queue = (w : ℕ × ℕ) → Contains live w → Contains queue (reversed w)

-- How live wakes stand in a queue: a heap that begins with one of them
pub record IsQueueOf (live : List (ℕ × ℕ)) (queue : List (Reverse (ℕ × ℕ))) : Type 0 where
  pub heap : IsHeap queue_cmp queue
  pub all : AreQueued live queue
  pub first : BeginsLive live queue
