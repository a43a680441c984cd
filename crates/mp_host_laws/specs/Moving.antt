-- What a host is after a bin was taken out, put back, or installed, and which groups come and go with it.
use Rattle.std.specs.Prelude.{◌≡◌, ◌≢◌, ℕ, true, false, not, cond, ◌==◌, Some, List, [], ◌∷◌, ◌++◌, All, AllPairs, count_by, filter, length, slice_index_or, take}
use Rattle.std.specs.List.{sum_by}
use Rattle.mp_msg.specs.States.{BinContent}
use Rattle.mp_host_laws.specs.declared.held.Held.{Held}
use Rattle.mp_host_laws.specs.Hosted.{Hosted, is_held_before, waits_at}

-- the last of some items, in front of the others
abbrev pub last_first : {X : Type 0} → List X → List X
last_first [] = []
last_first (x ∷ xs) = slice_index_or (x ∷ xs) (length xs) x ∷ take (length xs) (x ∷ xs)

module _ {Cell : Type 0} where
  -- The first state of the bin that began before the time is out, the last one in hand has its place, and all else is as it was
  pub record IsTakenOut (b t : ℕ) (one : Held Cell) (old new : Hosted Cell) : Type 0 where
    pub stage : new.stage ≡ old.stage
    pub worker : new.worker ≡ old.worker
    pub records : new.records ≡ old.records
    pub front : List (Held Cell)
    pub rest : List (Held Cell)
    pub was : old.held ≡ front ++ one ∷ rest
    pub is : new.held ≡ front ++ last_first rest
    pub none_before : All (λ s. is_held_before b t s ≡ false) front
    pub found : is_held_before b t one ≡ true

  -- the state is in hand beside the others, and all else is as it was
  pub record IsPutIn (one : Held Cell) (old new : Hosted Cell) : Type 0 where
    pub stage : new.stage ≡ old.stage
    pub worker : new.worker ≡ old.worker
    pub records : new.records ≡ old.records
    pub held : new.held ≡ old.held ++ one ∷ []

  -- the state as a packet of this bin and time brings it
  abbrev pub brought : ℕ → ℕ → BinContent Cell → Held Cell
  brought b t s = record { bin = b; since = Some t; state = s }

  -- the wakes of a state whose groups don't wait at a host
  abbrev pub not_waiting : Hosted Cell → BinContent Cell → List (ℕ × ℕ)
  not_waiting h s = filter (λ w. not (waits_at h w.0 w.1)) s.wakes

-- Numbers of groups by time: at each time as many as there are groups of that time, each time once and none with 0
pub record AreNumbersOf (groups : List (ℕ × ℕ)) (ns : List (ℕ × ℕ)) : Type 0 where
  pub numbers : (t : ℕ) → sum_by (λ n. cond (n.0 == t) n.1 0) ns ≡ count_by (λ g. g.0 == t) groups
  pub once : AllPairs (λ m n. m.0 ≢ n.0) ns
  pub none_is_zero : All (λ n. n.1 ≢ 0) ns
