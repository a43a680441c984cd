-- The keys that wait at a time: those to be woken, told one state after the other, and the others, told one record after the other; and what waits by some of the states.
use Rattle.std.specs.Prelude.{ℕ, ◌==◌, ◌&&◌, ◌||◌, ◌++◌, Bool, false, not, cond, Option, None, Some, List, [], ◌∷◌, drop, filter, map, take}
use Rattle.std.specs.List.{list_any}
use Rattle.std.specs.Option.{option_map_or}
use Rattle.mp_model.specs.declared.record.Rec.{Rec}
use Rattle.mp_host_laws.specs.declared.held.Held.{Held}
use Rattle.mp_host_laws.specs.Hosted.{Hosted, has_wake_at, has_wake_in, is_of, wakes_in}

module _ {Cell : Type 0} where
  -- the wake is of the time, and none of these states has it
  abbrev pub is_new : ℕ → List (Held Cell) → ℕ × ℕ → Bool
  is_new t others w = w.0 == t && not (list_any (has_wake_in t w.1) others)

  -- the keys that a state has wakes of at the time, but for those of which one of the others has it, too
  abbrev pub new_keys : ℕ → Held Cell → List (Held Cell) → List ℕ
  new_keys t s others = map (λ w. w.1) (filter (is_new t others) (wakes_in s))

  -- the keys that the states have wakes of at the time, each once
  abbrev pub woken_keys : ℕ → List (Held Cell) → List ℕ
  woken_keys t [] = []
  woken_keys t (s ∷ ss) = new_keys t s ss ++ woken_keys t ss

module _ {Cell : Type 0} (h : Hosted Cell) where
  -- a state that stands in front of the one place, or from the other place on, has the wake of this key at this time
  abbrev pub is_woken_beside : ℕ → ℕ → ℕ → ℕ → Bool
  is_woken_beside from to t k = list_any (has_wake_in t k) (take from h.held) || list_any (has_wake_in t k) (drop to h.held)

  -- the group of this key at this time waits by a record, or by the wake of such a state
  abbrev pub waits_beside : ℕ → ℕ → ℕ → ℕ → Bool
  waits_beside from to t k = list_any (is_of t k) h.records || is_woken_beside from to t k

module _ {Cell : Type 0} (h : Hosted Cell) (t : ℕ) where
  -- the record is of the time, its key isn't to be woken then, and the one before it isn't of that group
  abbrev pub begins_unwoken : Option Rec → Rec → Bool
  begins_unwoken last r = r.time == t && (not (has_wake_at h t r.key) && not (option_map_or (is_of t r.key) last false))

  -- the keys of such records, where the last one before them is this
  abbrev pub unwoken_after : Option Rec → List Rec → List ℕ
  unwoken_after last [] = []
  unwoken_after last (r ∷ rs) = cond (begins_unwoken last r) (r.key ∷ unwoken_after (Some r) rs) (unwoken_after (Some r) rs)

  -- the keys of such records, where there is none before them
  abbrev pub unwoken_keys : List Rec → List ℕ
  unwoken_keys rs = unwoken_after None rs
