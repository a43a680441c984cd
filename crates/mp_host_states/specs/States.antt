-- What contracts see of the states of bins in hand.
use Rattle.std.specs.Prelude.{◌≡◌, ◌≢◌, ◌<◌, ◌==◌, ◌&&◌, ◌||◌, ◌⊎◌, ℕ, suc, All, Bool, Contains, List, Option, drop, find, length, take}
use Rattle.std.specs.List.{list_any}
use Rattle.std.specs.Option.{option_map_or}
use Rattle.mp_bins.specs.Bins.{IsBinCount, bin_of_key}
use Rattle.mp_model.specs.Entry.{Entry}
use Rattle.mp_model.specs.Facts.{QueryFacts}
use Rattle.mp_msg.specs.States.{IsInOrder, cell_in}
use Rattle.mp_host_laws.specs.declared.held.Held.{Held}
use Rattle.mp_host_laws.specs.Applying.{StateTakes}
use Rattle.mp_host_laws.specs.Hosted.{has_wake_in, is_held_before}
use Rattle.mp_host_places.specs.declared.spans.Span.{Span}
use Rattle.mp_host_places.specs.FirstWakes.{AreFirsts}
use Rattle.mp_host_places.specs.Spans.{AreSpans, bins_of}

-- of how many bins they are, the states, and for how many more there is room
pub record States (Cell : Type 0) : Type 0 where
  pub bins : ℕ
  pub held : List (Held Cell)
  pub room : ℕ

module _ {Cell : Type 0} where
  -- the first state of a key's bin that began by a time
  abbrev pub state_for : States Cell → ℕ → ℕ → Option (Held Cell)
  state_for s t k = find (is_held_before (bin_of_key k s.bins) (suc t)) s.held

  -- the key's cell there, else the fresh one
  abbrev pub cell_for : Cell → States Cell → ℕ → ℕ → Cell
  cell_for fresh s t k = option_map_or (λ h. cell_in fresh h.state.cells k) (state_for s t k) fresh

  -- a state of the key's bin that stands in front of the one place, or from the other place on, has the wake of the key at a time
  abbrev pub has_own_wake_beside : States Cell → ℕ → ℕ → ℕ → ℕ → Bool
  has_own_wake_beside s from to t k =
      list_any (λ h. h.bin == bin_of_key k s.bins && has_wake_in t k h) (take from s.held)
      || list_any (λ h. h.bin == bin_of_key k s.bins && has_wake_in t k h) (drop to s.held)

  -- Each state is of one of the bins, and the spans and the first wakes are those of the states
  pub record AreFound (bins : ℕ) (spans : List Span) (firsts : List (Option (ℕ × ℕ))) (held : List (Held Cell)) : Type 0 where
    pub count : IsBinCount bins
    pub inside : All (λ s. s.bin < bins) held
    pub each_bin : length spans ≡ bins
    pub places : AreSpans spans (bins_of held)
    pub wakes : AreFirsts bins firsts held

  -- the state takes the group and stays in order, and of the cells only the key's is new, and only where it isn't fresh
  pub record StateIsStepped (q : QueryFacts Cell) (j : ℕ) (group : Entry) (posts : List ℕ) (old new : Held Cell) : Type 0 where
    pub takes : StateTakes q j group posts old new
    pub order : IsInOrder new.state
    pub kept : (l : ℕ) (c : Cell) → Contains new.state.cells (l, c) → Contains old.state.cells (l, c) ⊎ ((l ≡ group.key) × (c ≢ q.fresh j))
