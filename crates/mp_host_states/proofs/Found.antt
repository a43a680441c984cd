-- What a group finds in hand, and what is in hand once a state is out, behind the others, or stepped.
use Rattle.std.proofs.Common.{◌≡◌, ◌≢◌, ◌↔◌, ◌⊎◌, ◌==◌, ◌++◌, ◌+◌, ◌<◌, ◌∙◌, ℕ, suc, All, Contains, IsSome, length, List, [], ◌∷◌, None, Option, Some, true, ap, cond, drop, get_or, position, refl, set, subst, sym, take}
use Rattle.std.specs.Prelude.{slice_get}
use Rattle.std.specs.Option.{option_map}
use Rattle.std.proofs.lemmas.Option.{slice_get-map, slice_get_read}
use Rattle.std.proofs.lemmas.List.{set-get_or, set_split}
use Rattle.std.proofs.lemmas.List.Elements.{All-append, All-drop, All-get_or, All-push, All-set, All-take}
use Rattle.std.proofs.lemmas.List.Sorted.{All-permutation}
use Rattle.mp_bins.specs.Bins.{bin_of_key}
use Rattle.mp_model.specs.Entry.{Entry}
use Rattle.mp_model.specs.Facts.{QueryFacts}
use Rattle.mp_msg.specs.States.{BinContent, IsInOrder, cell_in}
use Rattle.mp_postdated.specs.Wakes.{Has, IsWake}
use Rattle.mp_host_laws.specs.declared.held.Held.{Held}
use Rattle.mp_host_laws.specs.Applying.{FirstIsChanged}
use Rattle.mp_host_laws.specs.Hosted.{is_held_before}
use Rattle.mp_host_laws.specs.Moving.{last_first}
use Rattle.mp_host_laws.proofs.LastFirst.{same_items}
use Rattle.mp_host_places.specs.Spans.{bins_of, without}
use Rattle.mp_host_states.specs.States.{StateIsStepped, States, cell_for, state_for}
use Rattle.mp_host_states.proofs.Places.{around, no_place, place_is}

module _ {Cell : Type 0} where
  -- the bin of a state at its place
  pub bin_there : (held : List (Held Cell)) (at : ℕ) (one : Held Cell) → at < length held → one ≡ get_or held at one → slice_get (bins_of held) at ≡ Some one.bin
  bin_there held at one l is = slice_get-map (λ (s : Held Cell). s.bin) held at ∙ ap (option_map (λ (s : Held Cell). s.bin)) (slice_get_read held (length held) at one refl l is)

  -- what contracts see of equal parts
  pub same_states : (bins : ℕ) (h k : List (Held Cell)) (r s : ℕ) → h ≡ k → r ≡ s → ◌≡◌ {A = States Cell} (record { bins = bins; held = h; room = r }) (record { bins = bins; held = k; room = s })
  same_states bins h k r s e f = cc

module _ {Cell : Type 0} (bins : ℕ) (held : List (Held Cell)) (inside : All (λ s. s.bin < bins) held) where
  pub inside_without : (at : ℕ) → All (λ s. s.bin < bins) (without at held)
  inside_without at =
      let behind = All-permutation (λ s. s.bin < bins) (drop (at + 1) held) (last_first (drop (at + 1) held)) (same_items (drop (at + 1) held)) (All-drop (λ s. s.bin < bins) (at + 1) held inside) in
      All-append (λ s. s.bin < bins) (take at held) (last_first (drop (at + 1) held)) (All-take (λ s. s.bin < bins) at held inside) behind

  pub inside_with : (one : Held Cell) → one.bin < bins → All (λ s. s.bin < bins) (held ++ one ∷ [])
  inside_with one l = All-push (λ s. s.bin < bins) held one inside l

  pub inside_at : (at : ℕ) (one : Held Cell) → at < length held → one ≡ get_or held at one → one.bin < bins
  inside_at at one l is = subst (λ (s : Held Cell). s.bin < bins) (sym is) (All-get_or (λ s. s.bin < bins) held at one l inside)

  pub inside_changed : (at : ℕ) (one : Held Cell) → one.bin < bins → All (λ s. s.bin < bins) (set held at one)
  inside_changed at one l = All-set (λ s. s.bin < bins) held at one l inside

module _ {Cell : Type 0} (s : States Cell) (t k : ℕ) where
  -- a state that is in hand has a place
  pub has_place : IsSome (state_for s t k) → position (is_held_before (bin_of_key k s.bins) (suc t)) s.held ≡ None → ⊥
  has_place some e = is_none (state_for s t k) (no_place (is_held_before (bin_of_key k s.bins) (suc t)) s.held e) some
    where
      is_none : (o : Option (Held Cell)) → o ≡ None → IsSome o → ⊥
      is_none None f some = cc
      is_none (Some h) f some = cc

module _ {Cell : Type 0} (s : States Cell) (t k i : ℕ) (place : position (is_held_before (bin_of_key k s.bins) (suc t)) s.held ≡ Some i) (one : Held Cell) (is : one ≡ get_or s.held i one) where
  -- the key's cell is that in the state there
  pub cell_found : (fresh : Cell) → cell_for fresh s t k ≡ cell_in fresh one.state.cells k
  cell_found fresh = rw ((place_is (is_held_before (bin_of_key k s.bins) (suc t)) s.held i place one).found one, ← is) refl

  -- where that state is stepped the first that the group finds is
  pub first_stepped : (q : QueryFacts Cell) (j : ℕ) (group : Entry) (posts : List ℕ) (state : BinContent Cell)
      → ((u l : ℕ) → Has state.wakes u l ↔ ((Has one.state.wakes u l × (IsWake group.time group.key (u, l) → ⊥)) ⊎ ((l ≡ group.key) × Contains posts u)))
      → ((l : ℕ) → cell_in (q.fresh j) state.cells l ≡ cond (l == group.key) (q.step j (cell_in (q.fresh j) one.state.cells group.key) group) (cell_in (q.fresh j) one.state.cells l))
      → ((l : ℕ) (c : Cell) → Contains state.cells (l, c) → Contains one.state.cells (l, c) ⊎ ((l ≡ group.key) × (c ≢ q.fresh j)))
      → IsInOrder state
      → FirstIsChanged (is_held_before (bin_of_key k s.bins) (suc t)) (StateIsStepped q j group posts) s.held (set s.held i (record { bin = one.bin; since = one.since; state = state }))
  first_stepped q j group posts state wakes cells kept order =
      let at = place_is (is_held_before (bin_of_key k s.bins) (suc t)) s.held i place one in
      record {
        front = take i s.held;
        one = one;
        rest = drop (suc i) s.held;
        changed = record { bin = one.bin; since = one.since; state = state };
        was = around s.held i one at.inside ∙ ap (λ (x : Held Cell). take i s.held ++ x ∷ drop (suc i) s.held) (sym is);
        is = set_split s.held i (record { bin = one.bin; since = one.since; state = state }) at.inside;
        none_before = at.none_before;
        found = subst (λ (x : Held Cell). is_held_before (bin_of_key k s.bins) (suc t) x ≡ true) (sym is) (at.passes one);
        how = record { takes = record { bin = refl; since = refl; wakes = wakes; cells = cells }; order = order; kept = kept };
      }

-- a state that stayed as it was is put back
pub as_it_was : {Cell : Type 0} (held : List (Held Cell)) (at : ℕ) (one : Held Cell) (state : BinContent Cell) → one ≡ get_or held at one → state ≡ one.state → set held at (record one { state = state }) ≡ held
as_it_was held at one state is same = ap (λ s. set held at (record one { state = s })) same ∙ ap (set held at) is ∙ set-get_or held at one
