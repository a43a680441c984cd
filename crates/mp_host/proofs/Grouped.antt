-- What a host is once the first group is applied to the state of its key's bin.
use Rattle.std.proofs.Common.{◌≡◌, ◌≢◌, ◌<◌, ℕ, suc, ◌==◌, Bool, List, [], ◌∷◌, ◌++◌, All, Contains, IsSome, filter, not, sym, ◌∙◌, subst, inr, ⊎_elim, length, refl, arith, length-append}
use Rattle.std.proofs.lemmas.Bool.{and_parts, cond-true, eqb-true}
use Rattle.std.proofs.lemmas.List.{drop_at, get_or_at, take_at}
use Rattle.std.proofs.lemmas.List.Elements.{All-append, All-cons, All-contains, All-drop, All-take}
use Rattle.mp_names.specs.Outlines.{IsBeforeStop, is_before_stop}
use Rattle.mp_names.proofs.Listed.{before_stop-from}
use Rattle.mp_bins.specs.Bins.{bin_of_key}
use Rattle.mp_model.specs.declared.record.Rec.{Rec}
use Rattle.mp_model.specs.Entry.{Entry}
use Rattle.mp_model.specs.Facts.{JobFacts, QueryFacts}
use Rattle.mp_model.specs.Stages.{stage_records}
use Rattle.mp_model.specs.Tables.{table_of}
use Rattle.mp_job.proofs.Members.{Contains-filter, Contains-flat_map}
use Rattle.mp_outline.proofs.Found.{found}
use Rattle.mp_msg.specs.Contents.{IsRecordOf}
use Rattle.mp_postdated.specs.Wakes.{Has, IsWake}
use Rattle.mp_host_laws.specs.declared.held.Held.{Held}
use Rattle.mp_host_laws.specs.Hosted.{Hosted, began_before, cell_at, has_wake_at, is_held_before, is_of, records_of, state_at, wakes_in}
use Rattle.mp_host_laws.specs.Applying.{FirstIsChanged, IsApplied, group_here, posts_here}
use Rattle.mp_host_laws.proofs.Waiting.{from_is_of}
use Rattle.mp_host_states.specs.States.{StateIsStepped, States, cell_for, state_for}
use Rattle.mp_host.specs.Hosts.{IsHosted, MayBeHeld}
use Rattle.mp_host.proofs.Kept.{states_fit}

-- the group that is made of its parts
pub group_is : {Cell : Type 0} (h : Hosted Cell) (t k : ℕ) (e : Entry) (woken : Bool) (recs : List Rec)
    → e ≡ record { time = t; key = k; woken = woken; recs = recs } → woken ≡ has_wake_at h t k → recs ≡ records_of h t k → e ≡ group_here h t k
group_is h t k e woken recs is a b = is ∙ rw (a, b) refl

-- what the group finds is what the host has of its bin
module _ {Cell : Type 0} (h : Hosted Cell) (states : States Cell) (held : h.held ≡ states.held) {bins : ℕ} (same : states.bins ≡ bins) where
  pub cell_here : (fresh : Cell) (t k : ℕ) → cell_for fresh states t k ≡ cell_at fresh bins h t k
  cell_here fresh t k = rw (held, ← same) refl

  pub found_here : (t k : ℕ) → IsSome (state_at h (bin_of_key k bins) t) → IsSome (state_for states t k)
  found_here t k some = rw (held, ← same) at some

-- a step is of the query as it is of its table in a job
module _ {Cell : Type 0} (facts : List ℕ → QueryFacts Cell) (job : JobFacts) (j : ℕ) (group : Entry) (posts : List ℕ) where
  state_stepped : (old new : Held Cell) → StateIsStepped (facts job.values) j group posts old new → StateIsStepped (table_of facts job) j group posts old new
  state_stepped old new stepped = record {
    takes = record { bin = stepped.takes.bin; since = stepped.takes.since; wakes = stepped.takes.wakes; cells = stepped.takes.cells };
    order = stepped.order;
    kept = stepped.kept;
  }

  pub table_stepped : {passes : Held Cell → Bool} {old new : List (Held Cell)} → FirstIsChanged passes (StateIsStepped (facts job.values) j group posts) old new
      → FirstIsChanged passes (StateIsStepped (table_of facts job) j group posts) old new
  table_stepped stepped = record {
    front = stepped.front;
    one = stepped.one;
    rest = stepped.rest;
    changed = stepped.changed;
    was = stepped.was;
    is = stepped.is;
    none_before = stepped.none_before;
    found = stepped.found;
    how = state_stepped stepped.one stepped.changed stepped.how;
  }

-- a group that is before the stop time gives what the query says
pub gives_all : {Cell : Type 0} (facts : List ℕ → QueryFacts Cell) (job : JobFacts) (j : ℕ) (cell : Cell) (e : Entry) → IsBeforeStop job.until e.time → (table_of facts job).gives j cell e ≡ (facts job.values).gives j cell e
gives_all facts job j cell e early = cond-true (is_before_stop job.until e.time) ((facts job.values).gives j cell e) [] (before_stop-from job.until e.time early)

-- so what is stepped is what the host has
pub stepped_here : {Cell : Type 0} (q : QueryFacts Cell) (h : Hosted Cell) (t k : ℕ) (states : States Cell) {bins : ℕ} → states.bins ≡ bins
    → (group : Entry) → group ≡ group_here h t k → (posts : List ℕ) → posts ≡ posts_here q h t k → {held : List (Held Cell)}
    → FirstIsChanged (is_held_before (bin_of_key group.key states.bins) (suc group.time)) (StateIsStepped q h.stage group posts) states.held held
    → FirstIsChanged (is_held_before (bin_of_key k bins) (suc t)) (StateIsStepped q h.stage (group_here h t k) (posts_here q h t k)) states.held held
stepped_here q h t k states {bins} same group is posts told {held} stepped =
    let there = subst (λ (e : Entry). FirstIsChanged (is_held_before (bin_of_key e.key states.bins) (suc e.time)) (StateIsStepped q h.stage e posts) states.held held) is stepped in
    let here = subst (λ (n : ℕ). FirstIsChanged (is_held_before (bin_of_key k n) (suc t)) (StateIsStepped q h.stage (group_here h t k) posts) states.held held) same there in
    subst (λ (us : List ℕ). FirstIsChanged (is_held_before (bin_of_key k bins) (suc t)) (StateIsStepped q h.stage (group_here h t k) us) states.held held) told here

-- the parts of a list of which all fit
module _ {X : Type 0} (P : X → Type 0) (front : List X) (one : X) (rest : List X) (all : All P (front ++ one ∷ rest)) where
  front_fits : All P front
  front_fits = subst (All P) (take_at front (one ∷ rest) (length front) refl) (All-take P (length front) (front ++ one ∷ rest) all)

  middle_fits : P one
  middle_fits =
      let count = length-append front (one ∷ rest) in
      subst P (get_or_at front one rest one (length front) refl) (all (length front) one (omega arith))

  rest_fits : All P rest
  rest_fits =
      let more : All P (one ∷ rest) = subst (All P) (drop_at front (one ∷ rest) (length front) refl) (All-drop P (length front) (front ++ one ∷ rest) all) in
      λ k d l. more (suc k) d (omega arith)

module _ {Cell : Type 0} (q : QueryFacts Cell) (job its : JobFacts) (h : Hosted Cell) (hosted : IsHosted q job its h) (t k : ℕ) (held : List (Held Cell))
    (stepped : FirstIsChanged (is_held_before (bin_of_key k job.shape.bins) (suc t)) (StateIsStepped q h.stage (group_here h t k) (posts_here q h t k)) h.held held) where
  old_fit : All (MayBeHeld q job h.stage) (stepped.front ++ stepped.one ∷ stepped.rest)
  old_fit = subst (All (MayBeHeld q job h.stage)) stepped.was (states_fit q job its h hosted)

  one_fits : MayBeHeld q job h.stage stepped.one
  one_fits = middle_fits (MayBeHeld q job h.stage) stepped.front stepped.one stepped.rest old_fit

  -- the state is of the key's bin
  its_bin : stepped.one.bin ≡ bin_of_key k job.shape.bins
  its_bin = eqb-true stepped.one.bin (bin_of_key k job.shape.bins) (and_parts (stepped.one.bin == bin_of_key k job.shape.bins) (began_before (suc t) stepped.one.since) stepped.found).0

  key_of_bin : (l : ℕ) → l ≡ k → bin_of_key l job.shape.bins ≡ stepped.changed.bin
  key_of_bin l e = subst (λ (m : ℕ). bin_of_key m job.shape.bins ≡ stepped.changed.bin) (sym e) (sym (stepped.how.takes.bin ∙ its_bin))

  posted_here : (u : ℕ) → Contains (posts_here q h t k) u → (r : Rec) × Contains (stage_records q job.events h.stage) r × (r.key ≡ k) × Contains (q.posts h.stage r) u
  posted_here u i =
      let a = found (λ (r : Rec). Contains (q.posts h.stage r) u) (records_of h t k) (Contains-flat_map (q.posts h.stage) (records_of h t k) u i) in
      let b = Contains-filter (is_of t k) h.records a.0 a.1 in
      (a.0, (All-contains (IsRecordOf q job h.stage) h.records a.0 hosted.order.content b.0).1, (from_is_of t k a.0 b.1).1, a.2)

  changed_fits : MayBeHeld q job h.stage stepped.changed
  changed_fits =
      let fits = one_fits in
      let how = stepped.how in
      record {
        denotes = record {
          bin = subst (λ (b : ℕ). b < job.shape.bins) (sym how.takes.bin) fits.denotes.bin;
          order = how.order;
          own = record {
            cells = λ l c i.
                ⊎_elim
                (λ (old : Contains stepped.one.state.cells (l, c)). let own = fits.denotes.own.cells l c old in (own.0 ∙ sym how.takes.bin, own.1))
                (λ (new : (l ≡ k) × (c ≢ q.fresh h.stage)). (key_of_bin l new.0, new.1))
                (how.kept l c i);
            wakes = λ u l i.
                ⊎_elim
                (λ (old : Has (wakes_in stepped.one) u l × (IsWake t k (u, l) → ⊥)). fits.denotes.own.wakes u l old.0 ∙ sym how.takes.bin)
                (λ (new : (l ≡ k) × Contains (posts_here q h t k) u). key_of_bin l new.0)
                ((how.takes.wakes u l).0 i);
          };
        };
        caused = λ u l i.
            ⊎_elim
            (λ (old : Has (wakes_in stepped.one) u l × (IsWake t k (u, l) → ⊥)). fits.caused u l old.0)
            (λ (new : (l ≡ k) × Contains (posts_here q h t k) u). let r = posted_here u new.1 in inr (r.0, r.1, r.2 ∙ sym new.0, r.3))
            ((how.takes.wakes u l).0 i);
      }

  -- the states are such as a host may have then
  pub stepped_fit : All (MayBeHeld q job h.stage) held
  stepped_fit =
      let P = MayBeHeld q job h.stage in
      subst (All P) (sym stepped.is)
      (All-append P stepped.front (stepped.changed ∷ stepped.rest) (front_fits P stepped.front stepped.one stepped.rest old_fit)
      (All-cons P stepped.changed stepped.rest changed_fits (rest_fits P stepped.front stepped.one stepped.rest old_fit)))

  -- and the group is applied
  pub group_applied : (new : Hosted Cell) → new.stage ≡ h.stage → new.worker ≡ h.worker → new.records ≡ filter (λ r. not (is_of t k r)) h.records → new.held ≡ held → IsApplied q job t k h new
  group_applied new stage worker records is = record {
    stage = stage;
    worker = worker;
    records = records;
    held = record {
      front = stepped.front;
      one = stepped.one;
      rest = stepped.rest;
      changed = stepped.changed;
      was = stepped.was;
      is = is ∙ stepped.is;
      none_before = stepped.none_before;
      found = stepped.found;
      how = stepped.how.takes;
    };
  }
