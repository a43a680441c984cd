-- A new host holds what the empty log says: of each bin whose first owner its worker is what the job begins with.
use Rattle.std.proofs.Common.{◌≡◌, ◌≢◌, ◌↔◌, ◌⊎◌, ℕ, zero, suc, ◌<◌, ◌≤◌, ◌+◌, ◌==◌, false, Option, None, Some, List, [], ◌∷◌, All, AllPairs, Any, Contains, filter, map, refl, sym, ap, ◌∙◌, subst, inl, ⊎_elim, arith}
use Rattle.std.specs.List.{range_with_len}
use Rattle.std.proofs.lemmas.Bool.{eq-eqb, eqb-true, false≢true}
use Rattle.std.proofs.lemmas.List.Elements.{All-contains}
use Rattle.mp_names.specs.declared.names.Name.TheVariants.{Group}
use Rattle.mp_names.specs.Names.{has}
use Rattle.mp_names.specs.Logs.{empty_log}
use Rattle.mp_bins.specs.Bins.{bin_of_key}
use Rattle.mp_bins.specs.Notes.{first_owner}
use Rattle.mp_model.specs.declared.record.Rec.{Rec}
use Rattle.mp_model.specs.Entry.{Entry}
use Rattle.mp_model.specs.Facts.{JobFacts, QueryFacts}
use Rattle.mp_model.specs.Folds.{fold_of}
use Rattle.mp_job.proofs.Members.{Contains-cases, Contains-filter, Contains-here, Contains-later, Contains-map, filter-Contains, map-Contains, nothing_in_nil}
use Rattle.mp_job.specs.Legal.{JobIsLegal}
use Rattle.mp_outline.specs.JobOutline.{layout_of}
use Rattle.mp_outline.specs.Laws.{timeline_of}
use Rattle.mp_outline.proofs.Found.{found, found_there}
use Rattle.mp_outline.proofs.Pairs.{AllPairs-Pairs, Pairs, Pairs-filter, Pairs-weaker}
use Rattle.mp_postdated.specs.Wakes.{Has}
use Rattle.mp_msg.specs.States.{IsOpening, IsPostedAt, IsStateAtFirst, cell_in}
use Rattle.mp_host_laws.specs.declared.held.Held.{Held}
use Rattle.mp_host_laws.specs.Hosted.{Hosted, IsNew, first_bins, wakes_in}
use Rattle.mp_host_laws.specs.HostOf.{CameInto, IsInHandSince, IsStateOf, IsWakeOf, OpensInto, is_taken_in}
use Rattle.mp_host_laws.specs.Laws.{NewHostsHoldTheOpening}
use Rattle.mp_host_laws.proofs.Lists.{All-each, filter_none}
use Rattle.mp_host_laws.proofs.Holding.{AreApart, IsSince}

-- Numbers from one on

in_range : (a n x : ℕ) → Contains (range_with_len a n) x → (a ≤ x) × (x < a + n)
in_range a zero x i = absurd (nothing_in_nil x i)
in_range a (suc n) x i =
    ⊎_elim
    (λ (e : a ≡ x). (omega arith, omega arith))
    (λ (k : Contains (range_with_len (a + 1) n) x). let r = in_range (a + 1) n x k in let low : a + 1 ≤ x = r.0 in let high : x < a + 1 + n = r.1 in (omega arith, omega arith))
    (Contains-cases a x (range_with_len (a + 1) n) i)

range_has : (a n x : ℕ) → a ≤ x → x < a + n → Contains (range_with_len a n) x
range_has a zero x low high = absurd (omega arith)
range_has a (suc n) x low high =
    ⊎_elim
    (λ (e : a ≡ x). subst (λ (y : ℕ). Contains (a ∷ range_with_len (a + 1) n) y) e (Contains-here a (range_with_len (a + 1) n)))
    (λ (l : a < x). Contains-later a x (range_with_len (a + 1) n) (range_has (a + 1) n x (omega arith) (omega arith)))
    (first_or_later a x low)
  where
    first_or_later : (a x : ℕ) → a ≤ x → (a ≡ x) ⊎ (a < x)
    first_or_later a x low = grind arith

range_rises : (a n : ℕ) → Pairs (λ x y. x < y) (range_with_len a n)
range_rises a zero = tt
range_rises a (suc n) = ((λ y i. let low : a + 1 ≤ y = (in_range (a + 1) n y i).0 in omega arith), range_rises (a + 1) n)

-- what holds between what elements are mapped to, in their order, holds between them
Pairs-mapped : {X Y : Type 0} (f : X → Y) (R : Y → Y → Type 0) (xs : List X) → Pairs R (map f xs) → Pairs (λ x y. R (f x) (f y)) xs
Pairs-mapped f R [] h = tt
Pairs-mapped {X} {Y} f R (x ∷ xs) h =
    ((λ y i. h.0 (f y) (map-Contains f xs (f y) (found_there (λ (z : X). f z ≡ f y) xs y i refl))), Pairs-mapped f R xs h.1)

-- The bins whose first owner a worker is

module _ (job : JobFacts) (j w : ℕ) where
  pub first_bin_is : (b : ℕ) → Contains (first_bins job j w) b → (b < job.shape.bins) × (first_owner (layout_of job) j b ≡ w)
  first_bin_is b i =
      let a = Contains-filter (λ (c : ℕ). first_owner (layout_of job) j c == w) (range_with_len 0 job.shape.bins) b i in
      let high : b < 0 + job.shape.bins = (in_range 0 job.shape.bins b a.0).1 in
      (omega arith, eqb-true (first_owner (layout_of job) j b) w a.1)

  pub is_first_bin : (b : ℕ) → b < job.shape.bins → first_owner (layout_of job) j b ≡ w → Contains (first_bins job j w) b
  is_first_bin b l e =
      filter-Contains (λ (c : ℕ). first_owner (layout_of job) j c == w) (range_with_len 0 job.shape.bins) b (range_has 0 job.shape.bins b (omega arith) (omega arith)) (eq-eqb (first_owner (layout_of job) j b) w e)

  pub first_bins_rise : Pairs (λ x y. x < y) (first_bins job j w)
  first_bins_rise =
      Pairs-filter (λ (x y : ℕ). x < y) (λ (b : ℕ). first_owner (layout_of job) j b == w) (range_with_len 0 job.shape.bins) (range_rises 0 job.shape.bins)

module _ {Cell : Type 0} (q : QueryFacts Cell) (job : JobFacts) where
  -- What a bin begins with is what the empty log says

  module _ (j : ℕ) (s : Held Cell) (first : IsStateAtFirst q job j s.bin s.state) where
    first_wakes : (u k : ℕ) → bin_of_key k job.shape.bins ≡ s.bin → (Has (wakes_in s) u k ↔ ((has empty_log.applied (Group j u k) ≡ false) × IsWakeOf q job empty_log j None k u))
    first_wakes u k own = (
      (λ i. (refl, inl ((first.wakes u k own).0 i, tt))),
      (λ a.
          ⊎_elim
          (λ (c : IsOpening q j k u × OpensInto None u). (first.wakes u k own).1 c.0)
          (λ (c : (v : ℕ) × IsPostedAt q job j k v u × CameInto empty_log j None k v u). absurd (false≢true c.2))
          a.1),
    )

    first_cells : (k : ℕ) → bin_of_key k job.shape.bins ≡ s.bin → cell_in (q.fresh j) s.state.cells k ≡ fold_of q j (q.opening j k) (filter (λ e. is_taken_in empty_log j None e.time k) (timeline_of q job j k))
    first_cells k own =
        first.cells k own ∙ sym (ap (fold_of q j (q.opening j k)) (filter_none (λ (e : Entry). is_taken_in empty_log j None e.time k) (timeline_of q job j k) (λ e i. refl)))

    first_is : s.since ≡ None → IsStateOf q job empty_log j s
    first_is none = record {
      wakes = λ u k own.
          subst (λ (a : Option ℕ). (Has (wakes_in s) u k ↔ ((has empty_log.applied (Group j u k) ≡ false) × IsWakeOf q job empty_log j a k u))) (sym none) (first_wakes u k own);
      cells = λ k own.
          subst (λ (a : Option ℕ). cell_in (q.fresh j) s.state.cells k ≡ fold_of q j (q.opening j k) (filter (λ (e : Entry). is_taken_in empty_log j a e.time k) (timeline_of q job j k))) (sym none) (first_cells k own);
    }

  -- The bins that are in hand

  module _ (h : Hosted Cell) (new : IsNew q job h) where
    since_first : (s : Held Cell) → Contains h.held s → s.since ≡ None
    since_first s i = All-contains (λ (r : Held Cell). r.since ≡ None) h.held s new.first i

    first_in_hand : (b : ℕ) (since : Option ℕ) → Any (IsSince b since) h.held → IsInHandSince q job h.worker empty_log h.stage b since
    first_in_hand b since held =
        let r = found (IsSince b since) h.held held in
        let there : Contains (map (λ (s : Held Cell). s.bin) h.held) b = map-Contains (λ (s : Held Cell). s.bin) h.held b (found_there (λ (s : Held Cell). s.bin ≡ b) h.held r.0 r.1 r.2.0) in
        let own = first_bin_is job h.stage h.worker b (subst (λ (bs : List ℕ). Contains bs b) new.bins there) in
        let none : None ≡ since = sym (since_first r.0 r.1) ∙ r.2.1 in
        subst (IsInHandSince q job h.worker empty_log h.stage b) none (own.0, own.1, (λ m. refl))

    in_hand_first : (b : ℕ) (since : Option ℕ) → IsInHandSince q job h.worker empty_log h.stage b since → Any (IsSince b since) h.held
    in_hand_first b None own =
        let there = subst (λ (bs : List ℕ). Contains bs b) (sym new.bins) (is_first_bin job h.stage h.worker b own.0 own.1) in
        let r = found (λ (s : Held Cell). s.bin ≡ b) h.held (Contains-map (λ (s : Held Cell). s.bin) h.held b there) in
        found_there (IsSince b None) h.held r.0 r.1 (r.2, since_first r.0 r.1)
    in_hand_first b (Some m) own = absurd (false≢true own.0)

    begun_once : AllPairs AreApart h.held
    begun_once =
        let rise = subst (Pairs (λ (x y : ℕ). x < y)) (sym new.bins) (first_bins_rise job h.stage h.worker) in
        AllPairs-Pairs AreApart h.held
        (Pairs-weaker (λ (r s : Held Cell). r.bin < s.bin) AreApart
        (λ r s l e. let same : r.bin ≡ s.bin = e.0 in omega arith)
        h.held (Pairs-mapped (λ (s : Held Cell). s.bin) (λ (x y : ℕ). x < y) h.held rise))

    begun_states : All (IsStateOf q job empty_log h.stage) h.held
    begun_states =
        All-each (IsStateOf q job empty_log h.stage) h.held (λ s i. first_is h.stage s (All-contains (λ (r : Held Cell). IsStateAtFirst q job h.stage r.bin r.state) h.held s new.states i) (since_first s i))

    none_waits : (r : Rec) → Contains h.records r → ⊥
    none_waits r i = nothing_in_nil r (subst (λ (rs : List Rec). Contains rs r) new.records i)

pub new_hosts_hold_the_opening : {Cell : Type 0} (q : QueryFacts Cell) (job : JobFacts) → JobIsLegal q job → NewHostsHoldTheOpening q job
new_hosts_hold_the_opening q job legal h new =
    record {
      moves = record { packets = λ b m n l i. absurd (false≢true i); groups = λ u k m l i. absurd (false≢true i) };
      records = λ r. ((λ i. absurd (none_waits q job h new r i)), (λ i. absurd (false≢true i.1)));
      once = subst (AllPairs (λ (r s : Rec). r ≢ s)) (sym new.records) (λ i k d l m. absurd (omega arith));
      held = λ b since. (first_in_hand q job h new b since, in_hand_first q job h new b since);
      held_once = begun_once q job h new;
      states = begun_states q job h new;
    }
