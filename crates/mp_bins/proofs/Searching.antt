-- What a search of notes in order finds.
use Rattle.std.proofs.Common.{◌≡◌, ℕ, zero, suc, ◌-◌, ◌<◌, ◌≤◌, ◌⊎◌, true, false, not, ◌&&◌, ◌==◌, nat_lt, List, [], ◌∷◌, length, get_or, Option, None, Some, refl, sym, ap, ◌∙◌, subst, inl, inr, ⊎_elim, arith}
use Rattle.std.specs.List.{prefix_len}
use Rattle.std.specs.List.Sorted.{IsPartitionPoint, IsPartitionedBy}
use Rattle.std.specs.Option.{option_map_or}
use Rattle.std.proofs.lemmas.Bool.{and_from, and_parts, both_ways, cases_lt, eq-eqb, eqb-true, false_from_ne_true, lt-ltb, ltb-true, not-false, not-true, not_from_false}
use Rattle.std.proofs.lemmas.List.{length-map}
use Rattle.std.proofs.lemmas.List.Sums.{prefix_len-le-length}
use Rattle.mp_names.specs.declared.controls.Shape.{Shape}
use Rattle.mp_names.specs.declared.controls.Control.{Control}
use Rattle.mp_names.specs.Names.{is_before}
use Rattle.mp_names.specs.Controls.{control_of, is_below, last_below, owner_below, IsLastBelow}
use Rattle.mp_names.specs.Outlines.{Outline, owner_before}
use Rattle.mp_names.proofs.Owners.{owners_follow, move_found, Said, said}
use Rattle.mp_bins.specs.declared.owners.Note.{Note}
use Rattle.mp_bins.specs.Notes.{controls_in, rank_of_note, AreInOrder, AreWithin, IsSplitAt, no_note, note_at, place_of_note}
use Rattle.mp_ordered.proofs.Placing.{count_parts}
use Rattle.mp_bins.proofs.Ranks.{not_before_itself, not_back, upto_before, upto_both, head_upto, tail_upto, tail_before, parts}

-- a later note has no smaller rank
pub later_upto : (ns : List Note) → AreInOrder ns → (i k : ℕ) (d : Note) → i ≤ k → k < length ns → is_before (rank_of_note (get_or ns k d)) (rank_of_note (get_or ns i d)) ≡ false
later_upto [] h i k d l m = absurd (omega arith)
later_upto (n ∷ ns) h zero zero d l m = not_before_itself (rank_of_note n)
later_upto (n ∷ ns) h zero (suc k) d l m = h.0 k d (omega arith)
later_upto (n ∷ ns) h (suc i) zero d l m = absurd (omega arith)
later_upto (n ∷ ns) h (suc i) (suc k) d l m = later_upto ns h.1 i k d (omega arith) (omega arith)

-- those before a limit stand first, and so do those that aren't after it
pub before_stand_first : (ns : List Note) (limit : List ℕ) → AreInOrder ns → IsPartitionedBy (λ n. is_before (rank_of_note n) limit) ns
before_stand_first ns limit h i k d l m e = upto_before (rank_of_note (get_or ns i d)) (rank_of_note (get_or ns k d)) limit (later_upto ns h i k d l m) e

pub upto_stand_first : (ns : List Note) (limit : List ℕ) → AreInOrder ns → IsPartitionedBy (λ n. not (is_before limit (rank_of_note n))) ns
upto_stand_first ns limit h i k d l m e =
    let old = rank_of_note (get_or ns i d) in
    let new = rank_of_note (get_or ns k d) in
    not_from_false (is_before limit old) (upto_both old new limit (later_upto ns h i k d l m) (not-true (is_before limit new) e))

-- a limit parts the notes, and so does a note's place
pub limit_parts : (ns : List Note) (j b u : ℕ) → AreInOrder ns → IsSplitAt ns j b u (prefix_len (λ n. is_before (rank_of_note n) (j ∷ b ∷ u ∷ [])) ns)
limit_parts ns j b u h = count_parts (λ n. is_before (rank_of_note n) (j ∷ b ∷ u ∷ [])) ns (before_stand_first ns (j ∷ b ∷ u ∷ []) h)

pub place_parts : (ns : List Note) (note : Note) → AreInOrder ns → IsPartitionPoint (λ n. is_before (rank_of_note note) (rank_of_note n) ≡ false) (λ n. is_before (rank_of_note note) (rank_of_note n) ≡ true) ns (place_of_note ns note)
place_parts ns note h =
    let new = rank_of_note note in
    let point = count_parts (λ n. not (is_before new (rank_of_note n))) ns (upto_stand_first ns new h) in
    (λ k d z l. not-true (is_before new (rank_of_note (get_or ns k d))) (point.0 k d z l), λ k d l m. not-false (is_before new (rank_of_note (get_or ns k d))) (point.1 k d l m))

pub place_inside : (ns : List Note) (note : Note) → place_of_note ns note ≤ length ns
place_inside ns note = prefix_len-le-length (λ n. not (is_before (rank_of_note note) (rank_of_note n))) ns

-- Owners, without a search of the list

-- an outline of these records alone
abbrev outline_with : List Control → ℕ → Outline
outline_with cs first = record { workers = 0; bins = 0; stages = 0; controls = cs; first_owner = λ j b. first; bin_of = λ k. 0; records = λ j. []; posts = λ x. []; rows = []; opening = λ j. []; bundle = 0; paced = false; until = None }

pub owner_is : (cs : List Control) (first j b t i : ℕ) → IsLastBelow cs j b t i → owner_below cs first j b t ≡ (control_of cs i).worker
unfolding owner_before
owner_is cs first j b t i h = (owners_follow (outline_with cs first) j b t).0 i h

pub owner_is_first : (cs : List Control) (first j b t : ℕ) → ((i : ℕ) → i < length cs → is_below j b t (control_of cs i) ≡ false) → owner_below cs first j b t ≡ first
unfolding owner_before
owner_is_first cs first j b t h = (owners_follow (outline_with cs first) j b t).1 h

-- an owner changes only at the time of a record
pub change_found : (cs : List Control) (first j b t : ℕ) → (owner_below cs first j b t ≡ owner_below cs first j b (suc t) → ⊥) → (i : ℕ) × (i < length cs) × ((control_of cs i).stage ≡ j) × ((control_of cs i).bin ≡ b) × ((control_of cs i).time ≡ t)
unfolding owner_before
change_found cs first j b t h = move_found (outline_with cs first) j b t h

-- Notes of one bin

abbrev pub IsOf : ℕ → ℕ → Note → Type 0
IsOf j b n = (n.control.stage ≡ j) × (n.control.bin ≡ b)

pub of_test : (j b : ℕ) (n : Note) → (n.control.stage == j && n.control.bin == b) ≡ true → IsOf j b n
of_test j b n e = let p = and_parts (n.control.stage == j) (n.control.bin == b) e in (eqb-true n.control.stage j p.0, eqb-true n.control.bin b p.1)

pub not_of_test : (j b : ℕ) (n : Note) → (n.control.stage == j && n.control.bin == b) ≡ false → IsOf j b n → ⊥
not_of_test j b n e h = both_ways (n.control.stage == j && n.control.bin == b) e (and_from (n.control.stage == j) (n.control.bin == b) (eq-eqb n.control.stage j h.0) (eq-eqb n.control.bin b h.1))

pub control_at_note : (ns : List Note) (i : ℕ) → control_of (controls_in ns) i ≡ (note_at ns i).control
control_at_note [] i = refl
control_at_note (n ∷ ns) zero = refl
control_at_note (n ∷ ns) (suc i) = control_at_note ns i

-- of one bin the order is that of times
pub of_time : (j b t : ℕ) (n : Note) → IsOf j b n → is_before (rank_of_note n) (j ∷ b ∷ t ∷ []) ≡ true → n.control.time < t
of_time j b t n h e =
    let c = n.control in
    let f = tail_before j c.stage (b ∷ t ∷ []) (c.bin ∷ c.time ∷ n.index ∷ []) e h.0 in
    let g = tail_before b c.bin (t ∷ []) (c.time ∷ n.index ∷ []) f h.1 in
    time g
  where
    time : is_before (n.control.time ∷ n.index ∷ []) (t ∷ []) ≡ true → n.control.time < t
    time g = grind (arith)

pub not_of_time : (j b t : ℕ) (n : Note) → IsOf j b n → is_before (rank_of_note n) (j ∷ b ∷ t ∷ []) ≡ false → t ≤ n.control.time
not_of_time j b t n h e =
    let c = n.control in
    let p = parts j b t c.stage c.bin c.time [] (n.index ∷ []) e in
    let e0 = h.0 in
    let e1 = h.1 in
    p.times (omega arith) (omega arith)

-- the notes stand where the limit falls among the records
pub below_is : (j b t : ℕ) (n : Note) → is_below j b t n.control ≡ true → IsOf j b n × (n.control.time < t)
below_is j b t n h =
    let p = and_parts (n.control.stage == j) (n.control.bin == b && nat_lt n.control.time t) h in
    let q = and_parts (n.control.bin == b) (nat_lt n.control.time t) p.1 in
    ((eqb-true n.control.stage j p.0, eqb-true n.control.bin b q.0), ltb-true n.control.time t q.1)

pub below_from : (j b t : ℕ) (n : Note) → IsOf j b n → n.control.time < t → is_below j b t n.control ≡ true
below_from j b t n h l =
    and_from (n.control.stage == j) (n.control.bin == b && nat_lt n.control.time t) (eq-eqb n.control.stage j h.0) (and_from (n.control.bin == b) (nat_lt n.control.time t) (eq-eqb n.control.bin b h.1) (lt-ltb n.control.time t l))

-- of two notes of one bin the one that isn't before is of no earlier time, and of one time of no smaller index
pub time_upto : (j b : ℕ) (m n : Note) → IsOf j b m → IsOf j b n → is_before (rank_of_note n) (rank_of_note m) ≡ false → m.control.time ≤ n.control.time
time_upto j b m n g h e =
    let p = parts m.control.stage m.control.bin m.control.time n.control.stage n.control.bin n.control.time (m.index ∷ []) (n.index ∷ []) e in
    let g0 = g.0 in
    let g1 = g.1 in
    let h0 = h.0 in
    let h1 = h.1 in
    p.times (omega arith) (omega arith)

pub index_upto : (m n : Note) → n.control.stage ≡ m.control.stage → n.control.bin ≡ m.control.bin → n.control.time ≡ m.control.time → is_before (rank_of_note n) (rank_of_note m) ≡ false → m.index ≤ n.index
index_upto m n e f g h =
    let c = m.control in
    let d = n.control in
    head_upto m.index n.index [] []
    (tail_upto c.time d.time (m.index ∷ []) (n.index ∷ [])
    (tail_upto c.bin d.bin (c.time ∷ m.index ∷ []) (d.time ∷ n.index ∷ [])
    (tail_upto c.stage d.stage (c.bin ∷ c.time ∷ m.index ∷ []) (d.bin ∷ d.time ∷ n.index ∷ []) h e) f) g)

-- The owner by the notes that a limit parts from the rest

module _ (ns : List Note) (order : AreInOrder ns) (j b u p : ℕ) (inside : p ≤ length ns) (split : IsSplitAt ns j b u p) where
  before_split : (k : ℕ) → k < length ns → IsOf j b (note_at ns k) → (note_at ns k).control.time < u → k < p
  before_split k l h t =
      ⊎_elim
      (λ (m : k < p). m)
      (λ (m : p ≤ k). let e = not_of_time j b u (note_at ns k) h (split.1 k no_note m l) in absurd (omega arith))
      (cases_lt k p)

  is_listed : (k : ℕ) → k < length (controls_in ns) → k < length ns
  is_listed k l = omega (arith, length-map ns (λ n. n.control))

  noted_below : (k : ℕ) → is_below j b u (control_of (controls_in ns) k) ≡ true → IsOf j b (note_at ns k) × ((note_at ns k).control.time < u)
  noted_below k e = below_is j b u (note_at ns k) (subst (λ (c : Control). is_below j b u c ≡ true) (control_at_note ns k) e)

  pub last_owns : (first : ℕ) → 0 < p → IsOf j b (note_at ns (p - 1)) → owner_below (controls_in ns) first j b u ≡ (note_at ns (p - 1)).control.worker
  last_owns first l h = owner_is (controls_in ns) first j b u (p - 1) (record { listed = omega (arith, length-map ns (λ n. n.control)); below = below; last = last }) ∙ ap (λ (c : Control). c.worker) (control_at_note ns (p - 1))
    where
      below : is_below j b u (control_of (controls_in ns) (p - 1)) ≡ true
      below = subst (λ (c : Control). is_below j b u c ≡ true) (sym (control_at_note ns (p - 1))) (below_from j b u (note_at ns (p - 1)) h (of_time j b u (note_at ns (p - 1)) h (split.0 (p - 1) no_note (omega arith) (omega arith))))

      in_turn : (s t k i : ℕ) → s ≤ t → k ≤ i → (s < t) ⊎ ((s ≡ t) × (k ≤ i))
      in_turn s t k i m n = ⊎_elim (λ (l : s < t). inl l) (λ (l : t ≤ s). inr (omega arith, n)) (cases_lt s t)

      last : (k : ℕ) → k < length (controls_in ns) → is_below j b u (control_of (controls_in ns) k) ≡ true → ((control_of (controls_in ns) k).time < (control_of (controls_in ns) (p - 1)).time) ⊎ (((control_of (controls_in ns) k).time ≡ (control_of (controls_in ns) (p - 1)).time) × (k ≤ p - 1))
      last k m e =
          let f = noted_below k e in
          let g = before_split k (is_listed k m) f.0 f.1 in
          let t = time_upto j b (note_at ns k) (note_at ns (p - 1)) f.0 h (later_upto ns order k (p - 1) no_note (omega arith) (omega arith)) in
          in_turn (control_of (controls_in ns) k).time (control_of (controls_in ns) (p - 1)).time k (p - 1)
          (omega (arith, ap (λ (c : Control). c.time) (control_at_note ns k), ap (λ (c : Control). c.time) (control_at_note ns (p - 1)), t))
          (omega arith)

  -- between two of the bin there are only notes of it
  squeezed : (k : ℕ) → k < p → IsOf j b (note_at ns k) → IsOf j b (note_at ns (p - 1))
  squeezed k l h =
      let n = note_at ns (p - 1) in
      let c = n.control in
      let d = (note_at ns k).control in
      let low = parts d.stage d.bin d.time c.stage c.bin c.time ((note_at ns k).index ∷ []) (n.index ∷ []) (later_upto ns order k (p - 1) no_note (omega arith) (omega arith)) in
      let high = parts c.stage c.bin c.time j b u (n.index ∷ []) [] (not_back (rank_of_note n) (j ∷ b ∷ u ∷ []) (split.0 (p - 1) no_note (omega arith) (omega arith))) in
      let h0 = h.0 in
      let h1 = h.1 in
      (omega arith, omega arith)

  pub first_owns : (first : ℕ) → (0 < p → IsOf j b (note_at ns (p - 1)) → ⊥) → owner_below (controls_in ns) first j b u ≡ first
  first_owns first none =
      owner_is_first (controls_in ns) first j b u (λ k l. false_from_ne_true (is_below j b u (control_of (controls_in ns) k)) (λ e.
      let f = noted_below k e in
      let g = before_split k (is_listed k l) f.0 f.1 in
      none (omega arith) (squeezed k g f.0)))

-- An owner is a worker

pub owner_is_worker : (shape : Shape) (ns : List Note) → AreWithin shape ns → (first j b t : ℕ) → first < shape.workers → owner_below (controls_in ns) first j b t < shape.workers
owner_is_worker shape ns within first j b t l = go (last_below (controls_in ns) j b t) (said (controls_in ns) j b t)
  where
    go : (d : Option Control) → Said (controls_in ns) j b t d → option_map_or (λ c. c.worker) d first < shape.workers
    go None h = l
    go (Some c) h = subst (λ (d : Control). d.worker < shape.workers) (sym (control_at_note ns h.0) ∙ h.2) (within h.0 no_note (let m = h.1.listed in omega (arith, length-map ns (λ n. n.control)))).0
