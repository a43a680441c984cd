-- What stands among the outputs of a stage, and in which order.
use Rattle.std.proofs.Common.{◌≡◌, ◌⊎◌, ℕ, ◌<◌, ◌==◌, List, [], ◌∷◌, ◌++◌, map, Contains, refl, sym, ap, ◌∙◌, subst, inl, inr, ⊎_elim, arith}
use Rattle.std.specs.List.{enumerate_from}
use Rattle.std.proofs.lemmas.Bool.{eq-eqb, eqb-true}
use Rattle.std.proofs.lemmas.List.Elements.{Contains-append_cases, Contains-append_left, Contains-append_right}
use Rattle.mp_model.specs.declared.record.Output.{Output}
use Rattle.mp_model.specs.declared.record.Rec.{Rec}
use Rattle.mp_model.specs.declared.value.Value.{Value}
use Rattle.mp_model.specs.Ascending.{ascending}
use Rattle.mp_model.specs.Entry.{Entry}
use Rattle.mp_model.specs.Facts.{QueryFacts}
use Rattle.mp_model.specs.Folds.{entry_at, keys_in, of_key, outputs_along, outputs_at, outputs_of, stage_outputs, timeline, times_in, waking_of}
use Rattle.mp_job.proofs.Ascents.{ascending-Contains, Contains-ascending, Rises-ascending}
use Rattle.mp_job.proofs.Members.{nothing_in_nil, Contains-filter, Contains-flat_map, Contains-here, Contains-later, Contains-map, filter-Contains, flat_map-Contains, map-Contains}
use Rattle.mp_outline.specs.Laws.{OutputsInOrder}
use Rattle.mp_outline.proofs.Found.{found, found_there}
use Rattle.mp_outline.proofs.Pairs.{Pairs, Pairs-Rises, Pairs-append}
use Rattle.mp_outline.proofs.PairsMade.{Pairs-flat_map, Pairs-map, places_rise}

-- The outputs of one group

-- the output of a value at its place
abbrev output_of : ℕ → ℕ → ℕ × Value → Output
output_of t k p = record { time = t; tag = record { 0 = k; 1 = p.0 }; value = p.1 }

-- they have its time, and tags of its key
pub outputs_are : (t k : ℕ) (values : List Value) (o : Output) → Contains (outputs_at t k values) o → (o.time ≡ t) × (o.tag.0 ≡ k)
outputs_are t k values o h =
    let a = found (λ p. output_of t k p ≡ o) (enumerate_from 0 values) (Contains-map (output_of t k) (enumerate_from 0 values) o h) in
    (ap (λ (p : Output). p.time) (sym a.2), ap (λ (p : Output). p.tag.0) (sym a.2))

pub outputs_in_order : (t k : ℕ) (values : List Value) → Pairs OutputsInOrder (outputs_at t k values)
outputs_in_order t k values =
    Pairs-map (λ (p r : ℕ × Value). p.0 < r.0) OutputsInOrder (output_of t k) (λ p r l e. inr (refl, l)) (enumerate_from 0 values) (places_rise 0 values)

-- The groups of a key

module _ {Cell : Type 0} (q : QueryFacts Cell) (j : ℕ) where
  -- a record of the key has this time, or posts it
  abbrev pub IsMadeBy : List Rec → ℕ → ℕ → Type 0
  IsMadeBy rs k t = (r : Rec) × Contains rs r × (r.key ≡ k) × Contains (r.time ∷ q.posts j r) t

  -- the key has a group at this time: it is to be woken then from the beginning, or a record makes it
  abbrev pub HasGroup : List Rec → ℕ → ℕ → Type 0
  HasGroup rs k t = Contains (waking_of q j k) t ⊎ IsMadeBy rs k t

  -- a group on a timeline is that of its time, and it is there for a wake or a record
  pub group_is : (k : ℕ) (rs : List Rec) (e : Entry) → Contains (timeline q j k rs) e → (entry_at q j k (of_key k rs) e.time ≡ e) × HasGroup rs k e.time
  group_is k rs e h =
      let own = of_key k rs in
      let first = waking_of q j k in
      let times = first ++ times_in q j own in
      let a = found (λ t. entry_at q j k own t ≡ e) (ascending times) (Contains-map (entry_at q j k own) (ascending times) e h) in
      let same : a.0 ≡ e.time = ap (λ (f : Entry). f.time) a.2 in
      let there : HasGroup rs k a.0 =
      ⊎_elim
      (λ (i : Contains first a.0). inl i)
      (λ (i : Contains (times_in q j own) a.0).
      let b = found (λ r. Contains (r.time ∷ q.posts j r) a.0) own (Contains-flat_map (λ (r : Rec). r.time ∷ q.posts j r) own a.0 i) in
      let c = Contains-filter (λ (r : Rec). r.key == k) rs b.0 b.1 in
      inr (b.0, c.0, eqb-true b.0.key k c.1, b.2))
      (Contains-append_cases first (times_in q j own) a.0 (Contains-ascending times a.0 a.1))
      in
      (subst (λ (t : ℕ). entry_at q j k own t ≡ e) same a.2, subst (λ (t : ℕ). HasGroup rs k t) same there)

  -- where it has a group that stands on the timeline
  pub group_stands : (k t : ℕ) (rs : List Rec) → HasGroup rs k t → Contains (timeline q j k rs) (entry_at q j k (of_key k rs) t)
  group_stands k t rs h =
      let own = of_key k rs in
      let first = waking_of q j k in
      let times = first ++ times_in q j own in
      let there : Contains times t =
      ⊎_elim
      (λ (i : Contains first t). Contains-append_left first (times_in q j own) t i)
      (λ (m : IsMadeBy rs k t).
      let kept = filter-Contains (λ (r : Rec). r.key == k) rs m.0 m.1 (eq-eqb m.0.key k m.2) in
      let of_records = flat_map-Contains (λ (r : Rec). r.time ∷ q.posts j r) own t (found_there (λ r. Contains (r.time ∷ q.posts j r) t) own m.0 kept m.3) in
      Contains-append_right first (times_in q j own) t of_records)
      h
      in
      map-Contains (entry_at q j k own) (ascending times) (entry_at q j k own t) (found_there (λ s. entry_at q j k own s ≡ entry_at q j k own t) (ascending times) t (ascending-Contains times t there) refl)

  -- the times of a timeline rise
  pub timeline_rises : (k : ℕ) (rs : List Rec) → Pairs (λ e f. e.time < f.time) (timeline q j k rs)
  timeline_rises k rs =
      let own = of_key k rs in
      let times = waking_of q j k ++ times_in q j own in
      Pairs-map (λ (s t : ℕ). s < t) (λ (e f : Entry). e.time < f.time) (entry_at q j k own) (λ s t l. l) (ascending times) (Pairs-Rises (ascending times) (Rises-ascending times))

  -- The outputs of several groups

  pub along_are : (cell : Cell) (es : List Entry) (o : Output) → Contains (outputs_along q j cell es) o → (e : Entry) × Contains es e × (o.time ≡ e.time) × (o.tag.0 ≡ e.key)
  along_are cell [] o h = absurd (nothing_in_nil o h)
  along_are cell (e ∷ es) o h =
      ⊎_elim
      (λ (i : Contains (outputs_at e.time e.key (q.gives j cell e)) o). let a = outputs_are e.time e.key (q.gives j cell e) o i in (e, Contains-here e es, a.0, a.1))
      (λ (i : Contains (outputs_along q j (q.step j cell e) es) o). let a = along_are (q.step j cell e) es o i in (a.0, Contains-later e a.0 es a.1, a.2, a.3))
      (Contains-append_cases (outputs_at e.time e.key (q.gives j cell e)) (outputs_along q j (q.step j cell e) es) o h)

  along_in_order : (cell : Cell) (es : List Entry) → Pairs (λ e f. e.time < f.time) es → Pairs OutputsInOrder (outputs_along q j cell es)
  along_in_order cell [] h = tt
  along_in_order cell (e ∷ es) h =
      Pairs-append
      OutputsInOrder
      (outputs_at e.time e.key (q.gives j cell e))
      (outputs_along q j (q.step j cell e) es)
      (outputs_in_order e.time e.key (q.gives j cell e))
      (along_in_order (q.step j cell e) es h.1)
      later
    where
      later : (o p : Output) → Contains (outputs_at e.time e.key (q.gives j cell e)) o → Contains (outputs_along q j (q.step j cell e) es) p → OutputsInOrder o p
      later o p i k same =
          let a = outputs_are e.time e.key (q.gives j cell e) o i in
          let b = along_are (q.step j cell e) es p k in
          let less : e.time < b.0.time = h.0 b.0 b.1 in
          let first : o.time ≡ e.time = a.0 in
          let second : p.time ≡ b.0.time = b.2 in
          absurd (omega arith)

  -- an output of a key is one of a group of it
  of_key_is : (k : ℕ) (rs : List Rec) (o : Output) → Contains (outputs_of q j rs k) o → (o.tag.0 ≡ k) × HasGroup rs k o.time
  of_key_is k rs o h =
      let a = along_are (q.opening j k) (timeline q j k rs) o h in
      let b = group_is k rs a.0 a.1 in
      (a.3 ∙ sym (ap (λ (e : Entry). e.key) b.0), subst (λ (t : ℕ). HasGroup rs k t) (sym a.2) b.1)

  -- All outputs of the stage

  pub output_is : (rs : List Rec) (o : Output) → Contains (stage_outputs q j rs) o → HasGroup rs o.tag.0 o.time
  output_is rs o h =
      let a = found (λ k. Contains (outputs_of q j rs k) o) (keys_in q j rs) (Contains-flat_map (outputs_of q j rs) (keys_in q j rs) o h) in
      let b = of_key_is a.0 rs o a.2 in
      subst (λ (k : ℕ). HasGroup rs k o.time) (sym b.0) b.1

  -- outputs of one time stand in the order of their tags
  pub stage_outputs_in_order : (rs : List Rec) → Pairs OutputsInOrder (stage_outputs q j rs)
  stage_outputs_in_order rs =
      Pairs-flat_map
      (λ (k l : ℕ). k < l)
      OutputsInOrder
      (outputs_of q j rs)
      (λ k l o p less i m same.
      let a : o.tag.0 ≡ k = (of_key_is k rs o i).0 in
      let b : p.tag.0 ≡ l = (of_key_is l rs p m).0 in
      inl (omega arith))
      (λ k. along_in_order (q.opening j k) (timeline q j k rs) (timeline_rises k rs))
      (keys_in q j rs)
      (Pairs-Rises (keys_in q j rs) (Rises-ascending (map (λ (w : ℕ × ℕ). w.1) (q.waking j) ++ map (λ (r : Rec). r.key) rs)))
