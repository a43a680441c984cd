-- What a bin begins with, and the state that is made of it.
use Rattle.std.proofs.Common.{◌≡◌, ◌≢◌, ◌↔◌, ◌⊎◌, ◌∙◌, ◌==◌, ◌++◌, ℕ, nat_eq, true, false, All, Contains, IsSome, List, [], ◌∷◌, None, Option, Some, ap, cond, inl, inr, refl, subst, sym, ⊎_elim}
use Rattle.std.specs.Map.{lookup}
use Rattle.std.specs.Option.{unwrap_or}
use Rattle.std.proofs.lemmas.Bool.{both_ways, cases_Bool, eq-eqb, eqb-true, false≢true}
use Rattle.std.proofs.lemmas.List.Elements.{All-cons, All-contains, All-nil, Contains-append_left, Contains-push, Contains-push_cases}
use Rattle.std.specs.HashMap.{HashMap, get}
use Rattle.mp_bins.specs.Bins.{bin_of_key}
use Rattle.mp_model.specs.Facts.{JobFacts, QueryFacts}
use Rattle.mp_job.proofs.Members.{nothing_in_nil, Contains-here, Contains-later}
use Rattle.mp_msg.specs.States.{IsStateAtFirst, by_key}
use Rattle.mp_msg.proofs.Sorted.{by_key-ascends, there-by_key}
use Rattle.mp_postdated.specs.Wakes.{Has, IsAscending}
use Rattle.mp_host_states.specs.Openings.{AreKept}
use Rattle.mp_job.specs.Openings.{AreOpeningCells, AreOpeningWakes}
use Rattle.mp_host_states.proofs.Finding.{cell_is}

-- the cells that are kept, with one more of them looked at
module _ {Cell S : Type 0} (fresh : Cell) (cells : List (ℕ × Cell)) (k : ℕ) (c : Cell) (kept : HashMap ℕ Cell S) (are : AreKept fresh cells kept) where
  among_more : (l : ℕ) (d : Cell) → Contains cells (l, d) → Contains (cells ++ (k, c) ∷ []) (l, d)
  among_more l d i = Contains-append_left cells ((k, c) ∷ []) (l, d) i

  -- one that is fresh is left out
  pub fresh_left_out : c ≡ fresh → AreKept fresh (cells ++ (k, c) ∷ []) kept
  fresh_left_out e = record {
    own = λ l d f. let a = are.own l d f in (among_more l d a.0, a.1);
    all = λ l d i.
        ⊎_elim
        (λ (old : Contains cells (l, d)). are.all l d old)
        (λ (same : ◌≡◌ {A = ℕ × Cell} (k, c) (l, d)). inl (sym (ap (λ (p : ℕ × Cell). p.1) same) ∙ e))
        (Contains-push_cases cells (k, c) (l, d) i);
  }

  -- another is kept
  pub other_kept : c ≢ fresh → (new : HashMap ℕ Cell S) → ((l : ℕ) → get nat_eq new l ≡ cond (k == l) (Some c) (get nat_eq kept l)) → AreKept fresh (cells ++ (k, c) ∷ []) new
  other_kept ne new is = record { own = own; all = all }
    where
      at_key : (l : ℕ) → (k == l) ≡ true → get nat_eq new l ≡ Some c
      at_key l t = is l ∙ ap (λ b. cond b (Some c) (get nat_eq kept l)) t

      at_other : (l : ℕ) → (k == l) ≡ false → get nat_eq new l ≡ get nat_eq kept l
      at_other l f = is l ∙ ap (λ b. cond b (Some c) (get nat_eq kept l)) f

      one_cell : (d : Cell) → ◌≡◌ {A = Option Cell} (Some c) (Some d) → c ≡ d
      one_cell d e = cc

      own : (l : ℕ) (d : Cell) → get nat_eq new l ≡ Some d → Contains (cells ++ (k, c) ∷ []) (l, d) × (d ≢ fresh)
      own l d e =
          ⊎_elim
          (λ (t : (k == l) ≡ true).
          let here : Contains (cells ++ (k, c) ∷ []) (l, c) = subst (λ (n : ℕ). Contains (cells ++ (k, c) ∷ []) (n, c)) (eqb-true k l t) (Contains-push cells (k, c)) in
          subst (λ (a : Cell). Contains (cells ++ (k, c) ∷ []) (l, a) × (a ≢ fresh)) (one_cell d (sym (at_key l t) ∙ e)) (here, ne))
          (λ (f : (k == l) ≡ false). let a = are.own l d (sym (at_other l f) ∙ e) in (among_more l d a.0, a.1))
          (cases_Bool (k == l))

      still : (l : ℕ) → IsSome (get nat_eq kept l) → IsSome (get nat_eq new l)
      still l some =
          ⊎_elim
          (λ (t : (k == l) ≡ true). subst (λ (o : Option Cell). IsSome o) (sym (at_key l t)) refl)
          (λ (f : (k == l) ≡ false). subst (λ (o : Option Cell). IsSome o) (sym (at_other l f)) some)
          (cases_Bool (k == l))

      all : (l : ℕ) (d : Cell) → Contains (cells ++ (k, c) ∷ []) (l, d) → (d ≡ fresh) ⊎ IsSome (get nat_eq new l)
      all l d i =
          ⊎_elim
          (λ (old : Contains cells (l, d)). ⊎_elim (λ (e : d ≡ fresh). inl e) (λ (s : IsSome (get nat_eq kept l)). inr (still l s)) (are.all l d old))
          (λ (same : ◌≡◌ {A = ℕ × Cell} (k, c) (l, d)).
          let key : k ≡ l = ap (λ (p : ℕ × Cell). p.0) same in
          inr (subst (λ (o : Option Cell). IsSome o) (sym (at_key l (eq-eqb k l key))) refl))
          (Contains-push_cases cells (k, c) (l, d) i)

pub none_kept : {Cell S : Type 0} (fresh : Cell) (kept : HashMap ℕ Cell S) → kept.entries ≡ [] → AreKept fresh [] kept
none_kept {Cell = Cell} fresh kept e = record {
  own = λ k c f. absurd (none_there k c (subst (λ es. lookup (nat_eq k) es ≡ Some c) e f));
  all = λ k c i. absurd (nothing_in_nil (k, c) i);
}
  where
    none_there : (k : ℕ) (c : Cell) → ◌≡◌ {A = Option Cell} None (Some c) → ⊥
    none_there k c e = cc

-- a key is that of one of the cells, or of none
module _ {Cell : Type 0} (k : ℕ) where
  pub has_cell : (cells : List (ℕ × Cell)) → ((c : Cell) × Contains cells (k, c)) ⊎ All (λ p. p.0 ≢ k) cells
  has_cell [] = inr (All-nil (λ (p : ℕ × Cell). p.0 ≢ k))
  has_cell (p ∷ ps) =
      ⊎_elim
      (λ (e : (p.0 == k) ≡ true). inl (p.1, subst (λ (n : ℕ). Contains (p ∷ ps) (n, p.1)) (eqb-true p.0 k e) (Contains-here p ps)))
      (λ (f : (p.0 == k) ≡ false).
      ⊎_elim
      (λ (there : (c : Cell) × Contains ps (k, c)). inl (there.0, Contains-later p (k, there.0) ps there.1))
      (λ (none : All (λ (r : ℕ × Cell). r.0 ≢ k) ps). inr (All-cons (λ (r : ℕ × Cell). r.0 ≢ k) p ps (λ e. both_ways (p.0 == k) f (eq-eqb p.0 k e)) none))
      (has_cell ps))
      (cases_Bool (p.0 == k))

module _ {Cell S : Type 0} (q : QueryFacts Cell) (job : JobFacts) (j b : ℕ) (cells : List (ℕ × Cell)) (due : List (ℕ × ℕ)) (kept : HashMap ℕ Cell S) (wakes : List (ℕ × ℕ))
    (opens : AreOpeningCells q job.shape.bins j b cells) (woken : AreOpeningWakes q job.shape.bins j b due)
    (are : AreKept (q.fresh j) cells kept) (same : (u k : ℕ) → Has wakes u k ↔ Contains due (u, k)) (ascend : IsAscending wakes) where
  its_cell : (k : ℕ) (c : Cell) → Contains cells (k, c) → (bin_of_key k job.shape.bins ≡ b) × (c ≡ q.opening j k)
  its_cell k c i = All-contains (λ (p : ℕ × Cell). (bin_of_key p.0 job.shape.bins ≡ b) × (p.1 ≡ q.opening j p.0)) cells (k, c) opens.each i

  -- the cell that is kept of a key, else the fresh one
  kept_or_fresh : (k : ℕ) → bin_of_key k job.shape.bins ≡ b → (o : Option Cell) → get nat_eq kept k ≡ o → unwrap_or o (q.fresh j) ≡ q.opening j k
  kept_or_fresh k own (Some c) e = (its_cell k c (are.own k c e).0).1
  kept_or_fresh k own None e =
      ⊎_elim
      (λ (there : (c : Cell) × Contains cells (k, c)).
      ⊎_elim
      (λ (f : there.0 ≡ q.fresh j). sym f ∙ (its_cell k there.0 there.1).1)
      (λ (some : IsSome (get nat_eq kept k)). absurd (false≢true (subst (λ (o : Option Cell). IsSome o) e some)))
      (are.all k there.0 there.1))
      (λ (none : All (λ (p : ℕ × Cell). p.0 ≢ k) cells). sym (opens.others k own none))
      (has_cell k cells)

  -- the state of the bin is that of what it begins with
  pub state_at_first : IsStateAtFirst q job j b (record { cells = by_key kept.entries; wakes = wakes })
  state_at_first = record {
    order = record { cells = by_key-ascends kept.entries; wakes = ascend };
    own = record {
      cells = λ k c i. let a = are.own k c ((there-by_key kept.entries k c).0 i) in ((its_cell k c a.0).0, a.1);
      wakes = λ u k h. ((woken.are u k).0 ((same u k).0 h)).1;
    };
    cells = λ k own. cell_is (q.fresh j) kept k ∙ kept_or_fresh k own (get nat_eq kept k) refl;
    wakes = λ u k own. ((λ h. ((woken.are u k).0 ((same u k).0 h)).0), (λ h. (same u k).1 ((woken.are u k).1 (h, own))));
  }
