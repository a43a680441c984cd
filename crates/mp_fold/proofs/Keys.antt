-- The outputs of records that begin with those of a key: first the outputs of this key.
use Rattle.std.proofs.Common.{◌≡◌, ◌≤◌, ◌<◌, ◌==◌, ◌++◌, ℕ, Bool, true, false, List, [], ◌∷◌, All, map, refl, sym, ap, ◌∙◌, subst, append_assoc, arith}
use Rattle.std.specs.List.{flat_map, take_while}
use Rattle.std.specs.List.Sorted.{IsNonDecreasingBy}
use Rattle.std.proofs.lemmas.Bool.{eq-eqb, eqb-true, false≢true}
use Rattle.std.proofs.lemmas.List.Elements.{All-cons, All-map, All-weaker}
use Rattle.std.proofs.lemmas.List.Sorted.{IsNonDecreasingBy-short}
use Rattle.mp_names.specs.Limits.{last_time}
use Rattle.mp_model.specs.declared.record.Output.{Output}
use Rattle.mp_model.specs.declared.record.Rec.{Rec}
use Rattle.mp_model.specs.Entry.{Entry}
use Rattle.mp_model.specs.Facts.{QueryFacts}
use Rattle.mp_model.specs.Folds.{FitsAlong, entries_of, keys_of, of_key, outputs_along, outputs_of, stage_outputs, timeline}
use Rattle.mp_model.specs.QueryLaws.{BeginsFresh}
use Rattle.mp_model.proofs.Lists.{All-ascending}
use Rattle.mp_fold.proofs.Ascending.{ascending_first}
use Rattle.mp_fold.proofs.Cuts.{All-after, IsCut, above_after, after_while, front_is, none_above, numbers_after, numbers_begin, others_after, rises_after, rises_head}
use Rattle.mp_fold.proofs.Fresh.{entries_are, keys_are}
use Rattle.mp_fold.proofs.Numbers.{flat_maps_agree}
use Rattle.mp_fold.specs.Order.{BeginsAt}

-- the key of a record, as a number that never falls
abbrev pub key_of : Rec → ℕ
key_of r = r.key

module _ (k : ℕ) where
  -- the records behind those of the key
  abbrev pub others_of : List Rec → List Rec
  others_of recs = after_while (λ (r : Rec). r.key == k) recs

  none_below : (recs : List Rec) → IsNonDecreasingBy key_of recs → BeginsAt key_of recs k → All (λ r. k ≤ r.key) recs
  none_below [] up first = absurd first
  none_below (r ∷ rs) up first =
      All-cons (λ (s : Rec). k ≤ s.key) r rs (omega (arith, first)) (All-weaker (λ (s : Rec). r.key ≤ s.key) (λ (s : Rec). k ≤ s.key) (λ s h. omega (arith, first)) rs (rises_head key_of r rs up))

  module _ (recs : List Rec) (up : IsNonDecreasingBy key_of recs) (first : BeginsAt key_of recs k) where
    above : All (λ r. k < r.key) (others_of recs)
    above = above_after key_of k recs (none_below recs up first) up

    -- those of the key stand in front
    front_own : take_while (λ (r : Rec). r.key == k) recs ≡ of_key k recs
    front_own = front_is key_of k recs (none_below recs up first) up

    keys_above : All (λ u. k < u) (map key_of (others_of recs))
    keys_above = All-map (λ (u : ℕ). k < u) key_of (others_of recs) above

    keys_split : keys_of recs ≡ k ∷ keys_of (others_of recs)
    keys_split =
        ascending_first k (map key_of recs) (map key_of (others_of recs)) keys_above
        (λ u. numbers_begin key_of k u recs first ∙ numbers_after key_of k u recs)

    -- what holds of the records of each key holds of those that are left
    each_left : (P : ℕ → List Rec → Type 0) → ((u : ℕ) → P u []) → ((u : ℕ) → P u (of_key u recs)) → (u : ℕ) → P u (of_key u (others_of recs))
    each_left P none all u = by (u == k) refl
      where
        by : (b : Bool) → (u == k) ≡ b → P u (of_key u (others_of recs))
        by true e =
            let gone : of_key k (others_of recs) ≡ [] = none_above key_of k (others_of recs) above in
            subst (P u) (sym (ap (λ v. of_key v (others_of recs)) (eqb-true u k e) ∙ gone)) (none u)
        by false e = subst (P u) (sym (others_after key_of k u (λ s. false≢true (sym e ∙ eq-eqb u k s)) recs)) (all u)

    module _ {Cell : Type 0} (q : QueryFacts Cell) (fresh : BeginsFresh q) (j : ℕ) where
      other_key : (u : ℕ) → k < u → outputs_of q j recs u ≡ outputs_of q j (others_of recs) u
      other_key u low =
          ap (λ (own : List Rec). outputs_along q j (q.opening j u) (entries_of q j u own)) (sym (others_after key_of k u (λ e. omega arith) recs))

      outputs_split : stage_outputs q j recs ≡ outputs_of q j recs k ++ stage_outputs q j (others_of recs)
      outputs_split =
          ap (flat_map (outputs_of q j recs)) (keys_are q fresh j recs ∙ keys_split)
          ∙ ap (λ (os : List Output). outputs_of q j recs k ++ os)
          (flat_maps_agree (λ (u : ℕ). k < u) (outputs_of q j recs) (outputs_of q j (others_of recs)) other_key (keys_of (others_of recs)) (All-ascending (λ (u : ℕ). k < u) (map key_of (others_of recs)) keys_above)
          ∙ ap (flat_map (outputs_of q j (others_of recs))) (sym (keys_are q fresh j (others_of recs))))

      -- the outputs of the key stand behind what was given
      outputs_more : (own : List Rec) (old new all : List Output) → own ≡ of_key k recs → new ≡ old ++ outputs_along q j (q.opening j k) (entries_of q j k own)
          → old ++ stage_outputs q j recs ≡ all → new ++ stage_outputs q j (others_of recs) ≡ all
      outputs_more own old new all o more before =
          rw (more, o) (append_assoc old (outputs_of q j recs k) (stage_outputs q j (others_of recs)) ∙ ap (λ (os : List Output). old ++ os) (sym outputs_split) ∙ before)

      -- the sums of the others fit
      fits_left : ((u : ℕ) → FitsAlong q j (q.opening j u) (timeline q j u recs)) → (u : ℕ) → FitsAlong q j (q.opening j u) (timeline q j u (others_of recs))
      fits_left fits =
          each_left (λ u own. FitsAlong q j (q.opening j u) (entries_of q j u own)) (λ u. subst (λ (es : List Entry). FitsAlong q j (q.opening j u) es) (sym (entries_are q fresh j u [])) tt) fits

-- The outputs so far, with those of the records that are left, are all; the rest is in order, in time, and its sums fit
pub record AreFolded {Cell : Type 0} (q : QueryFacts Cell) (j : ℕ) (all outputs : List Output) (recs : List Rec) : Type 0 where
  pub so_far : outputs ++ stage_outputs q j recs ≡ all
  pub by_key : IsNonDecreasingBy (λ (r : Rec). r.key) recs
  pub by_time : (k : ℕ) → IsNonDecreasingBy (λ (r : Rec). r.time) (of_key k recs)
  pub times : All (λ (r : Rec). r.time ≤ last_time) recs
  pub fits : (k : ℕ) → FitsAlong q j (q.opening j k) (timeline q j k recs)

module _ {Cell : Type 0} {q : QueryFacts Cell} {j : ℕ} {all outputs : List Output} {recs : List Rec} (fresh : BeginsFresh q) (so_far : AreFolded q j all outputs recs) where
  module _ (k : ℕ) (first : BeginsAt key_of recs k) (own others : List Rec) (c : IsCut key_of k recs own others) where
    -- those in front are the key's
    pub own_is : own ≡ of_key k recs
    own_is = c.in_front ∙ front_own k recs so_far.by_key first

    -- one more key
    pub keys_more : (new : List Output) → new ≡ outputs ++ outputs_along q j (q.opening j k) (entries_of q j k own) → AreFolded q j all new others
    keys_more new more =
        rw c.behind
        (record {
          so_far = outputs_more k recs so_far.by_key first q fresh j own outputs new all own_is more so_far.so_far;
          by_key = rises_after key_of k recs so_far.by_key;
          by_time = each_left k recs so_far.by_key first (λ u own. IsNonDecreasingBy (λ (r : Rec). r.time) own) (λ u. IsNonDecreasingBy-short (λ (r : Rec). r.time) [] (omega arith)) so_far.by_time;
          times = All-after (λ (r : Rec). r.key == k) (λ (r : Rec). r.time ≤ last_time) recs so_far.times;
          fits = fits_left k recs so_far.by_key first q fresh j so_far.fits;
        })
