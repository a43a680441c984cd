-- The outputs of a group, one after the other: the records that they make, and rows that go to their places.
use Rattle.std.proofs.Common.{◌≡◌, ◌⊎◌, ◌↔◌, ℕ, zero, suc, ◌+◌, ◌≤◌, false, Option, Some, List, [], ◌∷◌, ◌++◌, drop, length, map, slice_get, Contains, refl, sym, ap, ◌∙◌, subst, inl, inr, ⊎_elim, arith}
use Rattle.std.specs.List.{cons_option, enumerate_from}
use Rattle.std.specs.Option.{option_map}
use Rattle.std.proofs.lemmas.Bool.{both_ways, false_from_ne_true}
use Rattle.std.proofs.lemmas.Option.{none-some, same_Some}
use Rattle.mp_names.specs.declared.names.Name.{Name}
use Rattle.mp_names.specs.Names.{has, In, Distinct}
use Rattle.mp_names.specs.Logs.{Log}
use Rattle.mp_names.proofs.Lists.{Distinct_append, In_append, In_cases, In_here, In_later, In_left, In_right}
use Rattle.mp_machine.proofs.Mailboxes.{once_apart}
use Rattle.mp_model.specs.declared.record.Output.{Output}
use Rattle.mp_model.specs.declared.value.Value.{Value}
use Rattle.mp_model.specs.Facts.{JobFacts, QueryFacts}
use Rattle.mp_model.specs.Folds.{outputs_at}
use Rattle.mp_ordered.specs.InOrder.{put_in_order}
use Rattle.mp_outline.specs.JobOutline.{name_of_row}
use Rattle.mp_outline.proofs.Named.{In_named, named_In, named_once}
use Rattle.mp_outline.proofs.Pairs.{Pairs}
use Rattle.mp_output.specs.Unwritten.{place_rank}
use Rattle.mp_host_laws.proofs.Lists.{Contains-put, Pairs-put, put-Contains}
use Rattle.mp_worker_invariant.specs.Given.{output_at, records_made}
use Rattle.mp_worker_invariant.specs.Laws.{OutputsGoInTurn}
use Rattle.mp_worker_invariant.specs.Parts.{HoldsRowsBut}

-- Outputs by their places

placed_from : (t k n i : ℕ) (values : List Value) (v : Value) → slice_get values i ≡ Some v
    → drop i (map (λ p. output_at t k p.0 p.1) (enumerate_from n values)) ≡ output_at t k (n + i) v ∷ drop (suc i) (map (λ p. output_at t k p.0 p.1) (enumerate_from n values))
placed_from t k n i [] v e = absurd (none-some v e)
placed_from t k n zero (u ∷ us) v e =
    let z : n + 0 ≡ n = omega arith in
    ap (λ (x : Value). output_at t k n x ∷ map (λ p. output_at t k p.0 p.1) (enumerate_from (n + 1) us)) (same_Some u v e)
    ∙ ap (λ (m : ℕ). output_at t k m v ∷ map (λ p. output_at t k p.0 p.1) (enumerate_from (n + 1) us)) (sym z)
placed_from t k n (suc i) (u ∷ us) v e =
    let s : n + 1 + i ≡ n + suc i = omega arith in
    placed_from t k (n + 1) i us v e ∙ ap (λ (m : ℕ). output_at t k m v ∷ drop (suc i) (map (λ p. output_at t k p.0 p.1) (enumerate_from (n + 1) us))) s

-- the outputs from a place on are the one of the value there, and those from the next place on
pub outputs_go_on : (t k i : ℕ) (values : List Value) (v : Value) → slice_get values i ≡ Some v → drop i (outputs_at t k values) ≡ output_at t k i v ∷ drop (suc i) (outputs_at t k values)
outputs_go_on t k i values v e =
    let z : 0 + i ≡ i = omega arith in
    placed_from t k 0 i values v e ∙ ap (λ (m : ℕ). output_at t k m v ∷ drop (suc i) (outputs_at t k values)) z

none_from : (t k n i : ℕ) (values : List Value) → length values ≤ i → drop i (map (λ p. output_at t k p.0 p.1) (enumerate_from n values)) ≡ []
none_from t k n zero [] l = refl
none_from t k n (suc i) [] l = refl
none_from t k n zero (u ∷ us) l = absurd (omega arith)
none_from t k n (suc i) (u ∷ us) l = none_from t k (n + 1) i us (omega arith)

-- and behind the last there are none
pub outputs_end : (t k i : ℕ) (values : List Value) → length values ≤ i → drop i (outputs_at t k values) ≡ []
outputs_end t k i values l = none_from t k 0 i values l

module _ {Cell : Type 0} (q : QueryFacts Cell) (j : ℕ) where
  -- and so are the records that they make
  pub records_go_on : (t k i : ℕ) (values : List Value) (v : Value) (key : ℕ) → slice_get values i ≡ Some v → q.key (suc j) t v ≡ Some key
      → records_made q j (drop i (outputs_at t k values)) ≡ record { time = t; key = key; tag = record { 0 = k; 1 = i }; value = v } ∷ records_made q j (drop (suc i) (outputs_at t k values))
  records_go_on t k i values v key e keyed =
      ap (records_made q j) (outputs_go_on t k i values v e)
      ∙ ap (λ (o : Option ℕ). cons_option (option_map (λ l. record { time = t; key = l; tag = record { 0 = k; 1 = i }; value = v }) o) (records_made q j (drop (suc i) (outputs_at t k values)))) keyed

-- The names of a list where an item is put at its place

distinct_left : (xs ys : List Name) → Distinct (xs ++ ys) → Distinct xs
distinct_left [] ys d = tt
distinct_left (x ∷ xs) ys d = (false_from_ne_true (has xs x) (λ i. both_ways (has (xs ++ ys) x) d.0 (In_left x xs ys i)), distinct_left xs ys d.1)

distinct_right : (xs ys : List Name) → Distinct (xs ++ ys) → Distinct ys
distinct_right [] ys d = d
distinct_right (x ∷ xs) ys d = distinct_right xs ys d.1

module _ {X : Type 0} (rank : X → List ℕ) (f : X → Name) where
  once_named : (xs : List X) → Distinct (map f xs) → Pairs (λ x y. f x ≡ f y → ⊥) xs
  once_named [] d = tt
  once_named (x ∷ xs) d = ((λ y i e. both_ways (has (map f xs) (f x)) d.0 (subst (λ (z : Name). In z (map f xs)) (sym e) (named_In f xs y i))), once_named xs d.1)

  put_named : (x : X) (ys : List X) (z : Name) → In z (map f (put_in_order rank x ys)) → (f x ≡ z) ⊎ In z (map f ys)
  put_named x ys z i =
      let a = In_named f (put_in_order rank x ys) z i in
      ⊎_elim
      (λ (e : x ≡ a.0). inl (ap f e ∙ a.2))
      (λ (k : Contains ys a.0). inr (subst (λ (n : Name). In n (map f ys)) a.2 (named_In f ys a.0 k)))
      (Contains-put rank x ys a.0 a.1)

  named_put : (x : X) (ys : List X) (z : Name) → (f x ≡ z) ⊎ In z (map f ys) → In z (map f (put_in_order rank x ys))
  named_put x ys z h =
      ⊎_elim
      (λ (e : f x ≡ z). subst (λ (n : Name). In n (map f (put_in_order rank x ys))) e (named_In f (put_in_order rank x ys) x (put-Contains rank x ys x (inl refl))))
      (λ (i : In z (map f ys)).
      let a = In_named f ys z i in
      subst (λ (n : Name). In n (map f (put_in_order rank x ys))) a.2 (named_In f (put_in_order rank x ys) a.0 (put-Contains rank x ys a.0 (inr a.1))))
      h

  put_once : (x : X) (ys : List X) → Distinct (f x ∷ map f ys) → Distinct (map f (put_in_order rank x ys))
  put_once x ys d =
      named_once f (put_in_order rank x ys)
      (Pairs-put rank (λ y z. f y ≡ f z → ⊥) (λ y z apart e. apart (sym e)) x ys (λ y i e. both_ways (has (map f ys) (f x)) d.0 (subst (λ (z : Name). In z (map f ys)) (sym e) (named_In f ys y i))) (once_named ys d.1))

  -- behind other names

  pub behind_named : (rest : List Name) (x : X) (ys : List X) (z : Name) → (In z (rest ++ map f (put_in_order rank x ys)) ↔ In z (f x ∷ rest ++ map f ys))
  behind_named rest x ys z = (
    (λ i.
        ⊎_elim
        (λ (k : In z rest). In_later z (f x) (rest ++ map f ys) (In_left z rest (map f ys) k))
        (λ (k : In z (map f (put_in_order rank x ys))).
        ⊎_elim
        (λ (e : f x ≡ z). subst (λ (n : Name). In n (f x ∷ rest ++ map f ys)) e (In_here (f x) (rest ++ map f ys)))
        (λ (m : In z (map f ys)). In_later z (f x) (rest ++ map f ys) (In_right z rest (map f ys) m))
        (put_named x ys z k))
        (In_append z rest (map f (put_in_order rank x ys)) i)),
    (λ i.
        ⊎_elim
        (λ (e : f x ≡ z). In_right z rest (map f (put_in_order rank x ys)) (named_put x ys z (inl e)))
        (λ (k : In z (rest ++ map f ys)).
        ⊎_elim
        (λ (m : In z rest). In_left z rest (map f (put_in_order rank x ys)) m)
        (λ (m : In z (map f ys)). In_right z rest (map f (put_in_order rank x ys)) (named_put x ys z (inr m)))
        (In_append z rest (map f ys) k))
        (In_cases z (f x) (rest ++ map f ys) i)),
  )

  pub behind_once : (rest : List Name) (x : X) (ys : List X) → Distinct (f x ∷ rest ++ map f ys) → Distinct (rest ++ map f (put_in_order rank x ys))
  behind_once rest x ys d =
      let own : has (map f ys) (f x) ≡ false = false_from_ne_true (has (map f ys) (f x)) (λ i. both_ways (has (rest ++ map f ys) (f x)) d.0 (In_right (f x) rest (map f ys) i)) in
      Distinct_append rest (map f (put_in_order rank x ys)) (distinct_left rest (map f ys) d.1) (put_once x ys (own, distinct_right rest (map f ys) d.1))
      (λ z i. false_from_ne_true (has (map f (put_in_order rank x ys)) z) (λ k.
      ⊎_elim
      (λ (e : f x ≡ z). both_ways (has (rest ++ map f ys) (f x)) d.0 (In_left (f x) rest (map f ys) (subst (λ (n : Name). In n rest) (sym e) i)))
      (λ (m : In z (map f ys)). both_ways (has rest z) (once_apart rest (map f ys) z d.1 m) i)
      (put_named x ys z k)))

-- a row of which only the name is held yet goes to its place
pub row_is_held : {Cell : Type 0} (q : QueryFacts Cell) (job : JobFacts) (w : ℕ) (log : Log) (row : Output) (rest : List Name) (rows : List Output)
    → HoldsRowsBut q job w log (name_of_row row ∷ rest) rows → HoldsRowsBut q job w log rest (put_in_order place_rank row rows)
row_is_held q job w log row rest rows h = record {
  once = behind_once place_rank name_of_row rest row rows h.once;
  unsent = λ z. let a = behind_named place_rank name_of_row rest row rows z in ((λ i. (h.unsent z).0 (a.0 i)), (λ u. a.1 ((h.unsent z).1 u)));
}

pub outputs_go_in_turn : {Cell : Type 0} (q : QueryFacts Cell) (job : JobFacts) → OutputsGoInTurn q job
outputs_go_in_turn q job = record { outputs = outputs_go_on; over = outputs_end; records = records_go_on q; rows = row_is_held q job }
