-- The order in which control records go out has a place for each, and one alone.
use Rattle.std.proofs.Common.{◌≡◌, ◌∙◌, ℕ, ◌<◌, Bool, false, List, get_or, length, refl, sym, ap, inr, ⊎_elim, arith}
use Rattle.std.proofs.lemmas.List.{get_or_default}
use Rattle.mp_names.specs.declared.controls.Control.{Control}
use Rattle.mp_controller.specs.Controlling.{GoesBefore, IsSendingOrder, index_at, turn_time}

-- a list that holds each number at its place is the order of the list
pub in_list_order : (controls : List Control) (order : List ℕ) → length order ≡ length controls → ((p : ℕ) → p < length order → get_or order p 0 ≡ p) → IsSendingOrder false controls order
in_list_order controls order as_many at = record {
  as_many = as_many;
  listed = λ k d l. let e : get_or order k d ≡ k = get_or_default order k d 0 l ∙ at k l in omega arith;
  all = λ i l. let here : i < length order = omega arith in (i, here, get_or_default order i i 0 here ∙ at i here);
  by_turn = λ p k l m. let e = at p (omega arith) in let f = at k m in inr (refl, omega arith);
}

module _ (paced : Bool) (controls : List Control) (order : List ℕ) (ordered : IsSendingOrder paced controls order) where
  -- what stands at a place is an index
  pub index_listed : (p : ℕ) → p < length order → index_at order p < length controls
  index_listed p l = ordered.listed p 0 l

  -- an index has a place
  pub place_of : (i : ℕ) → i < length controls → (p : ℕ) × (p < length order) × (index_at order p ≡ i)
  place_of i l = let here = ordered.all i l in (here.0, here.1, get_or_default order here.0 0 i here.1 ∙ here.2)

  never_before_itself : (i k : ℕ) → i ≡ k → GoesBefore paced controls i k → ⊥
  never_before_itself i k e before =
      let same : turn_time paced controls i ≡ turn_time paced controls k = ap (turn_time paced controls) e in
      ⊎_elim (λ (l : turn_time paced controls i < turn_time paced controls k). omega arith) (λ (a : (turn_time paced controls i ≡ turn_time paced controls k) × (i < k)). omega arith) before

  -- and one alone
  pub one_place : (p k : ℕ) → p < length order → k < length order → index_at order p ≡ index_at order k → p ≡ k
  one_place p k l m e = grind (arith, never_before_itself (index_at order p) (index_at order k) e, never_before_itself (index_at order k) (index_at order p) (sym e), ordered.by_turn p k, ordered.by_turn k p)
