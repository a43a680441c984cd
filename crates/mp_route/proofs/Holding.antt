-- A router that holds one more record.
use Rattle.std.proofs.Common.{◌≡◌, ℕ, List, [], ◌∷◌, All, sym, subst, inl, inr, ⊎_elim}
use Rattle.std.proofs.Common.{Result, OnOk, OnErr, Ok, Err}
use Rattle.std.proofs.lemmas.Bool.{false_from_ne_true}
use Rattle.mp_names.specs.declared.names.Name.{Name}
use Rattle.mp_names.specs.Logs.{Log}
use Rattle.mp_names.specs.Names.{In, has}
use Rattle.mp_names.proofs.Lists.{In_cases, In_here, In_later}
use Rattle.mp_model.specs.declared.record.Rec.{Rec}
use Rattle.mp_model.specs.Facts.{JobFacts, QueryFacts}
use Rattle.mp_ordered.specs.InOrder.{InOrder, put_in_order}
use Rattle.mp_ordered.proofs.Placing.{put_all}
use Rattle.mp_outline.specs.JobOutline.{name_of_record}
use Rattle.mp_route.specs.Routed.{Routed, tag_rank}
use Rattle.mp_route.specs.Unsent.{HoldsAllBut, HoldsOneMore, HoldsUnsent, names_held}
use Rattle.mp_route.proofs.Placed.{In_put_behind, put_In_behind, put_once_behind}

-- the list with the records that routers of this stage hold
abbrev pub routed : ℕ → InOrder Rec → Routed
routed j records = record { stage = j; held = records.items; room = records.room }

-- what holds of the record and of all that is held holds of all that is held then
pub all_held : {T E : Type 0} (P : Rec → Type 0) (r : Rec) (old new : InOrder Rec) (result : Result T E) → P r → All P old.items → OnOk result (new.items ≡ put_in_order tag_rank r old.items) → OnErr result (new ≡ old) → All P new.items
all_held P r old new (Ok x) p h e f = subst (All P) (sym e) (put_all tag_rank P r old.items p h)
all_held P r old new (Err x) p h e f = subst (λ (l : InOrder Rec). All P l.items) (sym f) h

module _ {Cell : Type 0} (q : QueryFacts Cell) (job : JobFacts) (w j : ℕ) (r : Rec) (old new : InOrder Rec) (put : new.items ≡ put_in_order tag_rank r old.items) where
  -- the record is one of those that are still to come
  pub in_turn : (log : Log) (rest : List Name) → HoldsAllBut q job w log (name_of_record j r ∷ rest) (routed j old) → HoldsAllBut q job w log rest (routed j new)
  in_turn log rest h =
      subst
      (λ (items : List Rec). HoldsAllBut q job w log rest (routed j (record { items = items; room = new.room })))
      (sym put)
      (record {
        once = put_once_behind tag_rank (name_of_record j) r rest old.items h.once;
        unsent = λ x. ((λ i. (h.unsent x).0 (In_put_behind tag_rank (name_of_record j) r rest old.items x i)), (λ u. put_In_behind tag_rank (name_of_record j) r rest old.items x ((h.unsent x).1 u)));
      })

  -- the record alone is to come
  pub one_more : (before log : Log) → HoldsUnsent q job w before (routed j old) → HoldsOneMore q job w before log j (name_of_record j r) → HoldsUnsent q job w log (routed j new)
  one_more before log h m =
      let x = name_of_record j r in
      let names = names_held (routed j old) in
      in_turn log [] (record {
        once = (false_from_ne_true (has names x) (λ i. m.not_before ((h.unsent x).0 i)), h.once);
        unsent = λ y. (
          (λ i. (m.now y).1 (⊎_elim (λ (e : x ≡ y). inr (sym e)) (λ (k : In y names). inl ((h.unsent y).0 k)) (In_cases y x names i))),
          (λ u. ⊎_elim (λ b. In_later y x names ((h.unsent y).1 b)) (λ (e : y ≡ x). subst (λ (z : Name). In z (x ∷ names)) (sym e) (In_here x names)) ((m.now y).0 u)),
        );
      })
