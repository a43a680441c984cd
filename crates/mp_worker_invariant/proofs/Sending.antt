-- Answer rows that are to be sent: the first in their order is the least by the log, and is gone once it is sent.
use Rattle.std.proofs.Common.{◌≡◌, ◌<◌, ℕ, Bool, false, List, [], ◌∷◌, ◌++◌, map, Contains, refl, sym, ◌∙◌, subst, ⊎_elim, arith}
use Rattle.std.proofs.lemmas.Bool.{false≢true, both_ways, false_from_ne_true}
use Rattle.std.proofs.lemmas.List.Elements.{All-contains}
use Rattle.mp_names.specs.declared.names.Name.{Name}
use Rattle.mp_names.specs.Names.{has, In, IsBefore, IsLeast, Less, is_before, is_row}
use Rattle.mp_names.specs.Outlines.{Outline}
use Rattle.mp_names.specs.Logs.{Log, with_sent}
use Rattle.mp_names.specs.Keeping.{IsHeld}
use Rattle.mp_names.proofs.Lists.{In_cases, In_here, In_later, In_left, In_push, In_right}
use Rattle.mp_names.proofs.Orders.{is_before-from, less_irreflexive}
use Rattle.mp_model.specs.declared.record.Output.{Output}
use Rattle.mp_model.specs.Facts.{JobFacts, QueryFacts}
use Rattle.mp_job.proofs.Members.{Contains-cases}
use Rattle.mp_ordered.specs.InOrder.{IsInOrder}
use Rattle.mp_ordered.proofs.Placing.{pairs_head}
use Rattle.mp_outline.specs.JobOutline.{name_of_row, outline_of}
use Rattle.mp_outline.proofs.Named.{In_named}
use Rattle.mp_output.specs.Unwritten.{place_rank}
use Rattle.mp_worker_invariant.specs.Laws.{FirstRowsAreSent}
use Rattle.mp_worker_invariant.specs.Parts.{HoldsRowsBut}
use Rattle.mp_worker_invariant.proofs.Unheard.{given_alike}

module _ (o : Outline) (w : ℕ) (p : Name → Bool) (log : Log) (x y : Name) where
  -- what is held by the log but for the name is held by the log with the name sent
  pub sent_held : (x ≡ y → ⊥) → IsHeld o w log p y → IsHeld o w (with_sent log x) p y
  sent_held n h = (
    h.0,
    h.1,
    sym (given_alike o w log (with_sent log x) refl refl y) ∙ h.2,
    false_from_ne_true (has (log.sent ++ x ∷ []) y) (λ i. ⊎_elim (λ (k : In y log.sent). both_ways (has log.sent y) h.3 k) n (In_push y x log.sent i)),
  )

  -- and nothing else is
  pub held_sent : IsHeld o w (with_sent log x) p y → (x ≡ y → ⊥) × IsHeld o w log p y
  held_sent h = (
    (λ e. both_ways (has (log.sent ++ x ∷ []) y) h.3 (subst (λ (z : Name). In z (log.sent ++ x ∷ [])) e (In_right x log.sent (x ∷ []) (In_here x [])))),
    (
      h.0,
      h.1,
      given_alike o w log (with_sent log x) refl refl y ∙ h.2,
      false_from_ne_true (has log.sent y) (λ i. both_ways (has (log.sent ++ x ∷ []) y) h.3 (In_left y log.sent (x ∷ []) i)),
    ),
  )

-- a row that doesn't stand before another has no lesser name
not_less : (s r : Output) → is_before (place_rank s) (place_rank r) ≡ false → Less (name_of_row s) (name_of_row r) → ⊥
not_less s r n h =
    ⊎_elim
    (λ (e : 3 < 3). omega arith)
    (λ (e : (3 ≡ 3) × IsBefore (place_rank s) (place_rank r)). both_ways (is_before (place_rank s) (place_rank r)) n (is_before-from (place_rank s) (place_rank r) e.1))
    h

module _ {Cell : Type 0} (q : QueryFacts Cell) (job : JobFacts) (w : ℕ) (log : Log) where
  pub row_is_sent : (row : Output) (rest : List Output) → HoldsRowsBut q job w log [] (row ∷ rest) → HoldsRowsBut q job w (with_sent log (name_of_row row)) [] rest
  row_is_sent row rest h =
      let o = outline_of q job in
      let x = name_of_row row in
      let names = map name_of_row rest in
      record {
        once = h.once.1;
        unsent = λ y. (
          (λ i. sent_held o w is_row log x y (λ e. both_ways (has names x) h.once.0 (subst (λ (z : Name). In z names) (sym e) i)) ((h.unsent y).0 (In_later y x names i))),
          (λ u. let a = held_sent o w is_row log x y u in ⊎_elim (λ (e : x ≡ y). absurd (a.0 e)) (λ (i : In y names). i) (In_cases y x names ((h.unsent y).1 a.1))),
        );
      }

  pub first_row_is_least : (row : Output) (rest : List Output) → IsInOrder place_rank (row ∷ rest) → HoldsRowsBut q job w log [] (row ∷ rest) → IsLeast (IsHeld (outline_of q job) w log is_row) (name_of_row row)
  first_row_is_least row rest order h = (
    (h.unsent (name_of_row row)).0 (In_here (name_of_row row) (map name_of_row rest)),
    (λ y u less.
        let a = In_named name_of_row (row ∷ rest) y ((h.unsent y).1 u) in
        let before : Less (name_of_row a.0) (name_of_row row) = subst (λ (z : Name). Less z (name_of_row row)) (sym a.2) less in
        ⊎_elim
        (λ (e : row ≡ a.0). less_irreflexive (name_of_row row) (subst (λ (r : Output). Less (name_of_row r) (name_of_row row)) (sym e) before))
        (λ (i : Contains rest a.0). not_less a.0 row (All-contains (λ s. is_before (place_rank s) (place_rank row) ≡ false) rest a.0 (pairs_head (λ r s. is_before (place_rank s) (place_rank r) ≡ false) row rest order) i) before)
        (Contains-cases row a.0 rest a.1)),
  )

  -- where no row is here none is held by the log
  pub no_row_is_held : HoldsRowsBut q job w log [] [] → (x : Name) → IsHeld (outline_of q job) w log is_row x → ⊥
  no_row_is_held h x u = false≢true ((h.unsent x).1 u)

  pub first_rows_are_sent : FirstRowsAreSent q job w log
  first_rows_are_sent = record { least = first_row_is_least; sent = row_is_sent; none = no_row_is_held }
