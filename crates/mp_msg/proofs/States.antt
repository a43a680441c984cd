-- A bin has one state just before a time.
use Rattle.std.proofs.Common.{◌≡◌, ℕ, List, Contains, sym, ap, ◌∙◌}
use Rattle.mp_model.specs.Facts.{JobFacts, QueryFacts}
use Rattle.mp_postdated.proofs.Several.{same_wakes}
use Rattle.mp_postdated.specs.Wakes.{Has}
use Rattle.mp_msg.proofs.Cells.{cell_in-there, same_cells, there-cell_in}
use Rattle.mp_msg.specs.Laws.{StatesFollowNames}
use Rattle.mp_msg.specs.States.{BinContent, IsStateBefore}

module _ {Cell : Type 0} where
  -- its cells and wakes are all that a bin has
  pub same_content : (s r : BinContent Cell) → s.cells ≡ r.cells → s.wakes ≡ r.wakes → s ≡ r
  same_content s r a b =
      ap (λ (cells : List (ℕ × Cell)). record { cells = cells; wakes = s.wakes }) a ∙ ap (λ (wakes : List (ℕ × ℕ)). record { cells = r.cells; wakes = wakes }) b

  module _ (q : QueryFacts Cell) (job : JobFacts) (j b t : ℕ) where
    -- what is in one of two states is in the other
    cells_carry : (s r : BinContent Cell) → IsStateBefore q job j b t s → IsStateBefore q job j b t r → (k : ℕ) (c : Cell) → Contains s.cells (k, c) → Contains r.cells (k, c)
    cells_carry s r h i k c there =
        let own = h.own.cells k c there in
        there-cell_in (q.fresh j) r.cells k c (i.cells k own.0 ∙ (sym (h.cells k own.0) ∙ cell_in-there (q.fresh j) s.cells k c h.order.cells there)) own.1

    wakes_carry : (s r : BinContent Cell) → IsStateBefore q job j b t s → IsStateBefore q job j b t r → (u k : ℕ) → Has s.wakes u k → Has r.wakes u k
    wakes_carry s r h i u k there =
        let own = h.own.wakes u k there in
        (i.wakes u k own).1 ((h.wakes u k own).0 there)

    pub same_state : (s r : BinContent Cell) → IsStateBefore q job j b t s → IsStateBefore q job j b t r → s ≡ r
    same_state s r h i =
        same_content s r
        (same_cells s.cells r.cells h.order.cells i.order.cells (cells_carry s r h i) (cells_carry r s i h))
        (same_wakes s.wakes r.wakes h.order.wakes i.order.wakes (wakes_carry s r h i) (wakes_carry r s i h))

  pub states_follow_names : (q : QueryFacts Cell) (job : JobFacts) → StatesFollowNames q job
  states_follow_names q job j b t s r h i = same_state q job j b t s r h i
