-- What the cells of a bin are once a group of a key of it is stepped.
use Rattle.std.proofs.Common.{◌≡◌, ◌≢◌, ◌⊎◌, ℕ, ◌==◌, nat_eq, true, cond, Some, Contains, inl, inr, ⊎_elim}
use Rattle.std.specs.HashMap.{HashMap, get}
use Rattle.mp_model.specs.Entry.{Entry}
use Rattle.mp_model.specs.Facts.{QueryFacts}
use Rattle.mp_msg.specs.States.{by_key, cell_in}
use Rattle.mp_msg.proofs.Sorted.{there-by_key}
use Rattle.mp_host_states.specs.Cells.{cell_of}
use Rattle.mp_host_states.proofs.Finding.{cell_is}

module _ {Cell S : Type 0} (q : QueryFacts Cell) (j : ℕ) (cells : HashMap ℕ Cell S) (e : Entry) where
  pub step_fits : q.fits j (cell_in (q.fresh j) (by_key cells.entries) e.key) e ≡ true → q.fits j (cell_of (q.fresh j) cells e.key) e ≡ true
  step_fits f = rw (← cell_is (q.fresh j) cells e.key) f

  pub step_cells : (new : HashMap ℕ Cell S)
      → ((l : ℕ) → cell_of (q.fresh j) new l ≡ cond (l == e.key) (q.step j (cell_of (q.fresh j) cells e.key) e) (cell_of (q.fresh j) cells l))
      → (l : ℕ) → cell_in (q.fresh j) (by_key new.entries) l ≡ cond (l == e.key) (q.step j (cell_in (q.fresh j) (by_key cells.entries) e.key) e) (cell_in (q.fresh j) (by_key cells.entries) l)
  step_cells new f l = rw (cell_is (q.fresh j) new l, cell_is (q.fresh j) cells e.key, cell_is (q.fresh j) cells l) (f l)

  -- a cell that stands there is an old one, or that of the group's key
  pub step_keeps : (new : HashMap ℕ Cell S)
      → ((l : ℕ) (c : Cell) → get nat_eq new l ≡ Some c → (get nat_eq cells l ≡ Some c) ⊎ ((l ≡ e.key) × (c ≢ q.fresh j)))
      → (l : ℕ) (c : Cell) → Contains (by_key new.entries) (l, c) → Contains (by_key cells.entries) (l, c) ⊎ ((l ≡ e.key) × (c ≢ q.fresh j))
  step_keeps new f l c i =
      ⊎_elim
      (λ (old : get nat_eq cells l ≡ Some c). inl ((there-by_key cells.entries l c).1 old))
      (λ (one : (l ≡ e.key) × (c ≢ q.fresh j)). inr one)
      (f l c ((there-by_key new.entries l c).0 i))
