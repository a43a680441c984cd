use Rattle.std.proofs.Common.{◌≡◌, ◌∙◌, ◌<◌, false, sym, ap, subst, length, ℕ, ⊎_elim, ◌⊎◌, arith, length-append, refl}
use Rattle.std.proofs.lemmas.List.{drop_at}
use Rattle.mp_names.specs.Names.{is_before}
use Rattle.mp_ordered.specs.InOrder.{IsInOrder}
use Rattle.mp_ordered_runs.specs.Runs.{first_run}
use Rattle.mp_ordered.proofs.Placed.{pairs_back}
use Rattle.mp_ordered_runs.proofs.Running.{first_run_is}
use Rattle.mp_ordered_runs.proofs.runs.OrderedRuns.drop_first.Goals as goal

pub invariant_of-self : goal.invariant_of-self
invariant_of-self g c =
    let rank = g.O.Order.rank in
    let s = c.self.inside in
    let inv = c.self.invariant in
    let parts = length-append c.take_run.new.run.items c.take_run.new.rest.items in
    record {
      order = subst (IsInOrder rank) (sym c.take_run.ensures.items) (pairs_back (λ x y. is_before (rank y) (rank x) ≡ false) s.run.items s.rest.items inv.order);
      kind = c.take_run.ensures.kind;
      ends = c.take_run.ensures.ends;
      room = omega (arith, c.take_run.ensures.room);
      memory = omega (arith, c.take_run.ensures.room, c.take_run.ensures.memory, c.clear.ensures.capacity, inv.memory, ap length c.take_run.ensures.items, parts);
    }

whole : (count run : ℕ) → (count ≡ 0) ⊎ (count ≡ run) → 0 < count → count ≡ run
whole count run e l = ⊎_elim (λ (f : count ≡ 0). absurd (omega arith)) (λ (f : count ≡ run). f) e

pub returns-then-count-gt0-clause-items : goal.returns-then-count-gt0-clause-items
returns-then-count-gt0-clause-items g c =
    let s = c.self.inside in
    let run = first_run_is g.O.Kinds.same s.run.items s.rest.items c.self.invariant.kind c.self.invariant.ends in
    let is = whole c.args.count _ c.requires c.if-count-gt0.true ∙ ap (λ o. length (first_run g.O.Kinds.same o.items)) (sym c.self.view_is) ∙ ap length run in
    rw (← c.self.view_is, is) (c.take_run.ensures.items ∙ sym (drop_at s.run.items s.rest.items (length s.run.items) refl))

pub returns-then-count-gt0-clause-room : goal.returns-then-count-gt0-clause-room
returns-then-count-gt0-clause-room g c =
    let s = c.self.inside in
    let run = first_run_is g.O.Kinds.same s.run.items s.rest.items c.self.invariant.kind c.self.invariant.ends in
    let is = whole c.args.count _ c.requires c.if-count-gt0.true ∙ ap (λ o. length (first_run g.O.Kinds.same o.items)) (sym c.self.view_is) ∙ ap length run in
    rw (← c.self.view_is, is) (omega (arith, c.take_run.ensures.room, c.self.invariant.room))
