use Rattle.std.proofs.Common.{◌∙◌, ◌<◌, ◌%◌, ℕ, ap, arith, mod-lt, subst, sym}
use Rattle.std.specs.Prelude.{slice_index_or}
use Rattle.mp_layout.proofs.FirstTable.{among_is_worker, none_outside, owner_there}
use Rattle.mp_layout.proofs.firsts.FirstOwners.of.Goals as goal
use Rattle.mp_layout.proofs.firsts.FirstOwners.of.Goals.{else-stage-shape-via-then-stage-shape+else-bin-shape, else-stage-shape-via-else-stage-shape}

pub returns-then-bin-shape-clause-owner : goal.returns-then-bin-shape-clause-owner
returns-then-bin-shape-clause-owner c =
    let i = c.self.inside in
    rw
    (← c.self.view_is)
    (c.index.ensures ∙ ap (λ (n : ℕ). slice_index_or i.owners.items n c.index.result.now) c.bin_index.ensures
    ∙ owner_there i.shape i.firsts.items i.owners.items c.self.invariant.2 c.args.stage c.args.bin c.index.result.now c.if-stage-shape.true c.if-bin-shape.true)

pub returns-then-bin-shape-clause-worker : goal.returns-then-bin-shape-clause-worker
returns-then-bin-shape-clause-worker c =
    let i = c.self.inside in
    let is =
    c.index.ensures ∙ ap (λ (n : ℕ). slice_index_or i.owners.items n c.index.result.now) c.bin_index.ensures
    ∙ owner_there i.shape i.firsts.items i.owners.items c.self.invariant.2 c.args.stage c.args.bin c.index.result.now c.if-stage-shape.true c.if-bin-shape.true
    in
    rw
    (← c.self.view_is)
    (subst (λ (w : ℕ). w < i.shape.workers) (sym is)
    (among_is_worker i.shape i.firsts.items c.self.invariant.1 c.args.stage c.args.bin (c.args.bin % i.shape.workers) (mod-lt c.args.bin c.self.invariant.0.0)))

pub returns-clause-owner : goal.returns-clause-owner
returns-clause-owner c =
    let i = c.self.inside in
    rw
    (← c.self.view_is)
    (sym (none_outside i.shape i.firsts.items c.self.invariant.1 c.args.stage c.args.bin (c.args.bin % i.shape.workers) (λ inside.
    elim c.else-stage-shape.branch [
      | else-stage-shape-via-then-stage-shape+else-bin-shape w ↦ let a = w.if-bin-shape.false in let b = inside.1 in omega arith
      | else-stage-shape-via-else-stage-shape w ↦ let a = w.if-stage-shape.false in let b = inside.0 in omega arith
    ])))
