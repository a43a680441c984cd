use Rattle.std.proofs.Common.{◌≡◌, ◌<◌, ◌+◌, ◌∙◌, ◌++◌, ◌∷◌, [], ap, arith, filter, length, length-append, not, sym, take}
use Rattle.mp_route.specs.Along.{goes_to}
use Rattle.mp_route.proofs.Counting.{drop_head, filter_grows, one_in, one_out}
use Rattle.mp_route.proofs.along.take_first.Goals as goal
use Rattle.mp_route.proofs.along.take_first.Goals.{then-goes_to, else-goes_to}

pub push_reserved-requires : goal.push_reserved-requires
push_reserved-requires c =
    let rs = c.args.held.now.items in
    let i = c.loop-taken._taken in
    let r = c.in-Some.rec in
    let p = goes_to c.args.owners.now c.args.along in
    let inside : i < length rs = omega (arith, c.loop-taken-test.true, c.requires.inside) in
    let at = drop_head rs i r c.pop_first.new.self.items inside (sym c.loop-taken.invariant.held ∙ c.in-Some.ensures.some) in
    let more = ap length (one_in p rs i r inside at.0 (sym c.goes_to.ensures ∙ c.if-goes_to.true)) in
    omega (arith, more, length-append (filter p (take i rs)) (r ∷ []), filter_grows p rs (i + 1) c.args.looked (omega (arith, c.loop-taken-test.true)), c.requires.for_gone, c.loop-taken.invariant.for_gone, ap length c.loop-taken.invariant.gone, c.loop-taken.gone.ok)

pub push_reserved-requires-else-goes_to : goal.push_reserved-requires-else-goes_to
push_reserved-requires-else-goes_to c =
    let rs = c.args.held.now.items in
    let i = c.loop-taken._taken in
    let r = c.in-Some.rec in
    let p = goes_to c.args.owners.now c.args.along in
    let inside : i < length rs = omega (arith, c.loop-taken-test.true, c.requires.inside) in
    let at = drop_head rs i r c.pop_first.new.self.items inside (sym c.loop-taken.invariant.held ∙ c.in-Some.ensures.some) in
    let more = ap length (one_in (λ s. not (p s)) rs i r inside at.0 (ap not (sym c.goes_to.ensures ∙ c.if-goes_to.false))) in
    omega (arith, more, length-append (filter (λ s. not (p s)) (take i rs)) (r ∷ []), filter_grows (λ s. not (p s)) rs (i + 1) c.args.looked (omega (arith, c.loop-taken-test.true)), c.requires.for_kept, c.loop-taken.invariant.for_kept, ap length c.loop-taken.invariant.kept, c.loop-taken.kept.ok)

pub loop-taken-preserved : goal.loop-taken-preserved
loop-taken-preserved c =
    let rs = c.args.held.now.items in
    let i = c.loop-taken._taken in
    let r = c.in-Some.rec in
    let p = goes_to c.args.owners.now c.args.along in
    let inside : i < length rs = omega (arith, c.loop-taken-test.true, c.requires.inside) in
    let at = drop_head rs i r c.pop_first.new.self.items inside (sym c.loop-taken.invariant.held ∙ c.in-Some.ensures.some) in
    let room : c.pop_first.new.self.room ≡ c.args.held.now.room + (i + 1) = omega (arith, c.loop-taken.invariant.room, c.in-Some.ensures.room) in
    elim c.if-goes_to.branch [
      | then-goes_to w ↦
          let is = sym c.goes_to.ensures ∙ w.if-goes_to.true in
          let gone = w.push_reserved.ensures.items ∙ ap (λ xs. xs ++ r ∷ []) c.loop-taken.invariant.gone ∙ sym (one_in p rs i r inside at.0 is) in
          let kept = c.loop-taken.invariant.kept ∙ sym (one_out (λ s. not (p s)) rs i r inside at.0 (ap not is)) in
          rw (w.gone-is, w.kept-is)
          (record { gone = gone; kept = kept; held = at.1; room = room; for_gone = w.push_reserved.ensures.capacity ∙ c.loop-taken.invariant.for_gone; for_kept = c.loop-taken.invariant.for_kept })
      | else-goes_to w ↦
          let is = sym c.goes_to.ensures ∙ w.if-goes_to.false in
          let kept = w.push_reserved-else-goes_to.ensures.items ∙ ap (λ xs. xs ++ r ∷ []) c.loop-taken.invariant.kept ∙ sym (one_in (λ s. not (p s)) rs i r inside at.0 (ap not is)) in
          let gone = c.loop-taken.invariant.gone ∙ sym (one_out p rs i r inside at.0 is) in
          rw (w.gone-is, w.kept-is)
          (record { gone = gone; kept = kept; held = at.1; room = room; for_gone = c.loop-taken.invariant.for_gone; for_kept = w.push_reserved-else-goes_to.ensures.capacity ∙ c.loop-taken.invariant.for_kept })
    ]
