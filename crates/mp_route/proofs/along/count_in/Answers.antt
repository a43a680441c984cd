use Rattle.std.proofs.Common.{◌≡◌, ◌<◌, ◌≤◌, ◌∙◌, ◌∷◌, [], true, ap, arith, filter, length, length-append, sym, take}
use Rattle.std.proofs.lemmas.Bool.{eq-eqb}
use Rattle.mp_route.specs.Along.{goes_to, is_at}
use Rattle.mp_route.proofs.Firsts.{first_goes, other_goes}
use Rattle.mp_route.proofs.Counting.{all_more, one_in, one_out}
use Rattle.mp_route.proofs.along.count_in.Goals as goal
use Rattle.mp_route.proofs.along.count_in.Goals.{then-goes_next, else-goes_next}

pub goes_next-requires-clause-first : goal.goes_next-requires-clause-first
goes_next-requires-clause-first c none =
    let rs = c.args.block.now.items in
    let inside : c.loop-looked.looked < length rs = omega (arith, c.loop-looked-test.true, c.len-looked-end.ensures, c.args.block.now.ok.0) in
    let upto : c.args.before ≤ c.loop-looked.chosen = omega (arith, c.loop-looked.invariant.chosen) in
    first_goes c.args.owners.now c.args.along rs c.loop-looked.looked c.args.before c.loop-looked.chosen c.index-rec.result.now inside c.index-rec.ensures c.requires.first c.loop-looked.invariant.some upto none

pub loop-looked-preserved : goal.loop-looked-preserved
loop-looked-preserved c =
    let rs = c.args.block.now.items in
    let i = c.loop-looked.looked in
    let r = c.index-rec.result.now in
    let a = c.args.along in
    let p = goes_to c.args.owners.now a in
    let inside : i < length rs = omega (arith, c.loop-looked-test.true, c.len-looked-end.ensures, c.args.block.now.ok.0) in
    let timed : is_at a r ≡ true = eq-eqb r.time a.time (omega (arith, c.if-rec-along.false)) in
    let time = all_more (is_at a) rs i r inside c.index-rec.ensures timed c.loop-looked.invariant.time in
    let upto : c.args.before ≤ c.loop-looked.chosen = omega (arith, c.loop-looked.invariant.chosen) in
    let some = other_goes c.args.owners.now a rs i c.args.before c.loop-looked.chosen r inside c.index-rec.ensures c.requires.first c.loop-looked.invariant.some upto in
    elim c.if-goes_next.branch [
      | then-goes_next w ↦
          let more = ap length (one_in p rs i r inside c.index-rec.ensures (sym c.goes_next.ensures ∙ w.if-goes_next.true)) in
          rw w.chosen-is (record { time = time; chosen = omega (arith, more, length-append (filter p (take i rs)) (r ∷ []), c.loop-looked.invariant.chosen); few = omega (arith, c.loop-looked.invariant.few, c.if-chosen-eq-MAX_BUNDLE.false); some = λ l. omega arith })
      | else-goes_next w ↦
          let more = ap length (one_out p rs i r inside c.index-rec.ensures (sym c.goes_next.ensures ∙ w.if-goes_next.false)) in
          rw w.chosen-is (record { time = time; chosen = omega (arith, more, c.loop-looked.invariant.chosen); few = c.loop-looked.invariant.few; some = λ l. some (sym c.goes_next.ensures ∙ w.if-goes_next.false) })
    ]
