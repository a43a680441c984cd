use Rattle.std.proofs.Common.{◌≡◌, ◌<◌, ℕ, Ok, length, ap, refl, ◌∙◌, subst, arith}
use Rattle.mp_names.specs.Outlines.{Outline}
use Rattle.mp_audit.specs.Going.{Goes}
use Rattle.mp_audit.specs.Lists.{list_of}
use Rattle.mp_audit.proofs.Going.{leads_nowhere, leads_further}
use Rattle.mp_audit.proofs.Lists.{fewer_by_one, nothing_next}
use Rattle.mp_audit.proofs.searching.take_all.Goals as goal

pub loop-init : goal.loop-init
loop-init g c =
    let o = g.P.Play.outline c.args.player.now in
    let deep = g.P.Play.depth c.args.player.now in
    record {
      outline = refl;
      depth = refl;
      workers = refl;
      counted = refl;
      fewer = omega arith;
      still = λ z. refl;
      went = λ world shows. (world, leads_nowhere o deep world (list_of c.args.left.now), shows, (λ z. refl));
    }

pub loop-preserved : goal.loop-preserved
loop-preserved g c =
    let o = g.P.Play.outline c.args.player.now in
    let deep = g.P.Play.depth c.args.player.now in
    let i = c.loop.invariant in
    let e = c.in_ok-take_next.ensures in
    let first = list_of c.args.left.now in
    let left = list_of c.loop.left in
    let still = list_of c.take_next.new.left in
    let old = g.P.Play.shows c.loop.player in
    let new = g.P.Play.shows c.take_next.new.player in
    let n = c.loop.taken in
    let made = ap Ok c.if-not-branch.false in
    let goes = subst (λ (d : ℕ). Goes o d old left new still 1) i.depth (subst (λ (p : Outline). Goes p (g.P.Play.depth c.loop.player) old left new still 1) i.outline (e.taken made)) in
    let low : c.args.worker < length c.loop.left = omega (arith, c.requires.worker, i.workers) in
    let less = fewer_by_one c.loop.left c.take_next.new.left c.args.worker low (e.one made) (e.some made) in
    record {
      outline = e.outline ∙ i.outline;
      depth = e.depth ∙ i.depth;
      workers = less.0 ∙ i.workers;
      counted = (let before = i.counted in omega arith);
      fewer = (let before = i.fewer in let one = less.1 in omega arith);
      still = λ z. absurd (omega arith);
      went = λ world shows.
          let a = i.went world shows in
          let b = goes a.0 a.2 in
          (b.0, leads_further o deep world a.0 b.0 first left still n 1 a.1 b.1, b.2, (λ z. absurd (omega arith)));
    }

pub returns-clause-went : goal.returns-clause-went
returns-clause-went g c = λ world shows.
    let i = c.loop.invariant in
    let a = i.went world shows in (
      a.0,
      a.1,
      a.2,
      (λ z. (
        a.3 z,
        (λ step may.
            let none : length (list_of c.loop.left c.args.worker) ≡ 0 = omega (arith, i.counted, i.fewer, c.loop-test.false, c.count-end.ensures) in
            nothing_next (list_of c.loop.left c.args.worker) step none may.next),
      )),
    )
