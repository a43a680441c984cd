use Rattle.std.proofs.Common.{◌≡◌, ◌<◌, ◌≤◌, ◌+◌, ℕ, Ok, ap, refl, length, sym, ◌∙◌, subst, ⊎_elim, arith}
use Rattle.std.proofs.lemmas.Bool.{cases_lt}
use Rattle.mp_names.specs.Outlines.{Outline}
use Rattle.mp_machine.specs.Worlds.{World}
use Rattle.mp_journal_laws.specs.Journals.{Journal}
use Rattle.mp_journal_laws.specs.Searches.{MayBeTaken}
use Rattle.mp_journal_laws.proofs.Versions.{not_empty}
use Rattle.mp_audit.specs.Going.{Leads, Tries}
use Rattle.mp_audit.specs.Lists.{list_of}
use Rattle.mp_audit.proofs.Lists.{none_past}
use Rattle.mp_audit.proofs.Going.{leads_nowhere, leads_further}
use Rattle.mp_audit.proofs.searching.pass.Goals as goal

pub loop-worker-init : goal.loop-worker-init
loop-worker-init g c =
    let o = g.P.Play.outline c.args.player.now in
    let deep = g.P.Play.depth c.args.player.now in
    let first = list_of c.args.left.now in
    record {
      outline = refl;
      depth = refl;
      workers = refl;
      went = λ world shows. (world, leads_nowhere o deep world first, shows, (λ z w l. absurd (omega arith)));
    }

pub loop-worker-preserved : goal.loop-worker-preserved
loop-worker-preserved g c =
    let o = g.P.Play.outline c.args.player.now in
    let deep = g.P.Play.depth c.args.player.now in
    let i = c.loop-worker.invariant in
    let e = c.in-Ok.ensures in
    let first = list_of c.args.left.now in
    let left = list_of c.loop-worker.left in
    let still = list_of c.take_all.new.left in
    let old = g.P.Play.shows c.loop-worker.player in
    let new = g.P.Play.shows c.take_all.new.player in
    let n = c.loop-worker.taken in
    let k = c.in-Ok.some in
    let w = c.loop-worker.worker in
    let tries = subst (λ (d : ℕ). Tries o d old left new still w k) i.depth (subst (λ (p : Outline). Tries p (g.P.Play.depth c.loop-worker.player) old left new still w k) i.outline e.went) in
    let sum : c.in-Some.more ≡ n + k = c.in-Some.ensures.1 in
    record {
      outline = e.outline ∙ i.outline;
      depth = e.depth ∙ i.depth;
      workers = e.workers ∙ i.workers;
      went = λ world shows.
          let a = i.went world shows in
          let b = tries a.0 a.2 in (
            b.0,
            subst (λ (m : ℕ). Leads o deep world first b.0 still m) (sym sum) (leads_further o deep world a.0 b.0 first left still n k a.1 b.1),
            b.2,
            (λ z v l step may.
                let n_none : n ≡ 0 = omega arith in
                let k_none : k ≡ 0 = omega arith in
                let r = b.3 k_none in
                let kept : still ≡ left = ap list_of (e.still (ap Ok k_none)) in
                ⊎_elim
                (λ (before : v < w). a.3 n_none v before step (subst (λ (j : Journal). MayBeTaken o deep a.0 j v step) kept (subst (λ (x : World). MayBeTaken o deep x still v step) r.0 may)))
                (λ (here : w ≤ v). let is : v ≡ w = omega arith in r.1 step (subst (λ (u : ℕ). MayBeTaken o deep b.0 still u step) is may))
                (cases_lt v w)),
          );
    }

pub returns-clause-went : goal.returns-clause-went
returns-clause-went g c = λ world shows.
    let a = c.loop-worker.invariant.went world shows in (
      a.0,
      a.1,
      a.2,
      (λ z w step may.
          ⊎_elim
          (λ (l : w < c.loop-worker.worker). a.3 z w l step may)
          (λ (l : c.loop-worker.worker ≤ w).
          let end = c.loop-worker-test.false in
          let past : length c.loop-worker.left ≤ w = omega (arith, l, end, c.loop-worker.invariant.workers, c.workers-worker-end.ensures) in
          not_empty step _ (sym (none_past c.loop-worker.left w past) ∙ may.next))
          (cases_lt w c.loop-worker.worker)),
    )
