use Rattle.std.proofs.Common.{◌≡◌, ◌+◌, ℕ, refl, sym, ◌∙◌, subst, arith}
use Rattle.mp_names.specs.Outlines.{Outline}
use Rattle.mp_machine.specs.Worlds.{World, start_of_machine}
use Rattle.mp_machine.specs.Runs.{IsFinished}
use Rattle.mp_journal_laws.specs.Searches.{AllAreTaken}
use Rattle.mp_audit.specs.Going.{HasLegalMerge, Leads, Passes}
use Rattle.mp_audit.specs.Lists.{list_of}
use Rattle.mp_audit.proofs.Going.{leads_nowhere, leads_further, has_merge, has_none, if_found}
use Rattle.mp_audit.proofs.searching.go_on.Goals as goal

pub loop-init : goal.loop-init
loop-init g c =
    let o = g.P.Play.outline c.args.player.now in
    let deep = g.P.Play.depth c.args.player.now in
    record {
      outline = refl;
      depth = refl;
      workers = refl;
      went = λ world shows. (world, leads_nowhere o deep world (list_of c.args.left.now), shows);
    }

pub loop-preserved : goal.loop-preserved
loop-preserved g c =
    let o = g.P.Play.outline c.args.player.now in
    let deep = g.P.Play.depth c.args.player.now in
    let i = c.loop.invariant in
    let e = c.in-Ok.ensures in
    let left = list_of c.loop.left in
    let still = list_of c.pass.new.left in
    let old = g.P.Play.shows c.loop.player in
    let new = g.P.Play.shows c.pass.new.player in
    let passes = subst (λ (d : ℕ). Passes o d old left new still c.in-Ok.taken) i.depth (subst (λ (p : Outline). Passes p (g.P.Play.depth c.loop.player) old left new still c.in-Ok.taken) i.outline e.went) in
    record {
      outline = e.outline ∙ i.outline;
      depth = e.depth ∙ i.depth;
      workers = e.workers ∙ i.workers;
      went = λ world shows.
          let a = i.went world shows in
          let b = passes a.0 a.2 in
          (b.0, subst (λ (n : ℕ). Leads o deep world (list_of c.args.left.now) b.0 still n) (sym c.in-Some.ensures.1) (leads_further o deep world a.0 b.0 (list_of c.args.left.now) left still c.loop.count c.in-Ok.taken a.1 b.1), b.2);
    }

pub returns-then-taken-eq0-clause-found : goal.returns-then-taken-eq0-clause-found
returns-then-taken-eq0-clause-found g c =
    let o = g.P.Play.outline c.args.player.now in
    let deep = g.P.Play.depth c.args.player.now in
    let i = c.loop.invariant in
    let e = c.in-Ok.ensures in
    let start = start_of_machine o in
    let left = list_of c.loop.left in
    let still = list_of c.pass.new.left in
    let old = g.P.Play.shows c.loop.player in
    let new = g.P.Play.shows c.pass.new.player in
    let passes = subst (λ (d : ℕ). Passes o d old left new still c.in-Ok.taken) i.depth (subst (λ (p : Outline). Passes p (g.P.Play.depth c.loop.player) old left new still c.in-Ok.taken) i.outline e.went) in
    let a = i.went start c.requires.start in
    let b = passes a.0 a.2 in
    let same : c.loop.count + c.in-Ok.taken ≡ c.loop.count = omega (arith, c.if-taken-eq0.true) in
    let leads = subst (λ (n : ℕ). Leads o deep start (list_of c.args.left.now) b.0 still n) same (leads_further o deep start a.0 b.0 (list_of c.args.left.now) left still c.loop.count c.in-Ok.taken a.1 b.1) in
    if_found c.found.result (AllAreTaken still) ((world : World) → new world → IsFinished (g.P.Play.outline c.pass.new.player) world) c.loop.count (HasLegalMerge o deep (list_of c.args.left.now)) c.found.ensures.all c.found.ensures.over c.found.ensures.count
    (λ all over. has_merge o deep (list_of c.args.left.now) start b.0 still c.loop.count refl leads all (subst (λ (p : Outline). IsFinished p b.0) (e.outline ∙ i.outline) (over b.0 b.2)))

pub returns-then-taken-eq0-clause-none : goal.returns-then-taken-eq0-clause-none
returns-then-taken-eq0-clause-none g c = λ no_run.
    let o = g.P.Play.outline c.args.player.now in
    let deep = g.P.Play.depth c.args.player.now in
    let i = c.loop.invariant in
    let e = c.in-Ok.ensures in
    let start = start_of_machine o in
    let left = list_of c.loop.left in
    let still = list_of c.pass.new.left in
    let old = g.P.Play.shows c.loop.player in
    let new = g.P.Play.shows c.pass.new.player in
    let passes = subst (λ (d : ℕ). Passes o d old left new still c.in-Ok.taken) i.depth (subst (λ (p : Outline). Passes p (g.P.Play.depth c.loop.player) old left new still c.in-Ok.taken) i.outline e.went) in
    let a = i.went start c.requires.start in
    let b = passes a.0 a.2 in
    let leads = leads_further o deep start a.0 b.0 (list_of c.args.left.now) left still c.loop.count c.in-Ok.taken a.1 b.1 in
    has_none o deep (list_of c.args.left.now) start b.0 still (c.loop.count + c.in-Ok.taken) refl leads (b.3 c.if-taken-eq0.true)
    (λ all over. c.found.ensures.none no_run b.0 b.2 all (subst (λ (p : Outline). IsFinished p b.0) (sym (e.outline ∙ i.outline)) over))
