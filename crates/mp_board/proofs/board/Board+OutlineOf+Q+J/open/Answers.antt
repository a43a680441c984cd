use Rattle.std.proofs.Common.{◌≡◌, ◌≤◌, ◌∙◌, ℕ, ap, arith, subst, sym}
use Rattle.std.specs.Prelude.{replicate}
use Rattle.mp_names.specs.declared.controls.Shape.{Shape}
use Rattle.mp_names.specs.Limits.{most_stages}
use Rattle.mp_names.specs.Logs.{empty_log}
use Rattle.mp_model.specs.Tables.{table_of}
use Rattle.mp_rows.specs.Below.{run_is_legal, run_shape}
use Rattle.mp_rows.specs.Below.{outline_of}
use Rattle.mp_rows.specs.Below.{outline_is_sound}
use Rattle.mp_board.specs.Soundness.{HoldsAllTimes}
use Rattle.mp_board.proofs.Opened.{empty_sound}
use Rattle.mp_board.proofs.Timed.{holds_all_times}
use Rattle.mp_board.proofs.board.Board+OutlineOf+Q+J.open.Goals as goal

pub invariant_of-result : goal.invariant_of-result
invariant_of-result g c =
    let job = g.J.Naming.job in
    let shape : c.shape-shape.result ≡ job.shape = c.shape-shape.ensures.shape ∙ run_shape c.args.job.now job c.requires in
    let workers = ap (λ (s : Shape). s.workers) shape in
    let stages = ap (λ (s : Shape). s.stages) shape in
    let laws = g.met.Q.Query g.world.𝓛 g.world.𝓜 g.world.𝓡 ((λ s x. x), (λ x. x), (λ x. x), λ x. x) in
    let q = table_of g.Q.Query.facts job in
    let legal = run_is_legal c.args.job.now job c.requires g.Q.Query.facts c.shape-shape.ensures.legal in
    let has = laws.has_stages job.values in
    let nothing = laws.later_stages_post_nothing job.values in
    let ok = outline_is_sound q has (laws.posts_are_later job.values) nothing job legal in
    let few : job.shape.stages ≤ most_stages = omega (arith, has.1, legal.stages) in
    let counts = c.in_ok-counts.counts in
    let times = subst (HoldsAllTimes (outline_of q job)) (sym c.in_ok-counts.ensures.times) (holds_all_times q nothing job ok legal) in
    empty_sound (outline_of q job) ok counts c.in_ok-counts.ensures.stages times c.in_ok-counts.ensures.opened _ _
    (c.in_ok-logs.ensures ∙ ap (λ (n : ℕ). replicate n empty_log) workers)
    few legal.shape.few_workers c.of-seen.ensures.version
    (c.of-seen.ensures.stages ∙ stages)
    (λ at has. c.of-seen.ensures.frontiers at (rw stages has))
