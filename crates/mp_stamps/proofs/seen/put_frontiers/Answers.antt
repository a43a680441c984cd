use Rattle.std.proofs.Common.{◌≡◌, ◌<◌, ◌≤◌, ◌+◌, ◌∙◌, List, ℕ, ⊎_elim, add-one, arith, length, refl, set, rules, subst, sym}
use Rattle.std.proofs.lemmas.Bool.{cases_lt}
use Rattle.std.proofs.lemmas.List.{length-set}
use Rattle.mp_names.specs.declared.locations.Frontier.{Frontier}
use Rattle.mp_names.specs.declared.locations.Loc.TheVariants.{Ctl, CtlMail, Source, Route, Mail, Move, State, Host, OutRoute, OutMail}
use Rattle.mp_names.specs.Frontiers.{IsFrontierOf}
use Rattle.mp_stamps.specs.Counts.{count_in}
use Rattle.mp_stamps.specs.Flow.{origin_of}
use Rattle.mp_stamps.specs.Places.{place_of, places_of}
use Rattle.mp_stamps.proofs.Edges.{at_ctl, at_ctl_mail, at_out_mail, at_out_route, at_source}
use Rattle.mp_stamps.proofs.Seeing.{AreFound, StandsFrom, all_found, found_before_stages, found_next, none_found, stands_past}
use Rattle.mp_stamps.proofs.Tables.{location_placed, place_inside}
use Rattle.mp_stamps.proofs.seen.put_frontiers.Goals as goal

pub of_stage-found-requires-clause-ctl_mail : goal.of_stage-found-requires-clause-ctl_mail
of_stage-found-requires-clause-ctl_mail c =
    let counts = count_in c.args.counts.now in
    at_ctl_mail counts _ _ _ (at_ctl counts _ c.first_time-ctl.ensures) c.first_time-own_ctl_mail.ensures c.earlier-ctl_mail.ensures

pub loop-stage-init : goal.loop-stage-init
loop-stage-init c =
    let table = c.args.counts.now in
    let counts = count_in table in
    let ctl = at_ctl counts _ c.first_time-ctl.ensures in
    let ctl_mail = at_ctl_mail counts _ _ _ ctl c.first_time-own_ctl_mail.ensures c.earlier-ctl_mail.ensures in
    let source = at_source counts _ c.first_time-origin.ensures in
    let fs : List Frontier = c.args.frontiers.now in
    let long : length fs ≡ 25 = search rules in
    let fs1 = set fs c.place_of.result c.first_time-ctl.result in
    let fs2 = set fs1 c.place_of-2.result c.earlier-ctl_mail.result in
    let fs3 = set fs2 c.place_of-3.result c.first_time-origin.result in
    let long1 : length fs1 ≡ 25 = length-set fs c.place_of.result c.first_time-ctl.result ∙ long in
    let long2 : length fs2 ≡ 25 = length-set fs1 c.place_of-2.result c.earlier-ctl_mail.result ∙ long1 in
    let long3 : length fs3 ≡ 25 = length-set fs2 c.place_of-3.result c.first_time-origin.result ∙ long2 in
    let found1 : AreFound table fs1 1 = found_next table fs _ 0 Ctl _ c.place_of.ensures refl (omega (arith, long)) ctl (none_found table fs) in
    let found2 : AreFound table fs2 2 = found_next table fs1 _ 1 CtlMail _ c.place_of-2.ensures refl (omega arith) ctl_mail found1 in
    let found3 : AreFound table fs3 3 = found_next table fs2 _ 2 Source _ c.place_of-3.ensures refl (omega arith) source found2 in
    let stands1 : StandsFrom fs fs1 5 = stands_past fs fs _ 0 5 _ (omega (arith, c.place_of.ensures)) (omega arith) (λ p l. refl) in
    let stands2 : StandsFrom fs fs2 5 = stands_past fs fs1 _ 5 5 _ (omega (arith, c.place_of-2.ensures)) (omega arith) stands1 in
    let stands3 : StandsFrom fs fs3 5 = stands_past fs fs2 _ 5 5 _ (omega (arith, c.place_of-3.ensures)) (omega arith) stands2 in
    (found_before_stages table fs3 found3, source, long3, stands3)

pub loop-stage-preserved : goal.loop-stage-preserved
loop-stage-preserved c =
    let table = c.args.counts.now in
    let counts = count_in table in
    let l = c.loop-stage in
    let j = l.stage in
    let n = places_of j in
    let f = c.of_stage-found in
    let old = c.args.frontiers.now in
    let fs = l.frontiers in
    let long = l.invariant.2 in
    let few : j < 4 = search rules in
    let m = places_of (j + 1) in
    let fs1 = set fs c.place_of-in-loop-stage.result f.result.route in
    let fs2 = set fs1 c.place_of-in-loop-stage-2.result f.result.mail in
    let fs3 = set fs2 c.place_of-in-loop-stage-3.result f.result.moves in
    let fs4 = set fs3 c.place_of-in-loop-stage-4.result f.result.state in
    let fs5 = set fs4 c.place_of-in-loop-stage-5.result f.result.host in
    let long1 : length fs1 ≡ 25 = length-set fs c.place_of-in-loop-stage.result f.result.route ∙ long in
    let long2 : length fs2 ≡ 25 = length-set fs1 c.place_of-in-loop-stage-2.result f.result.mail ∙ long1 in
    let long3 : length fs3 ≡ 25 = length-set fs2 c.place_of-in-loop-stage-3.result f.result.moves ∙ long2 in
    let long4 : length fs4 ≡ 25 = length-set fs3 c.place_of-in-loop-stage-4.result f.result.state ∙ long3 in
    let long5 : length fs5 ≡ 25 = length-set fs4 c.place_of-in-loop-stage-5.result f.result.host ∙ long4 in
    let found1 : AreFound table fs1 (n + 1) = found_next table fs _ n (Route j) f.result.route c.place_of-in-loop-stage.ensures (omega arith) (omega arith) f.ensures.route l.invariant.0 in
    let found2 : AreFound table fs2 (n + 1 + 1) = found_next table fs1 _ (n + 1) (Mail j) f.result.mail c.place_of-in-loop-stage-2.ensures (omega arith) (omega arith) f.ensures.mail found1 in
    let found3 : AreFound table fs3 (n + 1 + 1 + 1) = found_next table fs2 _ (n + 1 + 1) (Move j) f.result.moves c.place_of-in-loop-stage-3.ensures (omega arith) (omega arith) f.ensures.moves found2 in
    let found4 : AreFound table fs4 (n + 1 + 1 + 1 + 1) = found_next table fs3 _ (n + 1 + 1 + 1) (State j) f.result.state c.place_of-in-loop-stage-4.ensures (omega arith) (omega arith) f.ensures.state found3 in
    let found5 : AreFound table fs5 (n + 1 + 1 + 1 + 1 + 1) = found_next table fs4 _ (n + 1 + 1 + 1 + 1) (Host j) f.result.host c.place_of-in-loop-stage-5.ensures (omega arith) (omega arith) f.ensures.host found4 in
    let next : n + 1 + 1 + 1 + 1 + 1 ≡ places_of (j + 1) = omega arith in
    let stands1 : StandsFrom old fs1 m = stands_past old fs _ n m _ (omega (arith, c.place_of-in-loop-stage.ensures)) (omega arith) l.invariant.3 in
    let stands2 : StandsFrom old fs2 m = stands_past old fs1 _ m m _ (omega (arith, c.place_of-in-loop-stage-2.ensures)) (omega arith) stands1 in
    let stands3 : StandsFrom old fs3 m = stands_past old fs2 _ m m _ (omega (arith, c.place_of-in-loop-stage-3.ensures)) (omega arith) stands2 in
    let stands4 : StandsFrom old fs4 m = stands_past old fs3 _ m m _ (omega (arith, c.place_of-in-loop-stage-4.ensures)) (omega arith) stands3 in
    let stands5 : StandsFrom old fs5 m = stands_past old fs4 _ m m _ (omega (arith, c.place_of-in-loop-stage-5.ensures)) (omega arith) stands4 in
    (subst (AreFound table fs5) next found5, subst (λ (k : ℕ). IsFrontierOf counts (origin_of k) f.result.host) (sym (add-one j)) f.ensures.host, long5, stands5)

pub last_origin-last-requires-clause-ctl_mail : goal.last_origin-last-requires-clause-ctl_mail
last_origin-last-requires-clause-ctl_mail c =
    let counts = count_in c.args.counts.now in
    at_ctl_mail counts _ _ _ (at_ctl counts _ c.first_time-ctl.ensures) c.first_time-own_ctl_mail.ensures c.earlier-ctl_mail.ensures

pub last_origin-last-requires-clause-origin : goal.last_origin-last-requires-clause-origin
last_origin-last-requires-clause-origin c =
    let l = c.loop-stage in
    let end : l.stage ≡ c.args.stages = search rules in
    subst (λ (k : ℕ). IsFrontierOf (count_in c.args.counts.now) (origin_of k) l.origin) end l.invariant.1

pub returns-clause-frontiers : goal.returns-clause-frontiers
returns-clause-frontiers c =
    let table = c.args.counts.now in
    let counts = count_in table in
    let l = c.loop-stage in
    let all = c.last_origin-last.ensures.0 in
    let ctl = at_ctl counts _ c.first_time-ctl.ensures in
    let ctl_mail = at_ctl_mail counts _ _ _ ctl c.first_time-own_ctl_mail.ensures c.earlier-ctl_mail.ensures in
    let end : l.stage ≡ c.args.stages = search rules in
    let rows : IsFrontierOf counts OutRoute c.earlier-out_route.result = at_out_route table all all _ _ _ _ _ (omega arith) c.last_origin-last.ensures.1 ctl_mail c.last_origin-last.ensures.2 c.first_time-own_out_route.ensures c.earlier-inputs.ensures c.earlier-out_route.ensures in
    let mail : IsFrontierOf counts OutMail c.earlier-out_mail.result = at_out_mail counts _ _ _ rows c.first_time-own_out_mail.ensures c.earlier-out_mail.ensures in
    λ at h.
    let p = place_inside c.args.stages at h in
    all_found table l.frontiers (places_of l.stage) _ _ _ _ c.place_of-4.ensures c.place_of-5.ensures (omega (arith, l.invariant.2)) rows mail l.invariant.0 at (omega (arith, p, end))

pub returns-clause-others : goal.returns-clause-others
returns-clause-others c =
    let l = c.loop-stage in
    let old = c.args.frontiers.now in
    let fs = l.frontiers in
    let end : l.stage ≡ c.args.stages = search rules in
    let m = places_of c.args.stages in
    let stands : StandsFrom old fs m = subst (λ (k : ℕ). StandsFrom old fs (places_of k)) end l.invariant.3 in
    let stands1 = stands_past old fs c.place_of-4.result m m c.earlier-out_route.result (omega (arith, c.place_of-4.ensures)) (omega arith) stands in
    let stands2 = stands_past old (set fs c.place_of-4.result c.earlier-out_route.result) c.place_of-5.result m m c.earlier-out_mail.result (omega (arith, c.place_of-5.ensures)) (omega arith) stands1 in
    λ at h. stands2 (place_of at) (⊎_elim (λ (k : place_of at < m). absurd (h (location_placed c.args.stages at k))) (λ (k : m ≤ place_of at). k) (cases_lt (place_of at) m))
