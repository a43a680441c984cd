use Rattle.mp_player.proofs.routing.route.Goals as goal

pub returns-clause-made : goal.returns-clause-made
returns-clause-made g c = λ done world shows. let next = c.in-Some.ensures.next world shows in (next.name, next.can, c.in_ok-send_bundle.ensures (g.C.Chart.outline c.args.chart.now) c.args.depth world shows next)
