use Rattle.mp_player.proofs.receiving.receive.Goals as goal

pub returns-clause-made : goal.returns-clause-made
returns-clause-made g c = λ done world shows. let next = c.in-Some.ensures.next c.args.depth world shows in (next.name, next.can, c.in_ok-take.ensures (g.C.Chart.outline c.args.chart.now) c.args.depth world shows next)

pub returns-in_default-clause-refused : goal.returns-in_default-clause-refused
returns-in_default-clause-refused g c = λ done world shows x can. c.in_default.ensures.none c.args.depth world shows x can
