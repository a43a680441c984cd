use Rattle.mp_player.proofs.along.go_along.Goals as goal

pub returns-clause-made : goal.returns-clause-made
returns-clause-made g c = λ done world shows. let next = c.in-Some.ensures.next world shows in (next.name, next.can, c.in_ok-make_along.ensures c.args.depth world shows next)
