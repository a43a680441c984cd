use Rattle.mp_audit_player.proofs.playing.PlayerPlay.is_posted.Goals as goal

pub returns : goal.returns
returns g c = λ world shows. c.is_posted.ensures (g.C.Chart.outline c.args.self.now.chart) c.args.self.now.depth world shows
