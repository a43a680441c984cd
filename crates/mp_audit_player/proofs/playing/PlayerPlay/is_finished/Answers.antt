use Rattle.mp_audit_player.proofs.playing.PlayerPlay.is_finished.Goals as goal

pub returns : goal.returns
returns g c = λ world shows. c.is_finished.ensures c.args.self.now.depth world shows
