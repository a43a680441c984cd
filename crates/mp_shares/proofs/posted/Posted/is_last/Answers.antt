use Rattle.mp_shares.proofs.posted.Posted.is_last.Goals as goal

pub returns-clause-stand : goal.returns-clause-stand
returns-clause-stand c = rw (← c.self.view_is) c.self.invariant
