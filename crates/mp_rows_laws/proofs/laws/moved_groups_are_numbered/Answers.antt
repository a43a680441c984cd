use Rattle.mp_rows_laws.proofs.Moved.{groups_come, groups_leave}
use Rattle.mp_rows_laws.proofs.laws.moved_groups_are_numbered.Goals as goal

pub returns-clause-leaving : goal.returns-clause-leaving
returns-clause-leaving c = λ o w log ok good j b t left once are u. groups_leave o w log ok good j b t left once are u

pub returns-clause-coming : goal.returns-clause-coming
returns-clause-coming c = λ o w log ok good j b t come once are u. groups_come o w log ok good j b t come once are u
