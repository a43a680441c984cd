-- The board is that of the workers.
use Rattle.std.proofs.Common.{subst}
use Rattle.mp_outline.specs.JobOutline.{outline_of}
use Rattle.mp_board.specs.Boards.{ShowsFrontiers}
use Rattle.mp_plain.specs.Driven.{Driven}
use Rattle.mp_plain.proofs.plain.Plain.seen.Goals as goal
use Rattle.mp_model.specs.Tables.{table_of}

pub returns-clause-frontiers : goal.returns-clause-frontiers
returns-clause-frontiers g c =
    let o = outline_of (table_of g.Q.Query.facts g.J.Naming.job) g.J.Naming.job in
    subst (λ (t : Driven). ShowsFrontiers o t.state.board.logs c.seen.result) c.self.view_is c.seen.ensures.frontiers
