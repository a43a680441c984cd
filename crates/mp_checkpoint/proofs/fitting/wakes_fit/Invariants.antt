-- The first of them stand, and ascend.
use Rattle.mp_model.specs.QueryLaws.{WakeIsBefore}
use Rattle.mp_checkpoint_laws.specs.Files.{WakeStands, format_of}
use Rattle.mp_checkpoint.proofs.Ascending.{FirstFit}
use Rattle.mp_checkpoint.proofs.fitting.wakes_fit.Given as goal

abbrev pub invariant-loop-i : goal.invariant-loop-i
invariant-loop-i g l =
    let vs = g.Q.Query.values l.query in
    FirstFit (WakeStands (format_of g.Q.Saved.NUMBER vs (g.Q.Query.facts vs) g.Q.Query.text_of) l.time) WakeIsBefore l.wakes l.i
