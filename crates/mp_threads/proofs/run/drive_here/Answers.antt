use Rattle.std.proofs.Common.{◌∙◌, Ok, ap}
use Rattle.std.proofs.lemmas.Result.{err_from_is_err_and}
use Rattle.mp_model.specs.Tables.{table_of}
use Rattle.mp_threads_member.proofs.Driven.{goes_further, stops_later}
use Rattle.mp_threads.proofs.run.drive_here.Goals as goal

pub returns-in_err-own-clause-driven : goal.returns-in_err-own-clause-driven
returns-in_err-own-clause-driven g c =
    let p = err_from_is_err_and c.from_residual.result c.from_residual.ensures.1 in
    rw (p.1, p.2) (record {
      drives = stops_later (table_of g.Q.Query.facts g.J.Naming.job) g.J.Naming.job g.S.Sink.written g.S.Sink.faults g.S.Sink.frame _ _ _ _ _ _ c.loop.invariant.on _ c.in_err-own.ensures.drives;
      finished = λ all. absurd cc;
      told = c.in_err-own.ensures.told;
      other = λ all. absurd cc;
    })

pub returns-in_default-clause-driven : goal.returns-in_default-clause-driven
returns-in_default-clause-driven g c = record {
  drives = goes_further (table_of g.Q.Query.facts g.J.Naming.job) g.J.Naming.job g.S.Sink.written g.S.Sink.faults g.S.Sink.frame _ _ _ _ _ _ c.loop.invariant.on c.in_ok-own.ensures.drives;
  finished = λ all. absurd cc;
  told = tt;
  other = λ all. c.in_default.ensures.told;
}

pub returns-in-Over-clause-driven : goal.returns-in-Over-clause-driven
returns-in-Over-clause-driven g c = record {
  drives = goes_further (table_of g.Q.Query.facts g.J.Naming.job) g.J.Naming.job g.S.Sink.written g.S.Sink.faults g.S.Sink.frame _ _ _ _ _ _ c.loop.invariant.on c.in_ok-own.ensures.drives;
  finished = λ all. c.in_ok-own.ensures.finished (ap Ok (c.in-Over.ensures cc));
  told = tt;
  other = λ all. absurd cc;
}

pub loop-preserved-in-Made : goal.loop-preserved-in-Made
loop-preserved-in-Made g c = record {
  on = goes_further (table_of g.Q.Query.facts g.J.Naming.job) g.J.Naming.job g.S.Sink.written g.S.Sink.faults g.S.Sink.frame _ _ _ _ _ _ c.loop.invariant.on c.in_ok-own.ensures.drives;
  marks = c.in-Ok.ensures.marks ∙ c.loop.invariant.marks;
}

pub loop-preserved : goal.loop-preserved
loop-preserved g c = record {
  on = goes_further (table_of g.Q.Query.facts g.J.Naming.job) g.J.Naming.job g.S.Sink.written g.S.Sink.faults g.S.Sink.frame _ _ _ _ _ _ c.loop.invariant.on c.in_ok-own.ensures.drives;
  marks = c.in-Ok.ensures.marks ∙ c.loop.invariant.marks;
}
