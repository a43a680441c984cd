-- A query's name needs no file, and a pipeline one.
use Rattle.std.proofs.Common.{inl, refl}
use Rattle.std.proofs.lemmas.Result.{err_from_is_err_and}
use Rattle.mp_command.specs.Inputs.{Found, nothing_found}
use Rattle.mp_command.proofs.Texts.{pipe_end, pipe_found}
use Rattle.mp_command.proofs.reading.query_in.Goals as goal

pub returns-in_err-pipe_in-in-Piped-clause-refused : goal.returns-in_err-pipe_in-in-Piped-clause-refused
returns-in_err-pipe_in-in-Piped-clause-refused g c =
    let p = err_from_is_err_and c.from_residual.result c.from_residual.ensures.1 in
    rw (p.1, p.2, c.in-Piped.is) (λ found. inl (pipe_end _ _ found _ c.in_err-pipe_in-in-Piped.ensures.refused))

pub returns-in_ok-pipe_in-in-Piped-clause-found : goal.returns-in_ok-pipe_in-in-Piped-clause-found
returns-in_ok-pipe_in-in-Piped-clause-found g c = λ events.
    let before : Found = record nothing_found { events = events } in
    rw c.in-Piped.is (record before { pipe = c.in_ok-pipe_in-in-Piped.field-0 }, pipe_found _ _ before _ c.in_ok-pipe_in-in-Piped.ensures.pipe, refl)
