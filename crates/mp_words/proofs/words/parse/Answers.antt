-- The clauses of clap, at the command set.
use Rattle.std.proofs.Common.{◌∙◌, ap, map, string_bytes, sym}
use Rattle.clap.specs.Words.{is_simple_and_free}
use Rattle.mp_words.proofs.Faults.{refused, taken, answered, simple_and_free}
use Rattle.mp_words.proofs.words.parse.Goals as goal

pub returns-in-Err-clause-asked : goal.returns-in-Err-clause-asked
returns-in-Err-clause-asked c = λ usage.
    refused _ (map string_bytes c.args.words.now) c.in-Err.error c.in-Ok.ensures
    (c.in-Err.ensures.kinds (ap is_simple_and_free c.in-Ok.ensures ∙ simple_and_free))
    (sym c.from.ensures ∙ usage)

pub returns-in-Ok-try_get_matches_from-clause-asked : goal.returns-in-Ok-try_get_matches_from-clause-asked
returns-in-Ok-try_get_matches_from-clause-asked c =
    let found = c.in-Ok-try_get_matches_from in
    let asked = c.command_found.ensures.asked
    ∙ taken _ (map string_bytes c.args.words.now) found.matches c.in-Ok.ensures
    (found.ensures.kinds (ap is_simple_and_free c.in-Ok.ensures ∙ simple_and_free)) found.ensures.matches in
    rw c.ok_or.ensures.value (answered _ c.command_found.result asked)
