-- What is kept passes the test.
use Rattle.std.proofs.Common.{of_calls, rules}
use Rattle.std.proofs.lemmas.Fn.{filter_same}
use Rattle.mp_outline_lists.specs.Groups.{is_due}
use Rattle.mp_outline_lists.proofs.groups.keep_due.Goals as goal

pub returns : goal.returns
returns c = filter_same _ (is_due c.args.until) _ (λ x b f k. search (rules, of_calls)) _ _ c.retain.ensures.filtered
