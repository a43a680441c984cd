use Rattle.std.proofs.Common.{ap, ◌∙◌, sym, slice_set, ◌+◌}
use Rattle.mp_thread_examples.proofs.counts.raise_once.Goals as goal

pub put-requires-clause-row : goal.put-requires-clause-row
put-requires-clause-row g c =
    let taken = c.take-counts.ensures.seat in (
      c.take-counts.result.0,
      c.args.number + 1,
      ap (λ s. s.taken) taken,
      c.raise.ensures.numbers ∙ ap (λ at. slice_set c.take-counts.result.0 at (c.args.number + 1)) (sym (ap (λ s. s.number) taken ∙ c.requires.seat.1)),
    )
