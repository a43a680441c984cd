use Rattle.std.proofs.Common.{ap, ◌∙◌, sym, slice_set, ◌+◌}
use Rattle.mp_thread_examples.proofs.clerk.Clerk.turn.Goals as goal

pub put-requires-clause-row : goal.put-requires-clause-row
put-requires-clause-row c =
    let clerk = c.args.self.now in
    let taken = c.in-Some.ensures.some in (
      c.in-Some.counts.0,
      clerk.number + 1,
      ap (λ s. s.taken) taken,
      c.raise.ensures.numbers ∙ ap (λ at. slice_set c.in-Some.counts.0 at (clerk.number + 1)) (sym (ap (λ s. s.number) taken ∙ clerk.place)),
    )
