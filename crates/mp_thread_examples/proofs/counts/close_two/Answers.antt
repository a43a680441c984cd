use Rattle.std.proofs.Common.{[], ◌∷◌, ◌++◌, ◌∙◌, ap, slice_get}
use Rattle.mp_seat.proofs.Sorting.{two_are_all}
use Rattle.mp_thread_examples.proofs.counts.close_two.Goals as goal

pub close-requires : goal.close-requires
close-requires c =
    let one = c.push_reserved.ensures.items ∙ ap (λ l. l ++ c.args.first ∷ []) c.requires.room.0 in
    let both = c.push_reserved-2.ensures.items ∙ ap (λ l. l ++ c.args.second ∷ []) one in
    record { seats = two_are_all c.args.lock _ _ _ both c.requires.lock c.requires.idle.0 c.requires.idle.1 c.requires.numbers }

pub returns : goal.returns
returns c =
    let one = c.push_reserved.ensures.items ∙ ap (λ l. l ++ c.args.first ∷ []) c.requires.room.0 in
    let both = c.push_reserved-2.ensures.items ∙ ap (λ l. l ++ c.args.second ∷ []) one in
    record {
      many = c.close.ensures.many ∙ c.requires.lock;
      first = c.close.ensures.rows 0 _ (ap (λ l. slice_get l 0) both);
      second = c.close.ensures.rows 1 _ (ap (λ l. slice_get l 1) both);
    }
