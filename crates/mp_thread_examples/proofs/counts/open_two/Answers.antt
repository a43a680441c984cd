use Rattle.std.proofs.Common.{refl, ap, ◌∙◌, slice_get, subst}
use Rattle.mp_seat.specs.Seats.{AreNew}
use Rattle.mp_seat.proofs.Places.{two_popped}
use Rattle.mp_thread_examples.proofs.counts.open_two.Goals as goal

pub returns : goal.returns
returns c =
    let opened = c.in_ok-lock.ensures in
    let pair = two_popped _ _ _ _ _ c.in-Some.ensures.items c.in-Some-pop.ensures.items opened.many in
    let new = subst (λ l. AreNew c.in_ok-lock.lock c.new.result.0 c.new.result.1 l) pair opened.seats in
    let first = new 0 c.in-Some-pop.first refl in
    let second = new 1 c.in-Some.second refl in
    record {
      lock = opened.lock;
      first = ((ap (λ s. s.lock) first, ap (λ s. s.taken) first), ap (λ s. s.number) first);
      second = ((ap (λ s. s.lock) second, ap (λ s. s.taken) second), ap (λ s. s.number) second);
      rows = (ap (λ s. s.row) first ∙ ap (λ v. slice_get v.0 0) c.new.ensures, ap (λ s. s.row) second ∙ ap (λ v. slice_get v.0 1) c.new.ensures);
    }
