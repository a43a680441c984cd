use Rattle.mp_host_states.proofs.in_hand.InHand.new.Goals as goal

pub firsts_of-requires-clause-spans : goal.firsts_of-requires-clause-spans
firsts_of-requires-clause-spans g c = rw c.deref-2.ensures.value (rw c.deref.ensures.value at c.in_ok-spans.ensures.spans)

pub invariant_of-result : goal.invariant_of-result
invariant_of-result g c = record {
  count = c.requires.bins;
  inside = c.requires.inside;
  each_bin = c.in_ok-spans.ensures.length;
  places = rw c.deref.ensures.value at c.in_ok-spans.ensures.spans;
  wakes = rw c.deref-2.ensures.value at c.in_ok-firsts.ensures;
}
