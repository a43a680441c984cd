use Rattle.std.proofs.Common.{◌≡◌, ◌∙◌, ◌<◌, ◌-◌, ◌+◌, arith, length}
use Rattle.std.specs.Vec.{vec_capacity}
use Rattle.std.proofs.lemmas.List.{length-map}
use Rattle.mp_host_places.specs.Spans.{bins_of, without}
use Rattle.mp_host_places.proofs.FirstWakes.{others_left}
use Rattle.mp_host_states.proofs.Found.{bin_there, inside_at, inside_without, same_states}
use Rattle.mp_host_places.proofs.Spanned.{bins_without, swapped_out}
use Rattle.mp_host_states.proofs.in_hand.InHand.take.Goals as goal

pub renew-requires-clause-spans : goal.renew-requires-clause-spans
renew-requires-clause-spans g c =
    let held = c.self.inside.held.items in
    let at = c.args.at in
    let one = c.take_out-one.result in
    let inside : at < length held = rw (← c.self.view_is) at c.requires in
    let left = c.take_out-one.ensures.left ∙ swapped_out held at one inside in
    let last = c.len-last.result - 1 in
    let count : length held ≡ last + 1 = omega arith in
    let end : last < length held = omega arith in
    let spans = c.fill.ensures.spans (bins_of held) (length-map held (λ s. s.bin) ∙ count) (bin_there held at one inside c.take_out-one.ensures.taken) (bin_there held last c.index.result.now end c.index.ensures) c.self.invariant.places in
    rw (c.deref.ensures.value, left, bins_without at held) spans

pub renew-requires-clause-bin : goal.renew-requires-clause-bin
renew-requires-clause-bin g c =
    let inv = c.self.invariant in
    let at = rw (← c.self.view_is) at c.requires in
    rw inv.wakes.count (inside_at c.self.inside.bins c.self.inside.held.items inv.inside c.args.at c.take_out-one.result at c.take_out-one.ensures.taken)

pub invariant_of-self : goal.invariant_of-self
invariant_of-self g c =
    let i = c.self.inside in
    let held = i.held.items in
    let inv = c.self.invariant in
    let at = c.args.at in
    let one = c.take_out-one.result in
    let inside : at < length held = rw (← c.self.view_is) at c.requires in
    let left = c.take_out-one.ensures.left ∙ swapped_out held at one inside in
    let last = c.len-last.result - 1 in
    let count : length held ≡ last + 1 = omega arith in
    let end : last < length held = omega arith in
    let spans = c.fill.ensures.spans (bins_of held) (length-map held (λ s. s.bin) ∙ count) (bin_there held at one inside c.take_out-one.ensures.taken) (bin_there held last c.index.result.now end c.index.ensures) inv.places in
    let firsts = c.renew.ensures i.bins held inv.wakes (λ b ne. rw (c.deref.ensures.value, left) (others_left held at one inside c.take_out-one.ensures.taken b ne)) in
    record {
      count = inv.count;
      inside = rw left (inside_without i.bins held inv.inside at);
      each_bin = c.fill.ensures.length ∙ inv.each_bin;
      places = rw (left, bins_without at held) spans;
      wakes = rw c.deref.ensures.value at firsts;
    }

pub returns-clause-left : goal.returns-clause-left
returns-clause-left g c =
    let i = c.self.inside in
    let held = i.held.items in
    let at = c.args.at in
    let inside : at < length held = rw (← c.self.view_is) at c.requires in
    let left = c.take_out-one.ensures.left ∙ swapped_out held at c.take_out-one.result inside in
    let new = c.take_out-one.new.held in
    let room : vec_capacity new - length new.items ≡ vec_capacity i.held - length held + 1 = omega arith in
    rw (← c.self.view_is) (same_states i.bins new.items (without at held) (vec_capacity new - length new.items) (vec_capacity i.held - length held + 1) left room)
