use Rattle.std.proofs.Common.{◌≡◌, ◌∙◌, ap, length, arith}
use Rattle.std.proofs.lemmas.List.{length-map}
use Rattle.mp_host_laws.specs.Hosted.{first_wake_of}
use Rattle.mp_host_places.specs.Spans.{bins_of}
use Rattle.mp_host_places.proofs.FirstWakes.{others_with}
use Rattle.mp_host_states.proofs.Found.{inside_with}
use Rattle.mp_host_places.proofs.Spanned.{bins_with}
use Rattle.mp_host_states.proofs.in_hand.InHand.hold.Goals as goal

pub renew-requires-clause-spans : goal.renew-requires-clause-spans
renew-requires-clause-spans g c =
    let held = c.self.inside.held.items in
    let items = c.push_reserved.ensures.items in
    let count : length held ≡ c.len.result = omega arith in
    let spans = c.widen.ensures.spans (bins_of held) (length-map held (λ s. s.bin) ∙ count) c.self.invariant.places in
    rw (c.deref.ensures.value, items, bins_with held c.args.one) spans

pub invariant_of-self : goal.invariant_of-self
invariant_of-self g c =
    let i = c.self.inside in
    let held = i.held.items in
    let inv = c.self.invariant in
    let items = c.push_reserved.ensures.items in
    let count : length held ≡ c.len.result = omega arith in
    let spans = c.widen.ensures.spans (bins_of held) (length-map held (λ s. s.bin) ∙ count) inv.places in
    let firsts = c.renew.ensures i.bins held inv.wakes (λ b ne. rw (c.deref.ensures.value, items) (ap first_wake_of (others_with held c.args.one b ne))) in
    record {
      count = inv.count;
      inside = rw items (inside_with i.bins held inv.inside c.args.one (rw (← c.self.view_is) at c.requires.bin));
      each_bin = c.widen.ensures.length ∙ inv.each_bin;
      places = rw (items, bins_with held c.args.one) spans;
      wakes = rw c.deref.ensures.value at firsts;
    }

pub push_reserved-requires : goal.push_reserved-requires
push_reserved-requires g c =
    let room = rw (← c.self.view_is) at c.requires.room in
    omega arith
