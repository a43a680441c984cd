use Rattle.std.proofs.Common.{◌≡◌, ◌&&◌, ◌==◌, drop, take}
use Rattle.std.specs.List.{list_any}
use Rattle.std.proofs.lemmas.List.{take_rest}
use Rattle.mp_bins.specs.Bins.{bin_of_key}
use Rattle.mp_host_laws.specs.Hosted.{has_wake_in}
use Rattle.mp_host_places.proofs.Spanned.{by_first, by_second, span_behind, span_in_front}
use Rattle.mp_host_states.proofs.in_hand.InHand.has_wake_beside.Goals as goal

pub has_wake-requires : goal.has_wake-requires
has_wake-requires g c =
    let its = c.self.invariant.places.each c.bin_of-bin.result in
    rw (c.deref.ensures.value, c.of-span.ensures) (span_in_front _ c.bin_of-bin.result c.args.from c.self.inside.held.items its)

pub has_wake-requires-else-has_wake : goal.has_wake-requires-else-has_wake
has_wake-requires-else-has_wake g c =
    let its = rw (← c.of-span.ensures) at (c.self.invariant.places.each c.bin_of-bin.result) in
    rw c.deref-else-has_wake.ensures.value (span_behind c.behind.result c.bin_of-bin.result c.args.to c.self.inside.held.items (c.behind.ensures c.bin_of-bin.result _ its))

pub returns-then-has_wake : goal.returns-then-has_wake
returns-then-has_wake g c =
    let held = c.self.inside.held.items in
    let first : c.has_wake.result ≡ list_any (λ s. s.bin == bin_of_key c.args.key c.self.inside.bins && has_wake_in c.args.time c.args.key s) (take c.args.from held) = rw (c.deref.ensures.value, c.bin_of-bin.ensures.value) at c.has_wake.ensures in
    rw (← c.self.view_is) (by_first c.has_wake.result _ _ first c.if-has_wake.true)

pub returns-else-has_wake : goal.returns-else-has_wake
returns-else-has_wake g c =
    let held = c.self.inside.held.items in
    let first : c.has_wake.result ≡ list_any (λ s. s.bin == bin_of_key c.args.key c.self.inside.bins && has_wake_in c.args.time c.args.key s) (take c.args.from held) = rw (c.deref.ensures.value, c.bin_of-bin.ensures.value) at c.has_wake.ensures in
    let second : c.has_wake-else-has_wake.result ≡ list_any (λ s. s.bin == bin_of_key c.args.key c.self.inside.bins && has_wake_in c.args.time c.args.key s) (drop c.args.to held) = rw (c.deref-else-has_wake.ensures.value, c.bin_of-bin.ensures.value, take_rest held c.args.to) at c.has_wake-else-has_wake.ensures in
    rw (← c.self.view_is) (by_second c.has_wake.result c.has_wake-else-has_wake.result _ _ first c.if-has_wake.false second)
