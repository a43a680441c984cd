use Rattle.std.proofs.Common.{◌≡◌, ◌∙◌, add-one, position, suc, sym}
use Rattle.mp_bins.specs.Bins.{bin_of_key}
use Rattle.mp_host_laws.specs.Hosted.{is_held_before}
use Rattle.mp_host_states.proofs.Found.{has_place}
use Rattle.mp_host_states.proofs.in_hand.InHand.place_of.Goals as goal

pub unreachable-requires : goal.unreachable-requires
unreachable-requires g c =
    let e = c.args.group.now in
    let i = c.self.inside in
    let place : c.place_before.result ≡ position (is_held_before (bin_of_key e.key i.bins) (suc e.time)) i.held.items = rw (c.bin_of-bin.ensures.value, c.from.ensures, c.key.ensures, c.time.ensures, add-one, ← c.self.view_is) at c.place_before.ensures in
    has_place c.args.self.now e.time e.key c.requires (rw (← c.self.view_is) (sym place ∙ c.in_default.is))

pub returns : goal.returns
returns g c = rw (← c.self.view_is) (rw (c.bin_of-bin.ensures.value, c.from.ensures, c.key.ensures, c.time.ensures, add-one, ← c.self.view_is) at (sym c.in-Some.ensures))
