-- The step that applies a group or sends a packet comes after all earlier groups of the bin.
use Rattle.std.proofs.Common.{◌≡◌, ℕ, suc, ◌<◌, [], ◌∷◌, refl, sym, subst, inr, inl, arith}
use Rattle.std.proofs.lemmas.Bool.{eqb-true}
use Rattle.mp_names.specs.declared.names.Name.TheVariants.{Packet, Group}
use Rattle.mp_names.specs.declared.kinds.Kind.TheVariants.{Extract}
use Rattle.mp_names.specs.Names.{In}
use Rattle.mp_names.specs.Outlines.{Outline, OutlineIsSound, groups_of}
use Rattle.mp_names.specs.Logs.{InHandBefore, EarlierApplied}
use Rattle.mp_names.specs.Keeping.{GroupIsWhole}
use Rattle.mp_names.proofs.Lists.{In_here, In_right}
use Rattle.mp_names.proofs.Owners.{move_in_shape}
use Rattle.mp_names.proofs.Listed.{groups_are}
use Rattle.mp_machine.specs.Worlds.{World}
use Rattle.mp_machine.specs.Steps.{CanStep}
use Rattle.mp_machine.specs.Promises.{BinIsAppliedBelow}
use Rattle.mp_machine.proofs.Worlds.{WorldIsRight, keeps}
use Rattle.mp_machine.proofs.Holding.{applied_below}

module _ (o : Outline) (ok : OutlineIsSound o) (depth : ℕ) (world : World) (right : WorldIsRight o depth world) (w : ℕ) where
  -- a packet that leaves has the bin in hand, and this worker's earlier groups of it applied
  pub packet_given : (i j b t : ℕ) → CanStep o depth world w (Extract i) (Packet j b t) → InHandBefore o w (world.worker w).log j b t × EarlierApplied o w (world.worker w).log j b t
  packet_given i j b t can =
      (keeps o ok depth world right w can.0.0 (Extract i) (Packet j b t) can tt).sent_given (Packet j b t) (In_right (Packet j b t) (world.worker w).log.sent (Packet j b t ∷ []) (In_here (Packet j b t) []))

  pub packet_last : (i j b t : ℕ) → CanStep o depth world w (Extract i) (Packet j b t) → BinIsAppliedBelow o world j b t
  packet_last i j b t can =
      let given = packet_given i j b t can in
      let due = can.1.0.0 in
      let shape = move_in_shape o ok i b t due.1.0 in
      let e : i ≡ j = sym due.0 in
      applied_below o ok depth world right j b (subst (λ (n : ℕ). n < o.stages) e shape.0) shape.1 w t t (omega arith) can.0.0 given.0 given.1

  pub group_last : (i j t k : ℕ) → w < o.workers → In (Group j t k) (groups_of o i) → GroupIsWhole o w (world.worker w).log j t k → BinIsAppliedBelow o world j (o.bin_of k) t
  group_last i j t k l listed whole =
      let a = groups_are o ok i (Group j t k) listed in
      let in_stages : j < o.stages = subst (λ (m : ℕ). m < o.stages) (sym (eqb-true j i a.1)) a.0 in
      applied_below o ok depth world right j (o.bin_of k) in_stages (ok.bins_fit k) w (suc t) t (omega arith) l whole.bin_in_hand
      (λ u n before bin owner group. whole.earlier_applied u n group owner (inr (refl, inl before)))
