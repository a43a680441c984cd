-- A wake that a job has from the start is where its bin is, until its group is applied.
use Rattle.std.proofs.Common.{◌≡◌, ℕ, ◌<◌, ◌≤◌, true, false, refl, subst, inl, inr, ⊎_elim, arith}
use Rattle.std.proofs.lemmas.Bool.{both_ways, cases_lt, false_from_ne_true}
use Rattle.mp_names.specs.declared.names.Name.TheVariants.{Packet, Group}
use Rattle.mp_names.specs.Names.{has, In}
use Rattle.mp_names.specs.Outlines.{Outline, OutlineIsSound, group_owner, owner_before, IsMove}
use Rattle.mp_names.specs.Logs.{is_opening_here, left_since}
use Rattle.mp_names.proofs.Hosts.{Brought, left_at, left_from, opening_at, opening_from}
use Rattle.mp_names.proofs.Listed.{opening_group}
use Rattle.mp_names.proofs.Owners.{move_has_control, owner_is_worker}
use Rattle.mp_machine.specs.Worlds.{World}
use Rattle.mp_machine.specs.Holding.{Holds}
use Rattle.mp_machine.proofs.Holding.{applied_below}
use Rattle.mp_machine.proofs.Mailboxes.{taken_is_sent}
use Rattle.mp_machine.proofs.Worlds.{WorldIsRight}

module _
    (o : Outline) (ok : OutlineIsSound o) (depth : ℕ) (world : World) (right : WorldIsRight o depth world) (j u k w : ℕ) (listed : w < o.workers)
    (wake : In (Group j u k) (o.opening j)) where
  after_start : (m : ℕ) → IsMove o j (o.bin_of k) m → 0 < m
  after_start m move = let c = move_has_control o j (o.bin_of k) m move in subst (λ (t : ℕ). 0 < t) c.3 (ok.opening_first j (Group j u k) wake c.0 c.1)

  -- who has the wake holds the bin
  pub here_holds : is_opening_here o w (world.worker w).log j u k ≡ true → Holds o world j (o.bin_of k) w
  here_holds h =
      let b = o.bin_of k in
      let log = (world.worker w).log in
      ⊎_elim
      (λ (d : (o.first_owner j b ≡ w) × (left_since log j b 0 ≡ false)).
      inl (d.0, (λ m s. both_ways (left_since log j b 0) d.1 (left_from log j b 0 m (after_start m ((right.logs w listed).sent_owed (Packet j b m) s).0) s))))
      (λ (d : Brought log j b 0 u). inr (d.0, d.4, (λ n l s. both_ways (left_since log j b d.0) d.3 (left_from log j b d.0 n l s))))
      (opening_at o w log j u k h).1

  module _ (unapplied : has (world.worker (group_owner o j u k)).log.applied (Group j u k) ≡ false) where
    -- a packet that is taken isn't later than the wake, since the groups before it are applied
    taken_before : (m : ℕ) → In (Packet j (o.bin_of k) m) (world.worker w).log.took → m ≤ u
    taken_before m took =
        let b = o.bin_of k in
        let stage = (ok.opening_are j (Group j u k) wake).0 in
        let inside = ok.bins_fit k in
        let from = owner_before o j b m in
        let is_worker = owner_is_worker o ok j b m stage inside in
        let given = (right.logs from is_worker).sent_given (Packet j b m) (taken_is_sent o ok depth world right.mail right.logs w listed (Packet j b m) took) in
        ⊎_elim
        (λ (l : u < m).
        absurd (both_ways (has (world.worker (group_owner o j u k)).log.applied (Group j u k)) unapplied
        (applied_below o ok depth world right j b stage inside from m m (omega arith) is_worker given.0 given.1 u k l refl (opening_group o j (Group j u k) wake))))
        (λ (l : m ≤ u). l)
        (cases_lt u m)

    -- who holds the bin has the wake, until its group is applied
    pub holds_here : Holds o world j (o.bin_of k) w → is_opening_here o w (world.worker w).log j u k ≡ true
    holds_here h =
        let b = o.bin_of k in
        let log = (world.worker w).log in
        opening_from o w log j u k (
          wake,
          ⊎_elim
              (λ (f : (o.first_owner j b ≡ w) × ((m : ℕ) → In (Packet j b m) log.sent → ⊥)).
              inl (f.0, false_from_ne_true (left_since log j b 0) (λ e. let r = left_at log j b 0 e in f.1 r.0 r.2)))
              (λ (t : (m : ℕ) × In (Packet j b m) log.took × ((n : ℕ) → m < n → In (Packet j b n) log.sent → ⊥)).
              let m = t.0 in
              let move = ((right.logs w listed).took_owed (Packet j b m) t.1).0 in
              inr (m, after_start m move, taken_before m t.1, false_from_ne_true (left_since log j b m) (λ e. let r = left_at log j b m e in t.2 r.0 r.1 r.2), t.1))
              h,
        )
