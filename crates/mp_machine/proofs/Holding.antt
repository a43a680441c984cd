-- Packets of a bin are sent and taken in the order of its moves; so it is in one place.
use Rattle.std.proofs.Common.{◌≡◌, ℕ, zero, suc, ◌<◌, ◌≤◌, ◌⊎◌, ◌==◌, nat_lt, Bool, true, false, ◌&&◌, List, [], filter, refl, sym, ap, ◌∙◌, subst, inl, inr, ⊎_elim, arith}
use Rattle.std.proofs.lemmas.Bool.{false≢true, eqb-true, eq-eqb, ltb-true, and_parts, and_from, both_ways, false_from_ne_true, cases_Bool, cases_eq, cases_lt, cases_order}
use Rattle.mp_names.specs.declared.names.Name.{Name}
use Rattle.mp_names.specs.declared.names.Name.TheVariants.{Packet, Group}
use Rattle.mp_names.specs.Names.{has, In, Less, IsAscending}
use Rattle.mp_names.specs.Controls.{is_below}
use Rattle.mp_names.specs.Outlines.{Outline, OutlineIsSound, control_at, owner_before, owner_at, group_owner, IsMove, packets_of}
use Rattle.mp_names.proofs.Lists.{In_filter, filter_In}
use Rattle.mp_names.proofs.Orders.{filter_ascends}
use Rattle.mp_names.proofs.Owners.{leaves, owner_is_worker, owners_follow}
use Rattle.mp_names.proofs.Listed.{packets_ascend, packet_In}
use Rattle.mp_names.specs.Logs.{InHandBefore, EarlierApplied}
use Rattle.mp_machine.specs.Worlds.{World}
use Rattle.mp_machine.specs.Promises.{BinIsAppliedBelow}
use Rattle.mp_machine.specs.Holding.{Holds, IsOnTheWay, HasOneHolder, HasOnePacket}
use Rattle.mp_machine.proofs.Conditions.{HasLast, last_of}
use Rattle.mp_machine.proofs.Mailboxes.{taken_is_sent}
use Rattle.mp_machine.proofs.Worlds.{WorldIsRight}

-- the first owner gives the bin up at or before any move
gives_up : (b : ℕ → ℕ) (m : ℕ) → (b m ≡ b (suc m) → ⊥) → (k : ℕ) × (k ≤ m) × (b k ≡ b 0) × (b k ≡ b (suc k) → ⊥)
gives_up b zero f = (0, omega arith, refl, f)
gives_up b (suc m) f =
    ⊎_elim
    (λ (e : b m ≡ b (suc m)).
    ⊎_elim (λ (g : b (suc m) ≡ b 0). (suc m, omega arith, g, f)) (λ (g : b (suc m) ≡ b 0 → ⊥). let r = earlier m g in let l = r.1 in (r.0, omega arith, r.2, r.3)) (cases_eq (b (suc m)) (b 0)))
    (λ (e : b m ≡ b (suc m) → ⊥). let r = gives_up b m e in let l = r.1 in (r.0, omega arith, r.2, r.3))
    (cases_eq (b m) (b (suc m)))
  where
    earlier : (m : ℕ) → (b (suc m) ≡ b 0 → ⊥) → (k : ℕ) × (k ≤ m) × (b k ≡ b 0) × (b k ≡ b (suc k) → ⊥)
    earlier zero g = (0, omega arith, refl, (λ e. g (sym e)))
    earlier (suc n) g =
        ⊎_elim
        (λ (e : b (suc n) ≡ b 0). (suc n, omega arith, e, (λ h. g (sym h ∙ e))))
        (λ (e : b (suc n) ≡ b 0 → ⊥). let r = earlier n e in let l = r.1 in (r.0, omega arith, r.2, r.3))
        (cases_eq (b (suc n)) (b 0))

-- the owner at s gives the bin up after s, at or before any later move
gives_up_after : (b : ℕ → ℕ) (s m : ℕ) → s < m → (b m ≡ b (suc m) → ⊥) → (k : ℕ) × (s < k) × (k ≤ m) × (b k ≡ b (suc s)) × (b k ≡ b (suc k) → ⊥)
gives_up_after b s zero l f = absurd (omega arith)
gives_up_after b s (suc m) l f =
    ⊎_elim
    (λ (e : b (suc s) ≡ b (suc m)). (suc m, l, omega arith, sym e, f))
    (λ (e : b (suc s) ≡ b (suc m) → ⊥). let r = leaves b s m (omega arith) e in let k = r.2 in (r.0, r.1, omega arith, r.3, r.4))
    (cases_eq (b (suc s)) (b (suc m)))

module _ (o : Outline) (ok : OutlineIsSound o) (depth : ℕ) (world : World) (right : WorldIsRight o depth world) (j b : ℕ) (lj : j < o.stages) (lb : b < o.bins) where
  owner_listed : (t : ℕ) → owner_before o j b t < o.workers
  owner_listed t = owner_is_worker o ok j b t lj lb

  first_is : owner_before o j b 0 ≡ o.first_owner j b
  first_is = (owners_follow o j b 0).1 (λ i l. false_from_ne_true (is_below j b 0 (control_at o i)) (λ h. never i h))
    where
      never : (i : ℕ) → is_below j b 0 (control_at o i) ≡ true → ⊥
      never i h =
          let p = and_parts ((control_at o i).stage == j) ((control_at o i).bin == b && nat_lt (control_at o i).time 0) h in
          let q = and_parts ((control_at o i).bin == b) (nat_lt (control_at o i).time 0) p.1 in
          let l = ltb-true (control_at o i).time 0 q.1 in
          omega arith

  is_sent : (w m : ℕ) → w < o.workers → In (Packet j b m) (world.worker w).log.sent → IsMove o j b m × (owner_before o j b m ≡ w)
  is_sent w m l h = (right.logs w l).sent_owed (Packet j b m) h

  is_taken : (w m : ℕ) → w < o.workers → In (Packet j b m) (world.worker w).log.took → In (Packet j b m) (world.worker (owner_before o j b m)).log.sent
  is_taken w m l h = taken_is_sent o ok depth world right.mail right.logs w l (Packet j b m) h

  sent_move : (m : ℕ) → In (Packet j b m) (world.worker (owner_before o j b m)).log.sent → IsMove o j b m
  sent_move m h = (is_sent (owner_before o j b m) m (owner_listed m) h).0

  -- where a packet is sent, those of all earlier moves are taken
  pub earlier_taken : (v w m : ℕ) → m < v → w < o.workers → In (Packet j b m) (world.worker w).log.sent → (k : ℕ) → k < m → IsMove o j b k → In (Packet j b k) (world.worker (owner_at o j b k)).log.took
  earlier_taken zero w m c l h k q move = absurd (omega arith)
  earlier_taken (suc v) w m c l h k q move =
      let given = ((right.logs w l).sent_given (Packet j b m) h).0 in
      ⊎_elim
      (λ (n : (i : ℕ) → i < m → IsMove o j b i → ⊥). absurd (n k q move))
      (λ (r : (i : ℕ) × (i < m) × IsMove o j b i × ((n : ℕ) → i < n → n < m → IsMove o j b n → ⊥) × In (Packet j b i) (world.worker w).log.took).
      let lt = r.1 in
      let owed = (right.logs w l).took_owed (Packet j b r.0) r.4 in
      ⊎_elim
      (λ (e : k ≡ r.0). subst (λ (n : ℕ). In (Packet j b n) (world.worker (owner_at o j b n)).log.took) (sym e) (subst (λ (n : ℕ). In (Packet j b r.0) (world.worker n).log.took) (sym owed.1) r.4))
      (λ (z : (k < r.0) ⊎ (r.0 < k)).
      ⊎_elim
      (λ (d : k < r.0). earlier_taken v (owner_before o j b r.0) r.0 (omega arith) (owner_listed r.0) (is_taken w r.0 l r.4) k d move)
      (λ (d : r.0 < k). absurd (r.3 k d q move))
      z)
      (cases_order k r.0))
      given.1

  -- where the packet of m is sent, so is that of each move at or before m
  sent_upto : (m k : ℕ) → In (Packet j b m) (world.worker (owner_before o j b m)).log.sent → k ≤ m → IsMove o j b k → In (Packet j b k) (world.worker (owner_before o j b k)).log.sent
  sent_upto m k h l move =
      ⊎_elim
      (λ (e : k ≡ m). subst (λ (n : ℕ). In (Packet j b n) (world.worker (owner_before o j b n)).log.sent) (sym e) h)
      (λ (z : (k < m) ⊎ (m < k)).
      ⊎_elim
      (λ (d : k < m). is_taken (owner_at o j b k) k (owner_listed (suc k)) (earlier_taken (suc m) (owner_before o j b m) m (omega arith) (owner_listed m) h k d move))
      (λ (d : m < k). absurd (omega arith))
      z)
      (cases_order k m)

  one_packet : (m k : ℕ) → IsOnTheWay o world j b m → IsOnTheWay o world j b k → m < k → ⊥
  one_packet m k h g l = both_ways (has (world.worker (owner_at o j b m)).log.took (Packet j b m)) h.1 (earlier_taken (suc k) (owner_before o j b k) k (omega arith) (owner_listed k) g.0 m l (sent_move m h.0))

  -- where the first owner sent no packet, none was ever sent
  first_then : (w m : ℕ) → o.first_owner j b ≡ w → ((k : ℕ) → In (Packet j b k) (world.worker w).log.sent → ⊥) → In (Packet j b m) (world.worker (owner_before o j b m)).log.sent → ⊥
  first_then w m e n h =
      let r = gives_up (owner_before o j b) m (sent_move m h) in
      n r.0 (subst (λ (v : ℕ). In (Packet j b r.0) (world.worker v).log.sent) (r.2 ∙ first_is ∙ e) (sent_upto m r.0 h r.1 r.3))

  -- where who took the packet of s sent none since, no later packet was ever sent
  later_then : (w s m : ℕ) → owner_at o j b s ≡ w → ((k : ℕ) → s < k → In (Packet j b k) (world.worker w).log.sent → ⊥) → In (Packet j b m) (world.worker (owner_before o j b m)).log.sent → s < m → ⊥
  later_then w s m e n h l =
      let r = gives_up_after (owner_before o j b) s m l (sent_move m h) in
      n r.0 r.1 (subst (λ (v : ℕ). In (Packet j b r.0) (world.worker v).log.sent) (r.3 ∙ e) (sent_upto m r.0 h r.2 r.4))

  First : ℕ → Type 0
  First w = (o.first_owner j b ≡ w) × ((m : ℕ) → In (Packet j b m) (world.worker w).log.sent → ⊥)

  Took : ℕ → Type 0
  Took w = (m : ℕ) × In (Packet j b m) (world.worker w).log.took × ((n : ℕ) → m < n → In (Packet j b n) (world.worker w).log.sent → ⊥)

  took_of : (w m : ℕ) → w < o.workers → In (Packet j b m) (world.worker w).log.took → (owner_at o j b m ≡ w) × In (Packet j b m) (world.worker (owner_before o j b m)).log.sent
  took_of w m l h = (((right.logs w l).took_owed (Packet j b m) h).1, is_taken w m l h)

  one_holder : (w v : ℕ) → w < o.workers → v < o.workers → Holds o world j b w → Holds o world j b v → w ≡ v
  unfolding First Took
  one_holder w v lw lv h g =
      ⊎_elim
      (λ (f : First w).
      ⊎_elim
      (λ (d : First v). sym f.0 ∙ d.0)
      (λ (d : Took v). absurd (first_then w d.0 f.0 f.1 (took_of v d.0 lv d.1).1))
      g)
      (λ (f : Took w).
      ⊎_elim
      (λ (d : First v). absurd (first_then v f.0 d.0 d.1 (took_of w f.0 lw f.1).1))
      (λ (d : Took v).
      let p = took_of w f.0 lw f.1 in
      let q = took_of v d.0 lv d.1 in
      ⊎_elim
      (λ (e : f.0 ≡ d.0). sym p.0 ∙ subst (λ (n : ℕ). owner_at o j b n ≡ v) (sym e) q.0)
      (λ (z : (f.0 < d.0) ⊎ (d.0 < f.0)).
      ⊎_elim (λ (k : f.0 < d.0). absurd (later_then w f.0 d.0 p.0 f.2 q.1 k)) (λ (k : d.0 < f.0). absurd (later_then v d.0 f.0 q.0 d.2 p.1 k)) z)
      (cases_order f.0 d.0))
      g)
      h

  not_both : (w m : ℕ) → w < o.workers → Holds o world j b w → IsOnTheWay o world j b m → ⊥
  unfolding First Took
  not_both w m l h g =
      ⊎_elim
      (λ (f : First w). first_then w m f.0 f.1 g.0)
      (λ (f : Took w).
      let p = took_of w f.0 l f.1 in
      let at = subst (λ (v : ℕ). In (Packet j b f.0) (world.worker v).log.took) (sym p.0) f.1 in
      ⊎_elim
      (λ (e : f.0 ≡ m). both_ways (has (world.worker (owner_at o j b m)).log.took (Packet j b m)) g.1 (subst (λ (n : ℕ). In (Packet j b n) (world.worker (owner_at o j b n)).log.took) e at))
      (λ (z : (f.0 < m) ⊎ (m < f.0)).
      ⊎_elim
      (λ (k : f.0 < m). later_then w f.0 m p.0 f.2 g.0 k)
      (λ (k : m < f.0). both_ways (has (world.worker (owner_at o j b m)).log.took (Packet j b m)) g.1 (earlier_taken (suc f.0) (owner_before o j b f.0) f.0 (omega arith) (owner_listed f.0) p.1 m k (sent_move m g.0)))
      z)
      (cases_order f.0 m))
      h

  -- the packets of the bin that are sent

  is_sent_packet : Name → Bool
  is_sent_packet (Packet i c m) = i == j && (c == b && has (world.worker (owner_before o j b m)).log.sent (Packet j b m))
  is_sent_packet _ = false

  sent_packets : List Name
  sent_packets = filter is_sent_packet (packets_of o)

  sent_listed : (m : ℕ) → In (Packet j b m) (world.worker (owner_before o j b m)).log.sent → In (Packet j b m) sent_packets
  unfolding is_sent_packet sent_packets
  sent_listed m h =
      filter_In is_sent_packet (Packet j b m) (packets_of o) (packet_In o j b m (sent_move m h))
      (and_from (j == j) (b == b && has (world.worker (owner_before o j b m)).log.sent (Packet j b m)) (eq-eqb j j refl)
      (and_from (b == b) (has (world.worker (owner_before o j b m)).log.sent (Packet j b m)) (eq-eqb b b refl) h))

  listed_sent : (x : Name) → In x sent_packets → (m : ℕ) × (x ≡ Packet j b m) × In (Packet j b m) (world.worker (owner_before o j b m)).log.sent
  unfolding is_sent_packet sent_packets
  listed_sent x h = found x (In_filter is_sent_packet x (packets_of o) h).1
    where
      found : (x : Name) → is_sent_packet x ≡ true → (m : ℕ) × (x ≡ Packet j b m) × In (Packet j b m) (world.worker (owner_before o j b m)).log.sent
      found (Packet i c m) e =
          let p = and_parts (i == j) (c == b && has (world.worker (owner_before o j b m)).log.sent (Packet j b m)) e in
          let q = and_parts (c == b) (has (world.worker (owner_before o j b m)).log.sent (Packet j b m)) p.1 in
          let e0 = eqb-true i j p.0 in
          let e1 = eqb-true c b q.0 in
          (m, cc, q.1)
      found _ e = absurd (false≢true e)

  -- a holder is the only one, and nothing is on the way
  held : (w : ℕ) → w < o.workers → Holds o world j b w → HasOneHolder o world j b
  held w l h = record { holder = w; listed = l; holds = h; alone = λ v lv g. one_holder v w lv l g h; settled = λ m g. not_both w m l h g }

  on_the_way : (m : ℕ) → IsOnTheWay o world j b m → HasOnePacket o world j b
  on_the_way m h =
      record {
        time = m;
        on_the_way = h;
        alone = λ k g. ⊎_elim (λ (e : k ≡ m). e) (λ (z : (k < m) ⊎ (m < k)). ⊎_elim (λ (l : k < m). absurd (one_packet k m g h l)) (λ (l : m < k). absurd (one_packet m k h g l)) z) (cases_order k m);
        unheld = λ w l g. not_both w m l g h;
      }

  -- the packet of the last move whose packet is sent: on the way, or taken by who holds the bin
  after_last : (m : ℕ) → In (Packet j b m) (world.worker (owner_before o j b m)).log.sent → ((k : ℕ) → m < k → In (Packet j b k) (world.worker (owner_before o j b k)).log.sent → ⊥) → HasOneHolder o world j b ⊎ HasOnePacket o world j b
  after_last m h last =
      ⊎_elim
      (λ (e : has (world.worker (owner_at o j b m)).log.took (Packet j b m) ≡ true).
      inl (held (owner_at o j b m) (owner_listed (suc m)) (inr (m, e, (λ k l g. last k l (subst (λ (v : ℕ). In (Packet j b k) (world.worker v).log.sent) (sym (is_sent (owner_at o j b m) k (owner_listed (suc m)) g).1) g))))))
      (λ (e : has (world.worker (owner_at o j b m)).log.took (Packet j b m) ≡ false). inr (on_the_way m (h, e)))
      (cases_Bool (has (world.worker (owner_at o j b m)).log.took (Packet j b m)))

  pub in_one_place : HasOneHolder o world j b ⊎ HasOnePacket o world j b
  unfolding sent_packets
  in_one_place =
      ⊎_elim
      (λ (e : sent_packets ≡ []).
      inl (held (o.first_owner j b) (ok.first_owners_fit j b lj lb) (inl (refl, (λ m h. false≢true (subst (λ (xs : List Name). In (Packet j b m) xs) e (sent_listed m (subst (λ (v : ℕ). In (Packet j b m) (world.worker v).log.sent) (sym (is_sent (o.first_owner j b) m (ok.first_owners_fit j b lj lb) h).1) h)))))))
      )
      (λ (r : HasLast sent_packets).
      let f = listed_sent r.0 r.1 in
      after_last f.0 f.2 (λ k l h. r.2 (Packet j b k) (sent_listed k h) (subst (λ (x : Name). Less x (Packet j b k)) (sym f.1) (inr (refl, inl l)))))
      (last_of sent_packets ascends)
    where
      ascends : IsAscending sent_packets
      ascends = filter_ascends is_sent_packet (packets_of o) (packets_ascend o)

  -- where the bin is in hand just before t, and this worker's groups of it below s are applied, all groups of it below s are
  all_applied : (v w t s : ℕ) → t < v → s ≤ t → w < o.workers → InHandBefore o w (world.worker w).log j b t → EarlierApplied o w (world.worker w).log j b s → BinIsAppliedBelow o world j b s
  all_applied zero w t s c d l hand own u k before bin group = absurd (omega arith)
  all_applied (suc v) w t s c d l hand own u k before bin group =
      ⊎_elim
      (λ (none : (m : ℕ) → m < t → IsMove o j b m → ⊥). mine (still t u (omega arith) hand.0 (λ m f g. none m g)))
      (λ (r : (m : ℕ) × (m < t) × IsMove o j b m × ((n : ℕ) → m < n → n < t → IsMove o j b n → ⊥) × In (Packet j b m) (world.worker w).log.took).
      let lt = r.1 in
      ⊎_elim
      (λ (e : u < r.0).
      let from = owner_before o j b r.0 in
      let given = (right.logs from (owner_listed r.0)).sent_given (Packet j b r.0) (is_taken w r.0 l r.4) in
      all_applied v from r.0 r.0 (omega arith) (omega arith) (owner_listed r.0) given.0 given.1 u k e bin group)
      (λ (e : r.0 ≤ u). mine (still t u (omega arith) hand.0 (λ m f g. r.3 m (omega arith) g)))
      (cases_lt u r.0))
      hand.1
    where
      mine : owner_at o j b u ≡ w → In (Group j u k) (world.worker (group_owner o j u k)).log.applied
      mine e =
          let owner : group_owner o j u k ≡ w = ap (λ (c : ℕ). owner_at o j c u) bin ∙ e in
          subst (λ (n : ℕ). In (Group j u k) (world.worker n).log.applied) (sym owner) (own u k before bin owner group)

      still : (t u : ℕ) → u < t → owner_before o j b t ≡ w → ((m : ℕ) → u < m → m < t → IsMove o j b m → ⊥) → owner_at o j b u ≡ w
      still zero u l e none = absurd (omega arith)
      still (suc t) u l e none =
          ⊎_elim
          (λ (f : owner_at o j b u ≡ owner_at o j b t). f ∙ e)
          (λ (f : owner_at o j b u ≡ owner_at o j b t → ⊥). let q = leaves (owner_before o j b) u t (omega arith) f in let n = q.2 in absurd (none q.0 q.1 (omega arith) q.4))
          (cases_eq (owner_at o j b u) (owner_at o j b t))

  pub applied_below : (w t s : ℕ) → s ≤ t → w < o.workers → InHandBefore o w (world.worker w).log j b t → EarlierApplied o w (world.worker w).log j b s → BinIsAppliedBelow o world j b s
  applied_below w t s d l hand own = all_applied (suc t) w t s (omega arith) d l hand own
