-- A time may be settled where the next packet is of a later one.
use Rattle.std.proofs.Common.{◌≡◌, ◌↔◌, ℕ, ◌<◌, ◌≤◌, ◌==◌, ◌&&◌, true, false, List, [], ◌∷◌, ◌++◌, length, filter, refl, sym, ap, ◌∙◌, subst, ⊎_elim, append_assoc, arith}
use Rattle.std.proofs.lemmas.Bool.{both_ways, eqb-true, eq-eqb, and_from, and_parts, cases_lt, false≢true}
use Rattle.mp_names.specs.declared.names.Name.{Name}
use Rattle.mp_names.specs.declared.names.Name.TheVariants.{Packet, Settled}
use Rattle.mp_names.specs.declared.locations.Loc.TheVariants.{CtlMail}
use Rattle.mp_names.specs.Names.{has, In, IsPrefix, Less, IsAscending, is_packet, is_settled}
use Rattle.mp_names.specs.Outlines.{Outline, OutlineIsSound, time_of, sender, packets_of, control_times, IsOwedBy}
use Rattle.mp_names.specs.Logs.{Log, LogIsLegal}
use Rattle.mp_names.specs.Frontiers.{HasPassed}
use Rattle.mp_names.proofs.Lists.{In_here, In_right, In_cases, In_append, In_filter, filter_In}
use Rattle.mp_names.proofs.Orders.{before_rest, filter_ascends}
use Rattle.mp_names.proofs.Owners.{move_has_control}
use Rattle.mp_names.proofs.Listed.{packets_ascend, packet_In, packet_is, control_time_In, control_time_is, control_times_ascend}
use Rattle.mp_machine.specs.Worlds.{Worker}
use Rattle.mp_machine.specs.Steps.{MaySettle}
use Rattle.mp_player_laws.specs.Decisions.{ComesNext, packets_to_send, SendsInOrder}
use Rattle.mp_player_laws.proofs.Next.{next_in, next_is_new, less_is_done}
use Rattle.mp_player_laws.proofs.Decided.{not_in_filter}
use Rattle.mp_player_laws.specs.Numbers.{StandsAt}
use Rattle.mp_player_laws.proofs.Places.{next_stands, stands_next}

module _ (o : Outline) (ok : OutlineIsSound o) (w : ℕ) (worker : Worker) (good : LogIsLegal o w worker.log) (order : SendsInOrder o w worker.log) (j : ℕ) where
  abbrev log : Log
  log = worker.log

  abbrev sent : List Name
  sent = filter (is_packet j) log.sent

  abbrev settled : List Name
  settled = filter (is_settled j) log.settled

  abbrev all : List Name
  all = packets_to_send o w j

  -- the packets that the worker sends are moves of the stage that it owes
  packet_form : (P : Name → Type 0) → ((b s : ℕ) → IsOwedBy o w (Packet j b s) → P (Packet j b s)) → (y : Name) → In y all → P y
  packet_form P h y i = let r = In_filter (λ x. is_packet j x && sender o x == w) y (packets_of o) i in form y r.0 (and_parts (is_packet j y) (sender o y == w) r.1)
    where
      form : (y : Name) → In y (packets_of o) → (is_packet j y ≡ true) × (sender o y == w ≡ true) → P y
      form (Packet i b s) k p =
          let e : i ≡ j = eqb-true i j p.0 in
          subst (λ (n : ℕ). P (Packet n b s)) (sym e)
          (h b s (packet_is o j b s (subst (λ (n : ℕ). In (Packet n b s) (packets_of o)) e k), subst (λ (n : ℕ). sender o (Packet n b s) ≡ w) e (eqb-true (sender o (Packet i b s)) w p.1)))
      form _ k p = absurd (false≢true p.0)

  owed_in : (b t : ℕ) → IsOwedBy o w (Packet j b t) → In (Packet j b t) all
  owed_in b t m =
      filter_In (λ x. is_packet j x && sender o x == w) (Packet j b t) (packets_of o) (packet_In o j b t m.0)
      (and_from (j == j) (sender o (Packet j b t) == w) (eq-eqb j j refl) (eq-eqb (sender o (Packet j b t)) w m.1))

  module _ (t : ℕ) (next : ComesNext settled (control_times o j) (Settled j t)) where
    -- where a packet isn't sent, and those of time t are, it is of a later time
    pub later_packet : MaySettle o w worker j (Settled j t) → (y : Name) → StandsAt all (length sent) y → t < time_of o y
    later_packet may y stands =
        let n = stands_next sent all y (order.packets j) stands in
        packet_form (λ y. has sent y ≡ false → t < time_of o y) unsent y (next_in sent all y n) (next_is_new sent all y (filter_ascends (λ x. is_packet j x && sender o x == w) (packets_of o) (packets_ascend o)) n)
      where
        settled_before : (b s : ℕ) → IsOwedBy o w (Packet j b s) → s < t → In (Packet j b s) log.sent
        settled_before b s m less =
            let there = control_time_In o j s (move_has_control o j b s m.0) in
            let done = less_is_done settled (control_times o j) (Settled j t) (control_times_ascend o j) next (Settled j s) there (time_less s t less) in
            (good.settled_ready (Settled j s) (In_filter (is_settled j) (Settled j s) log.settled done).0).1 b m
          where
            time_less : (s t : ℕ) → s < t → Less (Settled j s) (Settled j t)
            time_less s t l = grind arith

        unsent : (b s : ℕ) → IsOwedBy o w (Packet j b s) → has sent (Packet j b s) ≡ false → t < s
        unsent b s m new =
            let not_sent = not_in_filter (is_packet j) log.sent (Packet j b s) (eq-eqb j j refl) new in
            ⊎_elim
            (λ (l : s < t). absurd (both_ways (has log.sent (Packet j b s)) not_sent (settled_before b s m l)))
            (λ (l : t ≤ s).
            ⊎_elim
            (λ (k : t < s). k)
            (λ (k : s ≤ t). let e : s ≡ t = omega arith in absurd (both_ways (has log.sent (Packet j b s)) not_sent (subst (λ (u : ℕ). In (Packet j b u) log.sent) (sym e) (may.1 b (subst (λ (u : ℕ). IsOwedBy o w (Packet j b u)) e m)))))
            (cases_lt t s))
            (cases_lt s t)

  -- where the next packet is of a later time, all of time t are sent
  pub none_left : (t : ℕ) → ((y : Name) → StandsAt all (length sent) y → t < time_of o y) → (b : ℕ) → IsOwedBy o w (Packet j b t) → In (Packet j b t) log.sent
  none_left t later b m =
      ⊎_elim
      (λ (i : In (Packet j b t) sent). (In_filter (is_packet j) (Packet j b t) log.sent i).0)
      (λ (i : In (Packet j b t) p.0). absurd (rest_first p.0 p.1 i))
      (In_append (Packet j b t) sent p.0 (subst (λ (l : List Name). In (Packet j b t) l) (sym p.1) (owed_in b t m)))
    where
      p : IsPrefix sent all
      p = order.packets j

      rest_first : (rest : List Name) → sent ++ rest ≡ all → In (Packet j b t) rest → ⊥
      rest_first [] e i = false≢true i
      rest_first (r ∷ more) e i =
          let n : ComesNext sent all r = (more, append_assoc sent (r ∷ []) more ∙ e) in
          let sorted = filter_ascends (λ x. is_packet j x && sender o x == w) (packets_of o) (packets_ascend o) in
          let after = later r (next_stands sent all r n) in
          ⊎_elim
          (λ (f : r ≡ Packet j b t). let same = ap (time_of o) f in absurd (omega arith))
          (λ (k : In (Packet j b t) more).
          packet_form (λ r. t < time_of o r → Less r (Packet j b t) → ⊥) (λ c s q l less. absurd (omega arith)) r (next_in sent all r n) after
          (before_rest (sent ++ r ∷ []) more (subst IsAscending (sym n.1) sorted) r (Packet j b t) (In_right r sent (r ∷ []) (In_here r [])) k))
          (In_cases (Packet j b t) r more i)

  abbrev IsSettledInTurn : Name → Type 0
  IsSettledInTurn x = HasPassed (worker.seen CtlMail) (time_of o x) × ((y : Name) → StandsAt all (length sent) y → time_of o x < time_of o y)

  pub settle_counted : (x : Name) → ComesNext settled (control_times o j) x → MaySettle o w worker j x ↔ IsSettledInTurn x
  settle_counted x next =
      let r = control_time_is o j x (next_in settled (control_times o j) x next) in
      subst (λ (z : Name). MaySettle o w worker j z ↔ IsSettledInTurn z) (sym r.1) (at r.0 (subst (ComesNext settled (control_times o j)) r.1 next))
    where
      at : (t : ℕ) → ComesNext settled (control_times o j) (Settled j t) → MaySettle o w worker j (Settled j t) ↔ IsSettledInTurn (Settled j t)
      at t next = ((λ may. (may.0, later_packet t next may)), (λ h. (h.0, none_left t h.1)))
