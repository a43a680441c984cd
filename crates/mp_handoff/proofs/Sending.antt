-- Movers once a packet is sent.
use Rattle.std.proofs.Common.{◌≡◌, ◌⊎◌, ◌++◌, ℕ, false, not, List, [], ◌∷◌, Some, refl, sym, ap, ◌∙◌, subst, inl, inr, ⊎_elim}
use Rattle.std.proofs.lemmas.List.{map-append}
use Rattle.std.proofs.lemmas.Bool.{eq-eqb, false_from_ne_true, true_from_ne_false}
use Rattle.mp_names.specs.declared.locations.Loc.TheVariants.{CtlMail}
use Rattle.mp_names.specs.declared.names.Name.{Name}
use Rattle.mp_names.specs.declared.names.Name.TheVariants.{Packet, Settled}
use Rattle.mp_names.specs.declared.pointstamps.TimedBin.{TimedBin}
use Rattle.mp_names.specs.Frontiers.{HasPassed}
use Rattle.mp_names.specs.Logs.{Log, with_sent}
use Rattle.mp_names.specs.Names.{has, In, is_packet}
use Rattle.mp_names.specs.Outlines.{Outline, IsOwedBy}
use Rattle.mp_names.proofs.Exact.{passed_earlier}
use Rattle.mp_names.proofs.Lists.{In_left, In_push}
use Rattle.mp_stamps.specs.declared.seen.Seen.{Seen}
use Rattle.mp_stamps.specs.Seen.{seen_at}
use Rattle.mp_bins.specs.Notes.{Notes}
use Rattle.mp_bins.specs.Leaving.{IsAfter, bin_at}
use Rattle.mp_handoff.specs.declared.sent.Sent.{Sent}
use Rattle.mp_handoff.specs.Due.{MoversMatchLogAndSeen, IsLeastDue}
use Rattle.mp_handoff.specs.MoversState.{MoversState, is_after}
use Rattle.mp_handoff.specs.MoversOf.{IsMoversOf}
use Rattle.mp_handoff.proofs.After.{after_connected, after_from, after_is, after_less, after_trans, never_itself, no_later}
use Rattle.mp_handoff.proofs.Leaving.{after_unsent, unsent_after}
use Rattle.mp_handoff.proofs.Same.{In_last, filter_put_in, has_other}

-- the bin and the time of a packet
same_packet : (j a s b t : ℕ) → Packet j a s ≡ Packet j b t → (a ≡ b) × (s ≡ t)
same_packet j a s b t e = (cc, cc)

module _ (o : Outline) (log : Log) (notes : Notes) (seen : Seen) (m : MoversState) (i : MoversMatchLogAndSeen o log notes seen m) (c u : ℕ) (least : IsLeastDue o log seen m c u) where
  -- the packet is owed, and comes after the last one
  comes_next : IsAfter m.last u c
  comes_next = unsent_after o log m i.0 c u least.0.0.1 least.0.0.2

  module _ (b t : ℕ) (owed : IsOwedBy o m.worker (Packet m.stage b t)) where
    in_front : (IsAfter (Some (bin_at u c)) t b → ⊥) → is_after (Some (bin_at u c)) t b ≡ false
    in_front n = false_from_ne_true (is_after (Some (bin_at u c)) t b) (λ h. n (after_is (Some (bin_at u c)) t b h))

    the_last : (u ≡ t) × (c ≡ b) → has (log.sent ++ Packet m.stage c u ∷ []) (Packet m.stage b t) ≡ not (is_after (Some (bin_at u c)) t b)
    the_last e =
        let same : Packet m.stage c u ≡ Packet m.stage b t = cc in
        let none = in_front (λ h. never_itself t b (subst (λ (p : TimedBin). IsAfter (Some p) t b) (cc) h)) in
        subst (λ (x : Name). In x (log.sent ++ Packet m.stage c u ∷ [])) same (In_last (Packet m.stage c u) log.sent) ∙ sym (ap not none)

    a_later : IsAfter (Some (bin_at u c)) t b → has (log.sent ++ Packet m.stage c u ∷ []) (Packet m.stage b t) ≡ not (is_after (Some (bin_at u c)) t b)
    a_later a =
        has_other (Packet m.stage c u) (Packet m.stage b t) log.sent (λ e. let s = same_packet m.stage c u b t e in never_itself t b (subst (λ (p : TimedBin). IsAfter (Some p) t b) (cc) a))
        ∙ after_unsent o log m i.0 b t owed (after_trans m.last u c t b comes_next a)
        ∙ sym (ap not (after_from (Some (bin_at u c)) t b a))

    an_earlier : IsAfter (Some (bin_at t b)) u c → has (log.sent ++ Packet m.stage c u ∷ []) (Packet m.stage b t) ≡ not (is_after (Some (bin_at u c)) t b)
    an_earlier a =
        let before = λ (h : IsAfter (Some (bin_at u c)) t b). never_itself u c (after_trans (Some (bin_at u c)) t b u c h a) in
        let passed = passed_earlier (seen_at seen CtlMail) u t least.0.1 (no_later u c t b before) in
        let was = true_from_ne_false (has log.sent (Packet m.stage b t)) (λ n. least.1 (Packet m.stage b t) ((refl, owed, n), passed) (after_less m.stage t b u c a)) in
        In_left (Packet m.stage b t) log.sent (Packet m.stage c u ∷ []) was ∙ sym (ap not (in_front before))

    sent_to : has (log.sent ++ Packet m.stage c u ∷ []) (Packet m.stage b t) ≡ not (is_after (Some (bin_at u c)) t b)
    sent_to =
        ⊎_elim the_last (λ (h : IsAfter (Some (bin_at u c)) t b ⊎ IsAfter (Some (bin_at t b)) u c). ⊎_elim a_later an_earlier h) (after_connected u c t b)

  pub sent_on : (keys room : ℕ)
      → IsMoversOf o (with_sent log (Packet m.stage c u)) (record m { last = Some (bin_at u c); sent = m.sent ++ record { bin = c; time = u; keys = keys } ∷ []; room_for_sent = room })
  sent_on keys room = record {
    unsettled = i.0.unsettled;
    sent = sent_to;
    known = λ k t done l le.
        ⊎_elim
        (λ (s : In (Settled m.stage t) log.settled). i.0.known k t (inl s) l le)
        (λ (s : (b : ℕ) × In (Packet m.stage b t) (log.sent ++ Packet m.stage c u ∷ [])).
        ⊎_elim
        (λ (before : In (Packet m.stage s.0 t) log.sent). i.0.known k t (inr (s.0, before)) l le)
        (λ (e : Packet m.stage c u ≡ Packet m.stage s.0 t). i.1.taken k t (subst (λ (v : ℕ). HasPassed (seen_at seen CtlMail) v) (same_packet m.stage c u s.0 t e).1 least.0.1) l le)
        (In_push (Packet m.stage s.0 t) (Packet m.stage c u) log.sent s.1))
        done;
    settled = λ b t s owed. In_left (Packet m.stage b t) log.sent (Packet m.stage c u ∷ []) (i.0.settled b t s owed);
    packets = map-append (λ (s : Sent). Packet m.stage s.bin s.time) m.sent (record { bin = c; time = u; keys = keys } ∷ []) ∙ ap (λ (l : List Name). l ++ Packet m.stage c u ∷ []) i.0.packets ∙ sym (filter_put_in (is_packet m.stage) log.sent (Packet m.stage c u) (eq-eqb m.stage m.stage refl));
  }
