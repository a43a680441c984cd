-- The least group that waits is whole, where its records and packets have come.
use Rattle.std.proofs.Common.{◌≡◌, ℕ, zero, suc, ◌<◌, ◌≤◌, Bool, true, false, refl, ◌∙◌, inl, inr, ⊎_elim, arith}
use Rattle.std.proofs.lemmas.Bool.{false≢true, eqb-true, eq-eqb, cases_Bool}
use Rattle.mp_names.specs.declared.names.Name.TheVariants.{Rec, Packet, Group}
use Rattle.mp_names.specs.declared.locations.Loc.TheVariants.{Mail, Move, State, Host}
use Rattle.mp_names.specs.Names.{has, In, is_packet, Less, IsLeast}
use Rattle.mp_names.specs.Outlines.{Outline, OutlineIsSound, owner_before, owner_at, group_owner, groups_of, is_woken, IsMove}
use Rattle.mp_names.specs.Logs.{Log, LogIsLegal, InHandBefore, has_wake, is_owned}
use Rattle.mp_names.specs.Locations.{stays}
use Rattle.mp_names.specs.Frontiers.{SentAll, TookAll, IsDoneBy, IsClosedForOne}
use Rattle.mp_names.specs.Keeping.{IsWaiting, GroupIsWhole}
use Rattle.mp_names.proofs.Owners.{last_below_time}
use Rattle.mp_names.proofs.Listed.{group_form}
use Rattle.mp_names.proofs.Reach.{move-state}
use Rattle.mp_names.proofs.Hosts.{pending_until, pending_mine, pending_new, wake_here, wake_woken}

-- the bin is in hand just before t, where its owner has taken all packets of earlier times
pub in_hand_before : (o : Outline) (w : ℕ) (log : Log) (j b t : ℕ) → owner_before o j b t ≡ w → ((m : ℕ) → m < t → TookAll o w log (is_packet j) m) → InHandBefore o w log j b t
in_hand_before o w log j b t mine took = (
  mine,
  ⊎_elim
      (λ (n : (m : ℕ) → m < t → IsMove o j b m → ⊥). inl n)
      (λ (r : (m : ℕ) × (m < t) × IsMove o j b m × (owner_at o j b m ≡ owner_before o j b t) × ((k : ℕ) → m < k → k < t → IsMove o j b k → ⊥)).
      inr (r.0, r.1, r.2, r.4, took r.0 r.1 (Packet j b r.0) (r.2, r.3 ∙ mine) (eq-eqb j j refl) refl))
      (last_below_time (owner_before o j b) t),
)

both : (a b : Bool) → (a ≡ true → b ≡ true) → (b ≡ true → a ≡ true) → a ≡ b
both true true f g = refl
both true false f g = absurd (false≢true (f refl))
both false true f g = absurd (false≢true (g refl))
both false false f g = refl

module _
    (o : Outline) (ok : OutlineIsSound o) (w : ℕ) (log : Log) (good : LogIsLegal o w log) (j t k : ℕ) (least : IsLeast (IsWaiting o w log j) (Group j t k))
    (mail : IsClosedForOne o w log (Mail j) t) (state : IsClosedForOne o w log (State j) t) where
  mails : (s : ℕ) → s ≤ t → IsDoneBy o w log (Mail j) s
  mails s l = mail (Mail j) s stays l

  states : (s : ℕ) → s ≤ t → IsDoneBy o w log (State j) s
  states s l = state (State j) s stays l

  packets : (s : ℕ) → s ≤ t → SentAll o w log (is_packet j) s
  packets s l = (state (Move j) s (move-state j) l).1

  mine : group_owner o j t k ≡ w
  mine = pending_mine o ok w log good j t packets k least.0.1

  -- by time: what is less doesn't wait, so it is applied
  applied_before : (v s l : ℕ) → s < v → In (Group j s l) (groups_of o j) → group_owner o j s l ≡ w → Less (Group j s l) (Group j t k) → In (Group j s l) log.applied
  applied_before zero s l b g h less = absurd (omega arith)
  applied_before (suc v) s l b g h less =
      let le : s ≤ t = omega arith in
      ⊎_elim
      (λ (q : has log.applied (Group j s l) ≡ true). q)
      (λ (q : has log.applied (Group j s l) ≡ false).
      let p = pending_until o ok w log good j s (λ u c. mails u (omega arith)) (λ u c. states u (omega arith)) (λ u c x i e f. group_form o ok (λ x. is_owned o w x ≡ true → In x log.applied) j u (λ n i e. applied_before v u n (omega arith) i (own u n e) (sooner u n s l c less)) x i f e) l g h q in
      absurd (least.1 (Group j s l) (g, p) less))
      (cases_Bool (has log.applied (Group j s l)))
    where
      own : (u n : ℕ) → is_owned o w (Group j u n) ≡ true → group_owner o j u n ≡ w
      own u n e = eqb-true (group_owner o j u n) w e

      sooner : (u n s l : ℕ) → u < s → Less (Group j s l) (Group j t k) → Less (Group j u n) (Group j t k)
      sooner u n s l c less = inr (refl, inl (omega arith))

  -- a wake of this group that is woken is here, and one that is here wakes it
  wake_known : has_wake o w log j t k ≡ is_woken o j t k
  wake_known =
      both (has_wake o w log j t k) (is_woken o j t k) (wake_woken o w log j t k) (λ h. wake_here o ok w log good j t mails states hosts k h mine (pending_new o w log j t k least.0.1))
    where
      hosts : (s : ℕ) → s < t → IsDoneBy o w log (Host j) s
      hosts s l x i e f = group_form o ok (λ x. is_owned o w x ≡ true → In x log.applied) j s (λ n i e. applied_before (suc s) s n (omega arith) i (eqb-true (group_owner o j s n) w e) (inr (refl, inl l))) x i f e

  pub whole : GroupIsWhole o w log j t k
  whole =
      record {
        owned = mine;
        bin_in_hand = in_hand_before o w log j (o.bin_of k) (suc t) mine (λ m l. states m (omega arith));
        records_taken = λ g i. mails t (omega arith) (Rec j t k g) (((ok.records_are j (Rec j t k g) i).0, i), mine) (eq-eqb j j refl) refl;
        wake_known = wake_known;
        earlier_applied = λ u l g h less. applied_before (suc u) u l (omega arith) g h less;
        packets_sent = λ m l d. packets m l (Packet j (o.bin_of k) m) d (eq-eqb j j refl) refl;
      }
