-- A bin that has to leave a host is there, it is what the bin has just before its move, and the host without it holds what its worker's log says with the packet sent.
use Rattle.std.proofs.Common.{◌≡◌, ◌↔◌, ℕ, ◌<◌, ◌≤◌, ◌==◌, true, false, Option, None, Some, IsSome, List, [], ◌∷◌, ◌++◌, All, Any, Contains, refl, sym, ap, ◌∙◌, subst, ⊎_elim}
use Rattle.std.proofs.lemmas.Bool.{and_from, and_parts, both_ways, eq-eqb, false_from_ne_true, lt-ltb, ltb-true}
use Rattle.std.proofs.lemmas.List.Elements.{All-contains}
use Rattle.mp_names.specs.declared.names.Name.TheVariants.{Group, Packet}
use Rattle.mp_names.specs.Names.{has, In}
use Rattle.mp_names.specs.Outlines.{OutlineIsSound, IsOwedBy}
use Rattle.mp_names.specs.Logs.{EarlierApplied, InHandBefore, Log, LogIsLegal, left_since, with_sent}
use Rattle.mp_names.proofs.Hosts.{left_at, left_from}
use Rattle.mp_names.proofs.Lists.{In_left, In_push}
use Rattle.mp_names.proofs.Owners.{move_in_shape}
use Rattle.mp_bins.specs.Bins.{bin_of_key}
use Rattle.mp_model.specs.Facts.{JobFacts, QueryFacts}
use Rattle.mp_model.specs.QueryLaws.{LaterStagesPostNothing}
use Rattle.mp_outline.specs.JobOutline.{outline_of}
use Rattle.mp_outline.proofs.Found.{found, found_there}
use Rattle.mp_outline.proofs.Pairs.{AllPairs-Pairs, Pairs}
use Rattle.mp_msg.specs.States.{IsStateBefore}
use Rattle.mp_host_laws.specs.declared.held.Held.{Held}
use Rattle.mp_host_laws.specs.Hosted.{Hosted, StateStands, began_before, is_held_before, state_before}
use Rattle.mp_host_laws.specs.Moving.{IsTakenOut, last_first}
use Rattle.mp_host_laws.specs.HostOf.{IsHostOf, IsInHandSince, IsStateOf, MovesInOrder}
use Rattle.mp_host_laws.specs.Laws.{BinsLeave, LeavingBinsAreHere, MayLeaveNow}
use Rattle.mp_host_laws.proofs.Changed.{Contains-one}
use Rattle.mp_host_laws.proofs.LastFirst.{still_apart, still_in, was_in}
use Rattle.mp_host_laws.proofs.Lists.{All-each}
use Rattle.mp_host_laws.proofs.Logs.{has_push, push_has}
use Rattle.mp_host_laws.proofs.Parts.{Pairs-one, Pairs-others, one_or_other, other_is_in}
use Rattle.mp_host_laws.proofs.Resting.{IsAppliedTo, state_of_stay}
use Rattle.mp_host_laws.proofs.Stays.{StaysSince, state_leaving}
use Rattle.mp_host_laws.proofs.Holding.{apart_turn, AreApart, by_parts, IsSince, state_same}

module _ {Cell : Type 0} (q : QueryFacts Cell) (job : JobFacts) (sound : OutlineIsSound (outline_of q job)) (log : Log) (h : Hosted Cell) (b t : ℕ)
    (host : IsHostOf q job log h) (good : LogIsLegal (outline_of q job) h.worker log) (may : MayLeaveNow q job log h b t) where
  -- the job has the stage and the bin
  pub leaves_in_shape : (h.stage < job.shape.stages) × (b < job.shape.bins)
  leaves_in_shape = move_in_shape (outline_of q job) sound h.stage b t may.owed.0

  -- the packet leaves from hand, and after the bin's earlier groups
  given : InHandBefore (outline_of q job) h.worker log h.stage b t × EarlierApplied (outline_of q job) h.worker log h.stage b t
  given = may.legal.sent_given (Packet h.stage b t) (push_has log.sent (Packet h.stage b t))

  leaving_is_here : IsSome (state_before h b t)
  leaving_is_here = let r = state_leaving q job log h host good b t sound may in subst (λ (s : Option (Held Cell)). IsSome s) (sym r.2.found) refl

  -- What it has

  -- no group of the bin from the move on is applied
  late : (u k : ℕ) → bin_of_key k job.shape.bins ≡ b → t ≤ u → has log.applied (Group h.stage u k) ≡ false
  late u k own l =
      false_from_ne_true (has log.applied (Group h.stage u k)) (λ i.
      let owed = subst (λ (c : ℕ). IsOwedBy (outline_of q job) h.worker (Packet h.stage c t)) (sym own) may.owed in
      both_ways (has log.sent (Packet h.stage b t)) may.unsent (subst (λ (c : ℕ). In (Packet h.stage c t) log.sent) own (host.moves.groups u k t l i owed)))

  rests : IsAppliedTo (outline_of q job) h.worker log h.stage b t
  rests = record { owner = given.0.0; earlier = given.1; none_later = late }

  -- so a state of the stay is what the bin has just before the move
  left_state : LaterStagesPostNothing q → (s : Held Cell) → Contains h.held s → s.bin ≡ b → StaysSince (outline_of q job) log h.stage b t s.since → StateStands q job h.stage s → IsStateBefore q job h.stage b t s.state
  left_state nothing s here bin stays denotes =
      state_of_stay q job sound h.worker log h.stage b t leaves_in_shape.0 rests nothing s bin stays (All-contains (IsStateOf q job log h.stage) h.held s host.states here) denotes

  -- The host without it

  module _ (one : Held Cell) (new : Hosted Cell) (taken : IsTakenOut b t one h new) where
    abbrev gone : Log
    gone = with_sent log (Packet h.stage b t)

    abbrev others : List (Held Cell)
    others = taken.front ++ last_first taken.rest

    pub one_was_here : Contains h.held one
    one_was_here = subst (λ (hs : List (Held Cell)). Contains hs one) (sym taken.was) (Contains-one taken.front one one taken.rest)

    pub other_was_here : (s : Held Cell) → Contains others s → Contains h.held s
    other_was_here s i = was_in taken.front one taken.rest h.held taken.was s (other_is_in one taken.front (last_first taken.rest) s i)

    -- it is the state of the stay
    one_stays : (one.bin ≡ b) × StaysSince (outline_of q job) log h.stage b t one.since
    one_stays =
        let r = state_leaving q job log h host good b t sound may in
        let e = r.2.only one one_was_here taken.found in
        (e.0, subst (StaysSince (outline_of q job) log h.stage b t) (sym e.1) r.2.stays)

    were_apart : Pairs AreApart (taken.front ++ one ∷ last_first taken.rest)
    were_apart = still_apart taken.front one taken.rest h.held taken.was AreApart apart_turn host.held_once

    -- no other one of the bin began before the move
    no_other : (s : Held Cell) → Contains others s → is_held_before b t s ≡ true → ⊥
    no_other s i e =
        let r = state_leaving q job log h host good b t sound may in
        let a = r.2.only one one_was_here taken.found in
        let c = r.2.only s (other_was_here s i) e in
        Pairs-one AreApart apart_turn one taken.front (last_first taken.rest) were_apart s i (a.0 ∙ sym c.0, a.1 ∙ sym c.1)

    still_in_hand : (c : ℕ) (a : Option ℕ) → (c ≡ b → began_before t a ≡ true → ⊥) → IsInHandSince q job h.worker log h.stage c a → IsInHandSince q job h.worker gone h.stage c a
    still_in_hand c None apart i = (i.0, i.1, (λ m. has_push log.sent (Packet h.stage c m) (Packet h.stage b t) (λ e. let d : c ≡ b = cc in apart d refl) ∙ i.2 m))
    still_in_hand c (Some m) apart i = (
      i.0,
      false_from_ne_true (left_since gone h.stage c m) (λ e.
          let r = left_at gone h.stage c m e in
          ⊎_elim
          (λ (k : In (Packet h.stage c r.0) log.sent). both_ways (left_since log h.stage c m) i.1 (left_from log h.stage c m r.0 r.1 k))
          (λ (k : Packet h.stage b t ≡ Packet h.stage c r.0). let d : c ≡ b = cc in let f : t ≡ r.0 = cc in apart d (lt-ltb m t (subst (λ (n : ℕ). m < n) (sym f) r.1)))
          (In_push (Packet h.stage c r.0) (Packet h.stage b t) log.sent r.2)),
    )

    was_in_hand : (c : ℕ) (a : Option ℕ) → IsInHandSince q job h.worker gone h.stage c a → IsInHandSince q job h.worker log h.stage c a
    was_in_hand c None i = (i.0, i.1, (λ m. false_from_ne_true (has log.sent (Packet h.stage c m)) (λ k. both_ways (has gone.sent (Packet h.stage c m)) (i.2 m) (In_left (Packet h.stage c m) log.sent (Packet h.stage b t ∷ []) k))))
    was_in_hand c (Some m) i = (
      i.0,
      false_from_ne_true (left_since log h.stage c m) (λ e.
          let r = left_at log h.stage c m e in
          both_ways (left_since gone h.stage c m) i.1 (left_from gone h.stage c m r.0 r.1 (In_left (Packet h.stage c r.0) log.sent (Packet h.stage b t ∷ []) r.2))),
    )

    -- what began before the move isn't in hand any more
    has_left : (a : Option ℕ) → began_before t a ≡ true → IsInHandSince q job h.worker gone h.stage b a → ⊥
    has_left None began i = both_ways (has gone.sent (Packet h.stage b t)) (i.2 t) (push_has log.sent (Packet h.stage b t))
    has_left (Some m) began i = both_ways (left_since gone h.stage b m) i.1 (left_from gone h.stage b m t (ltb-true m t began) (push_has log.sent (Packet h.stage b t)))

    held_now : (c : ℕ) (a : Option ℕ) → (Any (IsSince c a) others ↔ IsInHandSince q job h.worker gone h.stage c a)
    held_now c a = (
      (λ i.
          let r = found (IsSince c a) others i in
          still_in_hand c a
          (λ own began. no_other r.0 r.1 (and_from (r.0.bin == b) (began_before t r.0.since) (eq-eqb r.0.bin b (r.2.0 ∙ own)) (subst (λ (x : Option ℕ). began_before t x ≡ true) (sym r.2.1) began)))
          ((host.held c a).0 (found_there (IsSince c a) h.held r.0 (other_was_here r.0 r.1) r.2))),
      (λ i.
          let r = found (IsSince c a) h.held ((host.held c a).1 (was_in_hand c a i)) in
          ⊎_elim
          (λ (e : one ≡ r.0).
          let bin : c ≡ b = sym r.2.0 ∙ (sym (ap (λ (s : Held Cell). s.bin) e) ∙ one_stays.0) in
          let began = (and_parts (one.bin == b) (began_before t one.since) taken.found).1 in
          let since : one.since ≡ a = ap (λ (s : Held Cell). s.since) e ∙ r.2.1 in
          absurd (has_left a (subst (λ (x : Option ℕ). began_before t x ≡ true) since began) (subst (λ (n : ℕ). IsInHandSince q job h.worker gone h.stage n a) bin i)))
          (λ (k : Contains others r.0). found_there (IsSince c a) others r.0 k r.2)
          (one_or_other one taken.front (last_first taken.rest) r.0 (still_in taken.front one taken.rest h.held taken.was r.0 r.1))),
    )

    moves_now : MovesInOrder (outline_of q job) h.worker gone h.stage
    moves_now =
        record {
          packets = λ c m n l i owed.
              In_left (Packet h.stage c m) log.sent (Packet h.stage b t ∷ [])
              (⊎_elim
              (λ (k : In (Packet h.stage c n) log.sent). host.moves.packets c m n l k owed)
              (λ (e : Packet h.stage b t ≡ Packet h.stage c n).
              let d : b ≡ c = cc in
              let f : t ≡ n = cc in
              let owed_b = subst (λ (x : ℕ). IsOwedBy (outline_of q job) h.worker (Packet h.stage x m)) (sym d) owed in
              subst (λ (x : ℕ). In (Packet h.stage x m) log.sent) d (may.earlier m (subst (λ (x : ℕ). m < x) (sym f) l) owed_b))
              (In_push (Packet h.stage c n) (Packet h.stage b t) log.sent i));
          groups = λ u k m l i owed. In_left (Packet h.stage ((outline_of q job).bin_of k) m) log.sent (Packet h.stage b t ∷ []) (host.moves.groups u k m l i owed);
        }

    states_now : All (IsStateOf q job gone h.stage) others
    states_now = All-each (IsStateOf q job gone h.stage) others (λ s i. state_same q job log gone refl h.stage s (All-contains (IsStateOf q job log h.stage) h.held s host.states (other_was_here s i)))

    pub bin_left : IsHostOf q job gone new
    bin_left =
        by_parts (IsHostOf q job gone) new h.stage h.worker h.records others taken.stage taken.worker taken.records taken.is
        (record {
          moves = moves_now;
          records = host.records;
          once = host.once;
          held = held_now;
          held_once = AllPairs-Pairs AreApart others (Pairs-others AreApart one taken.front (last_first taken.rest) were_apart);
          states = states_now;
        })

module _ {Cell : Type 0} (q : QueryFacts Cell) (job : JobFacts) (sound : OutlineIsSound (outline_of q job)) where
  pub leaving_bins_are_here : LeavingBinsAreHere q job
  leaving_bins_are_here log h b t host good may = leaving_is_here q job sound log h b t host good may

  pub bins_leave : LaterStagesPostNothing q → BinsLeave q job
  bins_leave nothing log b t one old new standing host good may taken =
      let here = one_was_here q job sound log old b t host good may one new taken in
      let stays = one_stays q job sound log old b t host good may one new taken in (
        bin_left q job sound log old b t host good may one new taken,
        left_state q job sound log old b t host good may nothing one here stays.0 stays.1 (All-contains (StateStands q job old.stage) old.held one standing.states here),
      )
