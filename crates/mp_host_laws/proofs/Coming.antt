-- A host that is given the state that a packet brings holds what its worker's log says with that packet taken.
use Rattle.std.proofs.Common.{◌≡◌, ◌↔◌, ◌⊎◌, ℕ, ◌<◌, ◌≤◌, nat_lt, false, Option, None, Some, [], ◌∷◌, ◌++◌, All, AllPairs, Any, Contains, filter, refl, sym, ap, ◌∙◌, subst, inl, inr, ⊎_elim}
use Rattle.std.proofs.lemmas.Bool.{both_ways, false_from_ne_true, le-ltb, lt-ltb, or_from, or_left}
use Rattle.std.proofs.lemmas.List.Elements.{All-contains, Contains-append_left, Contains-push, Contains-push_cases}
use Rattle.mp_names.specs.declared.names.Name.TheVariants.{Group, Packet}
use Rattle.mp_names.specs.Names.{has, In}
use Rattle.mp_names.specs.Outlines.{IsOwedTo}
use Rattle.mp_names.specs.Logs.{Log, LogIsLegal, left_since, with_took}
use Rattle.mp_names.proofs.Hosts.{left_at}
use Rattle.mp_names.proofs.Lists.{In_left, In_push}
use Rattle.mp_bins.specs.Bins.{bin_of_key}
use Rattle.mp_model.specs.declared.record.Rec.{Rec}
use Rattle.mp_model.specs.Entry.{Entry}
use Rattle.mp_model.specs.Facts.{JobFacts, QueryFacts}
use Rattle.mp_model.specs.Folds.{fold_of}
use Rattle.mp_model.specs.Stages.{stage_records}
use Rattle.mp_outline.specs.JobOutline.{name_of_record, outline_of}
use Rattle.mp_outline.specs.Laws.{timeline_of}
use Rattle.mp_outline.proofs.Found.{found, found_there}
use Rattle.mp_outline.proofs.Outputs.{timeline_rises}
use Rattle.mp_outline.proofs.Pairs.{AllPairs-Pairs}
use Rattle.mp_postdated.specs.Wakes.{Has}
use Rattle.mp_msg.specs.Contents.{IsRecordOf}
use Rattle.mp_msg.specs.States.{BinContent, IsOpening, IsPostedAt, IsStateBefore, cell_in}
use Rattle.mp_host_laws.specs.declared.held.Held.{Held}
use Rattle.mp_host_laws.specs.Hosted.{Hosted}
use Rattle.mp_host_laws.specs.Moving.{IsPutIn, brought}
use Rattle.mp_host_laws.specs.HostOf.{CameInto, IsHostOf, IsInHandSince, IsStateOf, IsWakeOf, OpensInto, is_taken_in}
use Rattle.mp_host_laws.specs.Laws.{PacketsAreHeld}
use Rattle.mp_host_laws.proofs.Lists.{All-each, Pairs-AllPairs, take_below}
use Rattle.mp_host_laws.proofs.Logs.{has_push, push_has}
use Rattle.mp_host_laws.proofs.Parts.{Pairs-push}
use Rattle.mp_host_laws.proofs.Untaken.{none_applied_untaken, none_sent_untaken}
use Rattle.mp_host_laws.proofs.Holding.{AreApart, by_parts, IsSince, state_same}

module _ {Cell : Type 0} (q : QueryFacts Cell) (job : JobFacts) where
  -- What a packet brings

  module _ (log : Log) (h : Hosted Cell) (b t : ℕ) (s : BinContent Cell) (host : IsHostOf q job log h) (good : LogIsLegal (outline_of q job) h.worker log)
      (comes : IsOwedTo (outline_of q job) h.worker (Packet h.stage b t)) (untaken : has log.took (Packet h.stage b t) ≡ false) (before : IsStateBefore q job h.stage b t s) where
    late : (u k : ℕ) → bin_of_key k job.shape.bins ≡ b → t ≤ u → has log.applied (Group h.stage u k) ≡ false
    late u k own l = false_from_ne_true (has log.applied (Group h.stage u k)) (none_applied_untaken (outline_of q job) h.worker log good h.stage b t host.moves comes untaken u k own l)

    -- what a packet brings for u came into the state, and nothing else did
    brought_wakes : (u k : ℕ) → bin_of_key k job.shape.bins ≡ b → (Has s.wakes u k ↔ ((has log.applied (Group h.stage u k) ≡ false) × IsWakeOf q job log h.stage (Some t) k u))
    brought_wakes u k own = (
      (λ i. let a = (before.wakes u k own).0 i in (late u k own a.0, into a.0 a.1)),
      (λ a. (before.wakes u k own).1 (back a.1)),
    )
      where
        into : t ≤ u → IsOpening q h.stage k u ⊎ ((v : ℕ) × (v < t) × IsPostedAt q job h.stage k v u) → IsWakeOf q job log h.stage (Some t) k u
        into l was =
            ⊎_elim (λ (c : IsOpening q h.stage k u). inl (c, l)) (λ (c : (v : ℕ) × (v < t) × IsPostedAt q job h.stage k v u). inr (c.0, c.2, inl (c.1, l))) was

        back : IsWakeOf q job log h.stage (Some t) k u → (t ≤ u) × (IsOpening q h.stage k u ⊎ ((v : ℕ) × (v < t) × IsPostedAt q job h.stage k v u))
        back wake =
            ⊎_elim
            (λ (c : IsOpening q h.stage k u × OpensInto (Some t) u). (c.1, inl c.0))
            (λ (c : (v : ℕ) × IsPostedAt q job h.stage k v u × CameInto log h.stage (Some t) k v u).
            ⊎_elim
            (λ (l : (c.0 < t) × (t ≤ u)). (l.1, inr (c.0, l.0, c.1)))
            (λ (r : (t ≤ c.0) × In (Group h.stage c.0 k) log.applied). absurd (both_ways (has log.applied (Group h.stage c.0 k)) (late c.0 k own r.0) r.1))
            c.2)
            wake

    brought_cells : (k : ℕ) → bin_of_key k job.shape.bins ≡ b → cell_in (q.fresh h.stage) s.cells k ≡ fold_of q h.stage (q.opening h.stage k) (filter (λ e. is_taken_in log h.stage (Some t) e.time k) (timeline_of q job h.stage k))
    brought_cells k own =
        let j = h.stage in
        before.cells k own
        ∙ ap (fold_of q j (q.opening j k))
        (sym (take_below (λ (e : Entry). e.time) (λ (e : Entry). is_taken_in log j (Some t) e.time k) t (timeline_of q job j k) (timeline_rises q j k (stage_records q job.events j))
        (λ e i l. or_left (nat_lt e.time t) (has log.applied (Group j e.time k)) (lt-ltb e.time t l))
        (λ e i l. or_from (nat_lt e.time t) (has log.applied (Group j e.time k)) (le-ltb e.time t l) (late e.time k own l))))

    brought_state : IsStateOf q job log h.stage (brought b t s)
    brought_state = record { wakes = brought_wakes; cells = brought_cells }

    -- The host that has it

    abbrev came : Log
    came = with_took log (Packet h.stage b t)

    -- what was in hand is so
    still_in_hand : (c : ℕ) (a : Option ℕ) → IsInHandSince q job h.worker log h.stage c a → IsInHandSince q job h.worker came h.stage c a
    still_in_hand c None i = i
    still_in_hand c (Some m) i = (In_left (Packet h.stage c m) log.took (Packet h.stage b t ∷ []) i.0, i.1)

    -- so is what came
    now_in_hand : IsInHandSince q job h.worker came h.stage b (Some t)
    now_in_hand = (
      push_has log.took (Packet h.stage b t),
      false_from_ne_true (left_since log h.stage b t) (λ e.
          let r = left_at log h.stage b t e in
          none_sent_untaken (outline_of q job) h.worker log good h.stage b t host.moves comes untaken r.0 r.1 r.2),
    )

    -- and nothing else
    in_hand_cases : (c : ℕ) (a : Option ℕ) → IsInHandSince q job h.worker came h.stage c a → IsInHandSince q job h.worker log h.stage c a ⊎ ((b ≡ c) × (Some t ≡ a))
    in_hand_cases c None i = inl i
    in_hand_cases c (Some m) i =
        ⊎_elim
        (λ (k : In (Packet h.stage c m) log.took). inl (k, i.1))
        (λ (e : Packet h.stage b t ≡ Packet h.stage c m). let d : b ≡ c = cc in let f : t ≡ m = cc in inr (d, ap Some f))
        (In_push (Packet h.stage c m) (Packet h.stage b t) log.took i.0)

    held_now : (c : ℕ) (a : Option ℕ) → (Any (IsSince c a) (h.held ++ brought b t s ∷ []) ↔ IsInHandSince q job h.worker came h.stage c a)
    held_now c a = (
      (λ i.
          let r = found (IsSince c a) (h.held ++ brought b t s ∷ []) i in
          ⊎_elim
          (λ (k : Contains h.held r.0). still_in_hand c a ((host.held c a).0 (found_there (IsSince c a) h.held r.0 k r.2)))
          (λ (e : brought b t s ≡ r.0).
          let bin : b ≡ c = ap (λ (r : Held Cell). r.bin) e ∙ r.2.0 in
          let since : Some t ≡ a = ap (λ (r : Held Cell). r.since) e ∙ r.2.1 in
          subst (λ (n : ℕ). IsInHandSince q job h.worker came h.stage n a) bin (subst (λ (x : Option ℕ). IsInHandSince q job h.worker came h.stage b x) since now_in_hand))
          (Contains-push_cases h.held (brought b t s) r.0 r.1)),
      (λ i.
          ⊎_elim
          (λ (k : IsInHandSince q job h.worker log h.stage c a). let r = found (IsSince c a) h.held ((host.held c a).1 k) in found_there (IsSince c a) (h.held ++ brought b t s ∷ []) r.0 (Contains-append_left h.held (brought b t s ∷ []) r.0 r.1) r.2)
          (λ (k : (b ≡ c) × (Some t ≡ a)). found_there (IsSince c a) (h.held ++ brought b t s ∷ []) (brought b t s) (Contains-push h.held (brought b t s)) k)
          (in_hand_cases c a i)),
    )

    held_once_now : AllPairs AreApart (h.held ++ brought b t s ∷ [])
    held_once_now =
        AllPairs-Pairs AreApart (h.held ++ brought b t s ∷ [])
        (Pairs-push AreApart h.held (brought b t s) (Pairs-AllPairs AreApart h.held host.held_once)
        (λ r i e.
        let there = (host.held b (Some t)).0 (found_there (IsSince b (Some t)) h.held r i e) in
        both_ways (has log.took (Packet h.stage b t)) untaken there.0))

    states_now : All (IsStateOf q job came h.stage) (h.held ++ brought b t s ∷ [])
    states_now =
        All-each (IsStateOf q job came h.stage) (h.held ++ brought b t s ∷ []) (λ r i.
        ⊎_elim
        (λ (k : Contains h.held r). state_same q job log came refl h.stage r (All-contains (IsStateOf q job log h.stage) h.held r host.states k))
        (λ (e : brought b t s ≡ r). subst (IsStateOf q job came h.stage) e (state_same q job log came refl h.stage (brought b t s) brought_state))
        (Contains-push_cases h.held (brought b t s) r i))

    -- a packet isn't a record
    records_now : (r : Rec) → (Contains h.records r ↔ (IsRecordOf q job h.stage r × In (name_of_record h.stage r) came.took × (has log.applied (Group h.stage r.time r.key) ≡ false)))
    records_now r =
        let same = has_push log.took (name_of_record h.stage r) (Packet h.stage b t) (λ e. not_packet e) in (
          (λ i. let a = (host.records r).0 i in (a.0, same ∙ a.1, a.2)),
          (λ a. (host.records r).1 (a.0, sym same ∙ a.1, a.2)),
        )
      where
        not_packet : Packet h.stage b t ≡ name_of_record h.stage r → ⊥
        not_packet e = cc

    pub packet_held : (new : Hosted Cell) → IsPutIn (brought b t s) h new → IsHostOf q job came new
    packet_held new put =
        by_parts (IsHostOf q job came) new h.stage h.worker h.records (h.held ++ brought b t s ∷ []) put.stage put.worker put.records put.held
        (record {
          moves = record { packets = host.moves.packets; groups = host.moves.groups };
          records = records_now;
          once = host.once;
          held = held_now;
          held_once = held_once_now;
          states = states_now;
        })

  pub packets_are_held : PacketsAreHeld q job
  packets_are_held log b t s old new host good comes untaken before put = packet_held log old b t s host good comes untaken before new put
