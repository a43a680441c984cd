-- What a host whose worker's log is full has in hand: the states of the bins that the worker owns at the end.
use Rattle.std.proofs.Common.{◌≡◌, ◌≢◌, ◌↔◌, ℕ, suc, ◌<◌, ◌==◌, Option, None, Some, AllPairs, Any, Contains, true, refl, sym, ◌∙◌, subst, arith}
use Rattle.std.proofs.lemmas.Bool.{and_from, both_ways, eq-eqb, lt-ltb}
use Rattle.std.proofs.lemmas.List.Elements.{All-contains}
use Rattle.mp_names.specs.declared.names.Name.TheVariants.{Packet}
use Rattle.mp_names.specs.Names.{has}
use Rattle.mp_names.specs.Outlines.{OutlineIsSound, owner_before}
use Rattle.mp_names.specs.Logs.{Log, LogIsLegal, left_since}
use Rattle.mp_names.proofs.Hosts.{left_from}
use Rattle.mp_machine.specs.Promises.{LogIsFull}
use Rattle.mp_model.specs.Facts.{JobFacts, QueryFacts}
use Rattle.mp_model.specs.QueryLaws.{LaterStagesPostNothing, PostsAreLater}
use Rattle.mp_job.specs.Legal.{JobIsLegal}
use Rattle.mp_outline.specs.JobOutline.{outline_of}
use Rattle.mp_outline.proofs.Found.{found, found_there}
use Rattle.mp_outline.proofs.Pairs.{AllPairs-Pairs, Pairs-within}
use Rattle.mp_msg.specs.LastStates.{end_time}
use Rattle.mp_msg.specs.States.{IsStateBefore}
use Rattle.mp_host_laws.specs.declared.held.Held.{Held}
use Rattle.mp_host_laws.specs.Hosted.{Hosted, StandsInOrder, StateStands, began_before}
use Rattle.mp_host_laws.specs.HostOf.{IsHostOf, IsInHandSince, IsStateOf}
use Rattle.mp_host_laws.specs.Last.{LastStatesAreHeld}
use Rattle.mp_host_laws.proofs.Ends.{HasEndedBy, applied_to_end, ends_at_end, in_hand_at_end, none_sent_after, still_owned}
use Rattle.mp_host_laws.proofs.Holding.{AreApart, IsSince}
use Rattle.mp_host_laws.proofs.Lists.{All-each, Pairs-AllPairs}
use Rattle.mp_host_laws.proofs.Resting.{state_of_stay}
use Rattle.mp_host_laws.proofs.Stays.{IsStateThen, StaysSince, owner_first, state_then}

module _ {Cell : Type 0} (q : QueryFacts Cell) (job : JobFacts) (sound : OutlineIsSound (outline_of q job)) (log : Log) (h : Hosted Cell) (t : ℕ)
    (host : IsHostOf q job log h) (good : LogIsLegal (outline_of q job) h.worker log) (full : LogIsFull (outline_of q job) h.worker log)
    (inside : h.stage < job.shape.stages) (ended : HasEndedBy (outline_of q job) h.stage t) where
  -- a state in hand came before the end
  began : (b : ℕ) (a : Option ℕ) → IsInHandSince q job h.worker log h.stage b a → began_before t a ≡ true
  began b None since = refl
  began b (Some m) since = lt-ltb m t (ended.moves b m (good.took_owed (Packet h.stage b m) since.0).0)

  -- and the worker owns its bin at the end, since it didn't leave
  owns : (b : ℕ) (a : Option ℕ) → IsInHandSince q job h.worker log h.stage b a → owner_before (outline_of q job) h.stage b t ≡ h.worker
  owns b None since =
      let o = outline_of q job in
      still_owned o h.worker log good full h.stage t inside ended b 0 (omega arith) (owner_first o h.stage b ∙ since.1) (λ d l i. both_ways (has log.sent (Packet h.stage b d)) (since.2 d) i)
  owns b (Some m) since =
      let owed = good.took_owed (Packet h.stage b m) since.0 in
      let less : m < t = ended.moves b m owed.0 in
      still_owned (outline_of q job) h.worker log good full h.stage t inside ended b (suc m) (omega arith) owed.1
      (λ d l i. both_ways (left_since log h.stage b m) since.1 (left_from log h.stage b m d (omega arith) i))

  module _ (s : Held Cell) (here : Contains h.held s) where
    since_of : IsInHandSince q job h.worker log h.stage s.bin s.since
    since_of = (host.held s.bin s.since).0 (found_there (IsSince s.bin s.since) h.held s here (refl, refl))

    owned_by : owner_before (outline_of q job) h.stage s.bin t ≡ h.worker
    owned_by = owns s.bin s.since since_of

  -- a bin that the worker owns at the end has one state in hand
  state_at_end : (b : ℕ) → b < job.shape.bins → owner_before (outline_of q job) h.stage b t ≡ h.worker → (a : Option ℕ) × (s : Held Cell) × IsStateThen q job log h b t a s
  state_at_end b fits mine =
      let o = outline_of q job in
      state_then q job log h host good b t fits (in_hand_at_end o h.worker log good full h.stage t inside ended b mine) (λ m l owed. full.sent (Packet h.stage b m) owed) (none_sent_after o h.worker log good full h.stage t inside ended b)

  module _ (standing : StandsInOrder q job h) where
    stands : (s : Held Cell) → Contains h.held s → StateStands q job h.stage s
    stands s here = All-contains (StateStands q job h.stage) h.held s standing.states here

    -- so each state in hand is that one
    since_is : (s : Held Cell) (here : Contains h.held s) → s.since ≡ (state_at_end s.bin (stands s here).bin (owned_by s here)).0
    since_is s here =
        let then = (state_at_end s.bin (stands s here).bin (owned_by s here)).2 in
        (then.only s here (and_from (s.bin == s.bin) (began_before t s.since) (eq-eqb s.bin s.bin refl) (began s.bin s.since (since_of s here)))).1

    -- and is what its bin has just before the end
    is_last : LaterStagesPostNothing q → (s : Held Cell) → Contains h.held s → IsStateBefore q job h.stage s.bin t s.state
    is_last nothing s here =
        let o = outline_of q job in
        let then = (state_at_end s.bin (stands s here).bin (owned_by s here)).2 in
        let stays = subst (StaysSince o log h.stage s.bin t) (sym (since_is s here)) then.stays in
        let rests = applied_to_end o h.worker log good full h.stage t inside ended s.bin (owned_by s here) in
        state_of_stay q job sound h.worker log h.stage s.bin t inside rests nothing s refl stays (All-contains (IsStateOf q job log h.stage) h.held s host.states here) (stands s here)

    -- two states in hand are of two bins
    bins_apart : (r s : Held Cell) → Contains h.held r → Contains h.held s → AreApart r s → r.bin ≢ s.bin
    bins_apart r s i j apart same =
        let stay = state_at_end s.bin (stands s j).bin (owned_by s j) in
        let first = stay.2.only r i (and_from (r.bin == s.bin) (began_before t r.since) (eq-eqb r.bin s.bin same) (began r.bin r.since (since_of r i))) in
        apart (same, first.1 ∙ sym (since_is s j))

    once_each : AllPairs (λ r s. r.bin ≢ s.bin) h.held
    once_each = AllPairs-Pairs (λ r s. r.bin ≢ s.bin) h.held (Pairs-within AreApart (λ r s. r.bin ≢ s.bin) h.held bins_apart (Pairs-AllPairs AreApart h.held host.held_once))

    owned_here : (b : ℕ) → (Any (λ s. s.bin ≡ b) h.held ↔ ((b < job.shape.bins) × (owner_before (outline_of q job) h.stage b t ≡ h.worker)))
    owned_here b = (
      (λ i.
          let r = found (λ (s : Held Cell). s.bin ≡ b) h.held i in
          (subst (λ (c : ℕ). c < job.shape.bins) r.2 (stands r.0 r.1).bin, subst (λ (c : ℕ). owner_before (outline_of q job) h.stage c t ≡ h.worker) r.2 (owned_by r.0 r.1))),
      (λ own.
          let r = state_at_end b own.0 own.1 in
          found_there (λ (s : Held Cell). s.bin ≡ b) h.held r.1 r.2.here r.2.bin),
    )

pub last_states_are_held : {Cell : Type 0} (q : QueryFacts Cell) (job : JobFacts) → JobIsLegal q job → PostsAreLater q → LaterStagesPostNothing q → OutlineIsSound (outline_of q job) → LastStatesAreHeld q job
last_states_are_held q job legal later nothing sound h standing inside log host good full =
    let ended = ends_at_end q job legal later nothing sound h.stage inside in
    record {
      each = All-each (λ s. IsStateBefore q job h.stage s.bin (end_time job) s.state) h.held (is_last q job sound log h (end_time job) host good full inside ended standing nothing);
      owned = owned_here q job sound log h (end_time job) host good full inside ended standing;
      once = once_each q job sound log h (end_time job) host good full inside ended standing;
    }
