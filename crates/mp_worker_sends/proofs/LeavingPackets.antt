-- A packet that leaves a worker: that it may, and what it changes.
use Rattle.std.proofs.Common.{◌≡◌, ℕ, ◌<◌, ◌+◌, ◌==◌, List, [], ◌∷◌, sym, ap, ◌∙◌, subst}
use Rattle.std.proofs.lemmas.Bool.{and_parts, eqb-true}
use Rattle.mp_names.specs.declared.names.Name.TheVariants.{Packet}
use Rattle.mp_names.specs.Logs.{Log, LogIsLegal, with_sent}
use Rattle.mp_names.specs.Outlines.{IsOwedBy, OutlineIsSound}
use Rattle.mp_model.specs.Facts.{JobFacts, QueryFacts}
use Rattle.mp_outline.specs.JobOutline.{outline_of}
use Rattle.mp_rows.specs.Entries.{AreChanges}
use Rattle.mp_rows_laws.specs.Changes.{AreMore, packet_sent_at, waiting_at}
use Rattle.mp_rows_laws.proofs.Moved.{groups_leave}
use Rattle.mp_rows_laws.proofs.Packets.{packet_sent}
use Rattle.mp_msg.specs.Contents.{IsPacketOf}
use Rattle.mp_msg.specs.declared.message.Body.TheVariants.{Packet as PacketBody}
use Rattle.mp_msg.specs.States.{BinContent, IsStateBefore}
use Rattle.mp_msg.proofs.Telling.{bodies_follow_names}
use Rattle.mp_host_laws.specs.declared.held.Held.{Held}
use Rattle.mp_host_laws.specs.Hosted.{Hosted, StandsInOrder, began_before}
use Rattle.mp_host_laws.specs.HostOf.{IsHostOf}
use Rattle.mp_host_laws.specs.Laws.{MayLeaveNow}
use Rattle.mp_host_laws.specs.Moving.{AreNumbersOf, IsTakenOut, not_waiting}
use Rattle.mp_host_laws.proofs.MovingTold.{leaving_are_told}
use Rattle.mp_host_laws.proofs.Wakes.{wakes_once}
use Rattle.mp_worker_parts.specs.Below.{IsHostAt}

-- what was taken out is of the bin
pub taken_of_bin : {Cell : Type 0} (b t : ℕ) (one : Held Cell) (old new : Hosted Cell) → IsTakenOut b t one old new → one.bin ≡ b
taken_of_bin b t one old new taken = eqb-true one.bin b (and_parts (one.bin == b) (began_before t one.since) taken.found).0

-- the groups that wait no longer are counted
module _ {Cell : Type 0} (q : QueryFacts Cell) (job : JobFacts) (sound : OutlineIsSound (outline_of q job)) (log : Log) (b t : ℕ) (one : Held Cell) (h new : Hosted Cell) (ns : List (ℕ × ℕ))
    (denotes : StandsInOrder q job h) (host : IsHostOf q job log h) (legal : LogIsLegal (outline_of q job) h.worker log) (below : h.stage < job.shape.stages)
    (may : MayLeaveNow q job log h b t) (taken : IsTakenOut b t one h new) (state : IsStateBefore q job h.stage b t one.state) (told : AreNumbersOf (not_waiting new one.state) ns) where
  more : AreMore (outline_of q job) h.worker h.stage (with_sent log (Packet h.stage b t)) log ns
  more = record {
    numbers = λ u.
        groups_leave (outline_of q job) h.worker log sound legal h.stage b t (not_waiting new one.state) (wakes_once new one.state state.order.wakes) (λ v k. leaving_are_told q job sound log b t one h new v k denotes host legal below may taken) u
        ∙ ap (λ (n : ℕ). waiting_at (outline_of q job) h.worker (with_sent log (Packet h.stage b t)) h.stage u + n) (sym (told.numbers u));
    once = told.once;
    none_is_zero = told.none_is_zero;
  }

  leaving_counted : AreChanges (outline_of q job) h.worker log (with_sent log (Packet h.stage b t)) (packet_sent_at h.stage t ns)
  leaving_counted = packet_sent (outline_of q job) h.worker log sound h.stage b t ns more

-- A packet of a worker's stage that may leave its host now

module _ {Cell : Type 0} (q : QueryFacts Cell) (job : JobFacts) (w : ℕ) (log : Log) (j : ℕ) (h : Hosted Cell) (at : IsHostAt q job w log j h) (b t : ℕ) (may : MayLeaveNow q job log h b t) where
  owed_here : IsOwedBy (outline_of q job) w (Packet j b t)
  owed_here = subst (λ (v : ℕ). IsOwedBy (outline_of q job) v (Packet j b t)) at.1 (subst (λ (i : ℕ). IsOwedBy (outline_of q job) h.worker (Packet i b t)) at.0 may.owed)

  -- the bin moves, and this is what it has just before
  pub packet_content : (one : Held Cell) (new : Hosted Cell) → IsTakenOut b t one h new → IsStateBefore q job h.stage b t one.state → IsPacketOf q job j one.bin t one.state
  packet_content one new taken state =
      let here = taken_of_bin b t one h new taken in
      let content : IsPacketOf q job j b t one.state = (owed_here.0, subst (λ (i : ℕ). IsStateBefore q job i b t one.state) at.0 state) in
      subst (λ (c : ℕ). IsPacketOf q job j c t one.state) (sym here) content

  module _ (sound : OutlineIsSound (outline_of q job)) (legal : LogIsLegal (outline_of q job) w log) (below : j < job.shape.stages) where
    pub packet_changes : (one : Held Cell) (new : Hosted Cell) (ns : List (ℕ × ℕ)) → StandsInOrder q job h → IsTakenOut b t one h new → IsStateBefore q job h.stage b t one.state → AreNumbersOf (not_waiting new one.state) ns
        → AreChanges (outline_of q job) w log (with_sent log (Packet j b t)) (packet_sent_at j t ns)
    packet_changes one new ns denotes taken state told =
        let o = outline_of q job in
        let its_log = subst (λ (v : ℕ). LogIsLegal o v log) (sym at.1) legal in
        let counted = leaving_counted q job sound log b t one h new ns denotes at.2 its_log (subst (λ (i : ℕ). i < job.shape.stages) (sym at.0) below) may taken state told in
        subst (λ (v : ℕ). AreChanges o v log (with_sent log (Packet j b t)) (packet_sent_at j t ns)) at.1 (subst (λ (i : ℕ). AreChanges o h.worker log (with_sent log (Packet i b t)) (packet_sent_at i t ns)) at.0 counted)

  -- the host without it
  pub host_without : (new : Hosted Cell) → new.stage ≡ h.stage → new.worker ≡ h.worker → IsHostOf q job (with_sent log (Packet h.stage b t)) new → IsHostAt q job w (with_sent log (Packet j b t)) j new
  host_without new stage worker host = (stage ∙ at.0, worker ∙ at.1, subst (λ (i : ℕ). IsHostOf q job (with_sent log (Packet i b t)) new) at.0 host)

-- A state that comes back

same_packet : {Cell : Type 0} (i j b c t u : ℕ) (s r : BinContent Cell) → PacketBody i b t s ≡ PacketBody j c u r → s ≡ r
same_packet i j b c t u s r e = cc

-- a packet of the same name holds the same state
pub state_back : {Cell : Type 0} (q : QueryFacts Cell) (job : JobFacts) (i j b c t u : ℕ) (s r : BinContent Cell) → IsPacketOf q job i b t s → IsPacketOf q job j c u r → Packet i b t ∷ [] ≡ Packet j c u ∷ [] → s ≡ r
state_back q job i j b c t u s r comes was named = same_packet i j b c t u s r (bodies_follow_names q job (PacketBody i b t s) (PacketBody j c u r) comes was named)

-- so the bin with it is what it was
pub bin_back : {Cell : Type 0} (one : Held Cell) (s : BinContent Cell) → s ≡ one.state → record { bin = one.bin; since = one.since; state = s } ≡ one
bin_back {Cell} one s same = ap (λ (r : BinContent Cell). record { bin = one.bin; since = one.since; state = r }) same
