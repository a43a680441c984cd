-- What is known of a message that is taken where there is room for it.
use Rattle.std.proofs.Common.{◌≡◌, ◌<◌, ◌≤◌, ◌∷◌, [], ℕ, Bool, List, false, get_or, length, refl, subst, sym}
use Rattle.mp_names.specs.declared.controls.Control.{Control}
use Rattle.mp_names.specs.declared.names.Name.TheVariants.{Ctrl, Packet, Settled}
use Rattle.mp_names.specs.Logs.{Log, is_noted, with_took}
use Rattle.mp_names.specs.Names.{has}
use Rattle.mp_names.specs.Outlines.{IsOwedTo}
use Rattle.mp_names.proofs.Owners.{move_in_shape}
use Rattle.mp_bins.specs.Notes.{IsWithin, Notes, is_noted as has_note, with_note}
use Rattle.mp_model.specs.Facts.{JobFacts, QueryFacts}
use Rattle.mp_outline.specs.JobOutline.{outline_of}
use Rattle.mp_rows.specs.Entries.{AreChanges}
use Rattle.mp_rows_laws.specs.Changes.{control_taken_at, packet_taken_at}
use Rattle.mp_msg.specs.Contents.{IsControlOf, IsPacketOf}
use Rattle.mp_msg.specs.States.{BinContent}
use Rattle.mp_msg.proofs.Owed.{controls_are_owed}
use Rattle.mp_host_laws.specs.Hosted.{Hosted, StandsInOrder}
use Rattle.mp_host_laws.specs.Moving.{AreNumbersOf, IsPutIn, brought, not_waiting}
use Rattle.mp_host_laws.proofs.WakeTimes.{few_numbers}
use Rattle.mp_host.specs.Moves.{TakesPacket}
use Rattle.mp_handoff.specs.MoversOf.{IsMoversOf, IsNewControl}
use Rattle.mp_handoff.specs.MoversState.{MoversState}
use Rattle.mp_output.specs.Unwritten.{Unwritten}
use Rattle.mp_worker_invariant.specs.Kept.{AreOwedAndNew, with_host, with_movers, with_notes}
use Rattle.mp_worker_invariant.specs.Parts.{Parts}
use Rattle.mp_worker_invariant.proofs.Standing.{host_at, movers_at, steps}
use Rattle.mp_worker_parts.specs.declared.lists.ChangeLists.{ChangeLists}
use Rattle.mp_worker_take.proofs.Coming.{packet_changes, packet_held}
use Rattle.mp_worker_take.proofs.Controls.{control_changes, control_held, control_within, may_note, not_noted, notes_are}
use Rattle.mp_worker_take.proofs.Received.{control_taken, only_new, only_owed}
use Rattle.mp_worker_parts.specs.Contents.{Contents, number_of_post_times}
use Rattle.mp_worker_parts.specs.Kept.{IsKept}
use Rattle.mp_worker_take.specs.Rooms.{HasRoomToTake}
use Rattle.mp_worker_parts.proofs.Keeping.{contents, kept_as}

-- Of a control record: it may be noted and isn't yet; what it changes at the counts; and the parts once it is noted
pub record ControlComes {Cell : Type 0} (q : QueryFacts Cell) (job its : JobFacts) (p : Parts Cell) (i : ℕ) (c : Control) (m : MoversState) : Type 0 where
  pub not_yet : has_note p.notes.noted i ≡ false
  pub within : IsWithin p.notes.layout.shape c
  pub room : 1 ≤ m.room
  pub counted : (noted : Bool)
      → ((l : Log) (k : ℕ) → IsMoversOf (outline_of q job) l m → IsNewControl (outline_of q job) l m c.time k
      → (noted ≡ is_noted (outline_of q job) l m.stage c.time) × (has l.settled (Settled m.stage c.time) ≡ false))
      → AreChanges (outline_of q job) p.number p.log (with_took p.log (Ctrl i p.number)) (control_taken_at c.stage c.time noted)
  pub taken : (notes : Notes) → notes.layout ≡ p.notes.layout → notes.noted ≡ with_note p.notes.noted (record { index = i; control = c })
      → (new : MoversState) → new.stage ≡ m.stage → new.worker ≡ m.worker
      → ((l : Log) (k : ℕ) → IsMoversOf (outline_of q job) l m → IsNewControl (outline_of q job) l m c.time k → IsMoversOf (outline_of q job) (with_took l (Ctrl k m.worker)) new)
      → IsKept q job its (with_movers (with_notes p (with_took p.log (Ctrl i p.number)) notes) (with_took p.log (Ctrl i p.number)) c.stage new)

-- Of a packet: the host may take it; its numbers of groups are few; what it changes at the counts; and the parts once the host holds it
pub record PacketComes {Cell : Type 0} (q : QueryFacts Cell) (job its : JobFacts) (p : Parts Cell) (j b t : ℕ) (s : BinContent Cell) (h : Hosted Cell) : Type 0 where
  pub state : IsPacketOf q job h.stage b t s
  pub room : 1 ≤ h.room_for_bins
  pub few : (ns : List (ℕ × ℕ)) → AreNumbersOf (not_waiting h s) ns → length ns ≤ number_of_post_times q job
  pub counted : (ns : List (ℕ × ℕ)) → StandsInOrder q job h → AreNumbersOf (not_waiting h s) ns
      → AreChanges (outline_of q job) p.number p.log (with_took p.log (Packet j b t)) (packet_taken_at j t ns)
  pub taken : (new : Hosted Cell) → IsPutIn (brought b t s) h new → ((l : Log) → TakesPacket q job l b t s h new) → IsKept q job its (with_host p (with_took p.log (Packet j b t)) j new)

module _ {Cell : Type 0} {q : QueryFacts Cell} {job its : JobFacts} {p : Parts Cell} (kept : IsKept q job its p) where
  -- the job has the stage of a control record
  pub control_stage : (i v : ℕ) (c : Control) → IsControlOf job i v c → c.stage < length p.movers
  control_stage i v c content = rw kept.parts.all_movers (subst (λ (d : Control). d.stage < job.shape.stages) (sym content.2) (control_within q job kept.legal i content.0).2)

  -- and that of a packet
  pub packet_stage : {j b t : ℕ} {s : BinContent Cell} → IsPacketOf q job j b t s → j < length p.hosts
  packet_stage {j = j} {b = b} {t = t} packet = rw kept.parts.all_hosts (move_in_shape (outline_of q job) kept.sound j b t packet.0).0

  module _ {names changes : ℕ} {unsent unwritten : Unwritten} {lists : ChangeLists} {now : Contents Cell} (is : contents p names changes unsent unwritten lists ≡ now) where
    pub control_comes : (i : ℕ) (c : Control) → IsControlOf job i now.worker.number c → has now.worker.log.took (Ctrl i now.worker.number) ≡ false
        → HasRoomToTake q job now → {m : MoversState} → m ≡ get_or p.movers c.stage m → ControlComes q job its p i c m
    control_comes i c given new roomy {m = m} found =
        let content = rw (← is) at given in
        let fresh = rw (← is) at new in
        let room = rw (← is) at roomy in
        let inside = control_stage i p.number c content in
        let at = movers_at kept.parts c.stage (rw (← kept.parts.all_movers) inside) m found in
        record {
          not_yet = not_noted q job p.number p.log i c content fresh m at p.notes kept.parts.notes;
          within = may_note q job p.number p.log i c content fresh m at p.notes kept.parts.notes kept.legal;
          room = subst (λ (x : MoversState). 1 ≤ x.room) (sym found) (room.movers c.stage m inside);
          counted = control_changes q job p.number p.log i c content fresh m at;
          taken = λ notes layout noted after stage worker held.
              let owed : IsOwedTo (outline_of q job) p.number (Ctrl i p.number) = (controls_are_owed q job i p.number c content, refl) in
              let there = control_held q job p.number p.log i c content fresh m at after stage worker held in
              kept_as kept (control_taken kept.sound kept.parts i c content.2 owed fresh notes (notes_are p.notes notes _ layout noted) after there);
        }

    pub packet_comes : {j b t : ℕ} {s : BinContent Cell} → IsPacketOf q job j b t s → AreOwedAndNew (outline_of q job) now.worker.number now.worker.log (Packet j b t ∷ [])
        → HasRoomToTake q job now → {h : Hosted Cell} → h ≡ get_or p.hosts j h → PacketComes q job its p j b t s h
    packet_comes {j = j} {b = b} {t = t} {s = s} packet given roomy {h = h} found =
        let new = rw (← is) at given in
        let owed = only_owed (outline_of q job) p.number p.log (Packet j b t) (Packet j b t ∷ []) refl new in
        let fresh = only_new (outline_of q job) p.number p.log (Packet j b t) (Packet j b t ∷ []) refl new in
        let room = rw (← is) at roomy in
        let inside = packet_stage packet in
        let at = host_at kept.parts j (rw (← kept.parts.all_hosts) inside) h found in
        record {
          state = subst (λ i. IsPacketOf q job i b t s) (sym at.0) packet;
          room = subst (λ (x : Hosted Cell). 1 ≤ x.room_for_bins) (sym found) (room.hosts j h inside).1;
          few = few_numbers q kept.hands_on.nothing job kept.legal j b t s packet.1 h;
          counted = λ ns denotes told. packet_changes q job kept.sound p.number p.log j h at b t s ns denotes kept.parts.legal owed fresh packet.1 told;
          taken = λ after put takes.
              let there = packet_held q job p.number p.log j h at b t s after kept.parts.legal owed fresh put takes in
              kept_as kept ((steps kept.sound kept.parts).receive_packet j b t after owed fresh there);
        }
