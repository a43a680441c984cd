-- The packet that a worker sends.
use Rattle.std.proofs.Common.{◌≡◌, ◌∙◌, ℕ, ◌<◌, List, sym, ap, subst, set}
use Rattle.std.proofs.lemmas.List.{length-set}
use Rattle.mp_names.specs.declared.controls.Move.{Move}
use Rattle.mp_names.specs.declared.kinds.Kind.TheVariants.{Extract}
use Rattle.mp_names.specs.declared.locations.Loc.TheVariants.{Host}
use Rattle.mp_names.specs.declared.names.Name.{Name}
use Rattle.mp_names.specs.declared.names.Name.TheVariants.{Packet}
use Rattle.mp_names.specs.declared.pointstamps.Change.{Change}
use Rattle.mp_names.specs.Frontiers.{HasReached}
use Rattle.mp_names.specs.Logs.{Log, LogIsLegal, with_sent}
use Rattle.mp_names.specs.Names.{IsLeast}
use Rattle.mp_names.specs.Outlines.{OutlineIsSound, receiver}
use Rattle.mp_names.proofs.Orders.{least_unique}
use Rattle.mp_machine.specs.Steps.{IsDue}
use Rattle.mp_stamps.specs.declared.seen.Seen.{Seen}
use Rattle.mp_stamps.specs.Seen.{seen_at}
use Rattle.mp_bins.specs.Notes.{Notes}
use Rattle.mp_model.specs.Facts.{JobFacts, QueryFacts}
use Rattle.mp_outline.specs.JobOutline.{outline_of}
use Rattle.mp_rows_laws.specs.Changes.{packet_sent_at}
use Rattle.mp_msg.specs.States.{IsStateBefore}
use Rattle.mp_worker_parts.specs.Below.{GivesUp, NothingLeaves}
use Rattle.mp_host_laws.specs.declared.held.Held.{Held}
use Rattle.mp_host_laws.specs.Hosted.{Hosted, StandsInOrder}
use Rattle.mp_host_laws.specs.HostOf.{IsHostOf}
use Rattle.mp_host_laws.specs.Laws.{MayLeaveNow}
use Rattle.mp_host_laws.specs.Moving.{AreNumbersOf, IsPutIn, IsTakenOut, not_waiting}
use Rattle.mp_handoff.specs.Due.{MoversMatchLogAndSeen, IsDueHere, IsLeastDue, IsMoveAway, MayLeaveHere}
use Rattle.mp_handoff.specs.MoversState.{MoversState}
use Rattle.mp_handoff.specs.MoversOf.{IsMoversOf}
use Rattle.mp_worker_parts.specs.Below.{CanDo}
use Rattle.mp_worker_parts.specs.Below.{machine_worker}
use Rattle.mp_worker_parts.specs.Below.{AreMoversAt, ArePartsOf, IsHostAt, Parts}
use Rattle.mp_worker_parts.specs.Below.{packet_legal}
use Rattle.mp_worker_parts.specs.Below.{put_at}
use Rattle.mp_worker_parts.specs.Below.{other_hosts, other_movers}
use Rattle.mp_worker_sends.specs.Leaving.{AreChangesOfLeaving, IsDueNow, IsLeaving}
use Rattle.mp_worker_sends.proofs.LeavingPackets.{host_without, packet_changes, packet_content, taken_of_bin}
use Rattle.mp_worker_parts.specs.Below.{asked, movers_informed, steps, told}

module _ {Cell : Type 0} {q : QueryFacts Cell} {job : JobFacts} {p : Parts Cell} (sound : OutlineIsSound (outline_of q job)) (are : ArePartsOf q job p) (j : ℕ) (below : j < job.shape.stages)
    (m : MoversState) (at : AreMoversAt q job p.number p.log j m) where
  informed : MoversMatchLogAndSeen (outline_of q job) p.log p.notes p.seen m
  informed = movers_informed sound are j m at

  -- what is told of movers that are asked by a log
  abbrev IfInformed : (Log → Type 0) → Type 0
  IfInformed P = (l : Log) → MoversMatchLogAndSeen (outline_of q job) l p.notes p.seen m → P l

  -- where none is due, none may be sent
  pub none_to_extract : ((l : Log) (b t : ℕ) → MoversMatchLogAndSeen (outline_of q job) l p.notes p.seen m → MayLeaveHere (outline_of q job) l p.seen m b t → ⊥) → (x : Name) → CanDo q job p (Extract j) x → ⊥
  none_to_extract none x can =
      (told sound are).no_extract j
      (λ b t least reached.
      none p.log b t informed (
        subst (λ (w : ℕ). IsLeast (IsDueHere (outline_of q job) p.log p.seen w m.stage) (Packet m.stage b t)) (sym at.1)
            (subst (λ (i : ℕ). IsLeast (IsDueHere (outline_of q job) p.log p.seen p.number i) (Packet i b t)) (sym at.0) least),
        subst (λ (i : ℕ). HasReached (seen_at p.seen (Host i)) t) (sym at.0) reached,
      ))
      x can

  -- the packet of a move that they say may leave is due
  pub due_now : (mv : Move) → IfInformed (λ l. MayLeaveHere (outline_of q job) l p.seen m mv.bin mv.time) → IfInformed (λ l. IsMoveAway (outline_of q job) m.stage m.worker mv) → IsDueNow (outline_of q job) p.number p.log p.seen j mv
  due_now mv may away =
      let here = may p.log informed in
      record {
        least =
            subst (λ (i : ℕ). IsLeast (IsDueHere (outline_of q job) p.log p.seen p.number i) (Packet i mv.bin mv.time)) at.0
            (subst (λ (w : ℕ). IsLeast (IsDueHere (outline_of q job) p.log p.seen w m.stage) (Packet m.stage mv.bin mv.time)) at.1 here.0);
        reached = subst (λ (i : ℕ). HasReached (seen_at p.seen (Host i)) mv.time) at.0 here.1;
        to = (away p.log informed).2 ∙ ap (λ (i : ℕ). receiver (outline_of q job) (Packet i mv.bin mv.time)) at.0;
      }

  -- where it wasn't sent the host is given back what it gave up
  pub packet_still_kept : (h : Hosted Cell) → IsHostAt q job p.number p.log j h → ArePartsOf q job (record p { hosts = set p.hosts j h; movers = set p.movers j m })
  packet_still_kept h host =
      other_movers (other_hosts are (set p.hosts j h) (length-set p.hosts j h) (put_at (IsHostAt q job p.number p.log) p.hosts j h host are.hosts))
      (set p.movers j m) (length-set p.movers j m) (put_at (AreMoversAt q job p.number p.log) p.movers j m at are.movers)

module _ {Cell : Type 0} {q : QueryFacts Cell} {job : JobFacts} {p : Parts Cell} (sound : OutlineIsSound (outline_of q job)) (are : ArePartsOf q job p) (j : ℕ) (below : j < job.shape.stages)
    (mv : Move) (due : IsDueNow (outline_of q job) p.number p.log p.seen j mv) where
  pub can_extract : CanDo q job p (Extract j) (Packet j mv.bin mv.time)
  can_extract = (told sound are).extract j mv.bin mv.time below due.least due.reached

  -- no other is next
  pub one_packet : (x : Name) → CanDo q job p (Extract j) x → Packet j mv.bin mv.time ≡ x
  one_packet x can = least_unique (IsDue (outline_of q job) p.number (machine_worker p) j) (Packet j mv.bin mv.time) x can_extract.0 can.0

  pub packet_stays_legal : LogIsLegal (outline_of q job) p.number (with_sent p.log (Packet j mv.bin mv.time))
  packet_stays_legal = packet_legal q job sound p.number are.worker p.log are.legal p.seen are.done j mv.bin mv.time due.least due.reached

  -- once it is sent, its movers know it
  pub packet_kept : (roomy next : MoversState) → AreMoversAt q job p.number p.log j roomy → next.stage ≡ roomy.stage → next.worker ≡ roomy.worker
      → ((l : Log) (notes : Notes) (seen : Seen) → MoversMatchLogAndSeen (outline_of q job) l notes seen roomy → IsLeastDue (outline_of q job) l seen roomy mv.bin mv.time → IsMoversOf (outline_of q job) (with_sent l (Packet roomy.stage mv.bin mv.time)) next)
      → (h : Hosted Cell) → IsHostAt q job p.number (with_sent p.log (Packet j mv.bin mv.time)) j h
      → ArePartsOf q job (record p { log = with_sent p.log (Packet j mv.bin mv.time); hosts = set p.hosts j h; movers = set p.movers j next })
  packet_kept roomy next held stage worker holds h host =
      let least = subst (λ (i : ℕ). IsLeast (IsDueHere (outline_of q job) p.log p.seen p.number i) (Packet i mv.bin mv.time)) (sym held.0) due.least in
      let mine = subst (λ (w : ℕ). IsLeast (IsDueHere (outline_of q job) p.log p.seen w roomy.stage) (Packet roomy.stage mv.bin mv.time)) (sym held.1) least in
      (steps sound are).extract j mv.bin mv.time h next due.least due.reached host (
        stage ∙ held.0,
        worker ∙ held.1,
        subst (λ (i : ℕ). IsMoversOf (outline_of q job) (with_sent p.log (Packet i mv.bin mv.time)) next) held.0 (holds p.log p.notes p.seen (movers_informed sound are j roomy held) mine),
      )

  module _ (h : Hosted Cell) (host : IsHostAt q job p.number p.log j h) where
    its_log : LogIsLegal (outline_of q job) h.worker p.log
    its_log = subst (λ (w : ℕ). LogIsLegal (outline_of q job) w p.log) (sym host.1) are.legal

    -- the host may give it up
    now : MayLeaveNow q job p.log h mv.bin mv.time
    now = (asked sound are).leaves j mv.bin mv.time h below host due.least due.reached

    -- the host has it
    pub some_leaves : ((l : Log) → NothingLeaves q job l h mv.bin mv.time) → ⊥
    some_leaves none = none p.log host.2 its_log now

    pub leaving : (one : Held Cell) (out : Hosted Cell) → IsTakenOut mv.bin mv.time one h out → ((l : Log) → GivesUp q job l mv.bin mv.time one h out) → IsLeaving q job p j mv one out
    leaving one out taken gives =
        let left = gives p.log host.2 its_log now in
        record {
          bin = taken_of_bin mv.bin mv.time one h out taken;
          content = packet_content q job p.number p.log j h host mv.bin mv.time now one out taken left.1;
          state = subst (λ (k : ℕ). IsStateBefore q job k mv.bin mv.time one.state) host.0 left.1;
          without = host_without q job p.number p.log j h host mv.bin mv.time now out taken.stage taken.worker left.0;
        }

    -- the groups that wait no longer are counted
    pub changes_of_packet : StandsInOrder q job h → (changes : List Change)
        → ((one : Held Cell) (out : Hosted Cell) → IsTakenOut mv.bin mv.time one h out → (ns : List (ℕ × ℕ)) × AreNumbersOf (not_waiting out one.state) ns × (changes ≡ packet_sent_at j mv.time ns))
        → AreChangesOfLeaving q job p.number p.log j mv h changes
    changes_of_packet denotes changes listed one out taken state =
        let numbers = listed one out taken in
        rw numbers.2 (packet_changes q job p.number p.log j h host mv.bin mv.time now sound are.legal below one out numbers.0 denotes taken (subst (λ (i : ℕ). IsStateBefore q job i mv.bin mv.time one.state) (sym host.0) state) numbers.1)

-- movers in which room is made
pub with_room : {Cell : Type 0} (q : QueryFacts Cell) (job : JobFacts) (w : ℕ) (log : Log) (j : ℕ) (m roomy : MoversState)
    → AreMoversAt q job w log j m
    → roomy ≡ record m { room_for_sent = roomy.room_for_sent }
    → ((l : Log) → IsMoversOf (outline_of q job) l m → IsMoversOf (outline_of q job) l roomy)
    → AreMoversAt q job w log j roomy
with_room q job w log j m roomy at same held = (ap (λ (n : MoversState). n.stage) same ∙ at.0, ap (λ (n : MoversState). n.worker) same ∙ at.1, held log at.2)

-- a host that gets back what was taken out of it is what it was
pub host_back : {Cell : Type 0} (q : QueryFacts Cell) (job : JobFacts) (w : ℕ) (log : Log) (j b t : ℕ) (one again : Held Cell) (h out new : Hosted Cell)
    → IsHostAt q job w log j h
    → IsTakenOut b t one h out
    → again ≡ one
    → IsPutIn again out new
    → ((before : Hosted Cell) (l : Log) (c u : ℕ) → IsHostOf q job l before → IsTakenOut c u again before out → IsHostOf q job l new)
    → IsHostAt q job w log j new
host_back {Cell} q job w log j b t one again h out new at taken same put holds = (
  put.stage ∙ taken.stage ∙ at.0,
  put.worker ∙ taken.worker ∙ at.1,
  holds h log b t at.2 (subst (λ (s : Held Cell). IsTakenOut b t s h out) (sym same) taken),
)
